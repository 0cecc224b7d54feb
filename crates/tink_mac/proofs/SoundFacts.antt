-- The MACs that keys build accept their own tags, of ten bytes or more.
use Rattle.std.proofs.Common.{◌≡◌, ◌≤◌, ◌<◌, ℕ, List, Bool, true, false, Option, Some, None, Result, Ok, Err, cond, length, refl, sym, subst, arith}
use Rattle.std.specs.Prelude.{is_ok, nat_eq, nat_lt}
use Rattle.std.proofs.lemmas.Bool.{false≢true, ltb-false, or_parts}
use Rattle.std.proofs.lemmas.Bool.Decides.{Decides-eqb}
use Rattle.std.proofs.lemmas.List.{length-take-le}
use Rattle.standards.specs.AesKeys.{aes}
use Rattle.standards.proofs.AesLengths.{length-aes}
use Rattle.standards.proofs.Lengths.{length-cmac}
use Rattle.hash_keys.specs.declared.Hash.{Hash}
use Rattle.hash_keys.specs.Hash.{digest_size}
use Rattle.hash_keys.specs.Hash as codes_of
use Rattle.hash_keys.proofs.Lengths.{length-hmac_of}
use Rattle.tink_io.specs.declared.error.Kind.{Kind}
use Rattle.tink_io.specs.declared.error.Kind.TheVariants.{BadKeySize, BadTagSize, InvalidKey}
use Rattle.tink_io.specs.Answering.{made_of}
use Rattle.tink_primitives.specs.declared.primitive.Primitive.{Primitive}
use Rattle.tink_primitives.specs.declared.primitive.Primitive.TheVariants as sorts
use Rattle.tink_proto_keys.specs.Mac.{HmacKey}
use Rattle.tink_proto_keys.specs.declared.mac.HmacParams.{HmacParams}
use Rattle.tink_proto_keys.specs.declared.mac.AesCmacKey.{AesCmacKey}
use Rattle.tink_proto_keys.specs.declared.mac.AesCmacParams.{AesCmacParams}
use Rattle.tink_key_manager.specs.Manager.{built_by}
use Rattle.tink_keysets.proofs.KeyEntries.{cond_ok, made_ok}
use Rattle.tink_prf_subtle.specs.AesCmac.{cmac_of}
use Rattle.tink_mac.specs.KeyTypes.{cmac_built, cmac_by_params, hmac_built, hmac_by_params, or_invalid}
use Rattle.tink_mac.specs.MacKinds.{kind_computes, kind_tag, kind_verifies}
use Rattle.tink_mac.specs.Rotation.{IsSound}
use Rattle.tink_mac.specs.TagLaws.{own_tag_own}
use Rattle.tink_mac.specs.Tags.{cmac_tag, hmac_tag, hmac_tags, is_outside, CmacTags, HmacTags}
use Rattle.tink_mac.specs.declared.mac_kind.MacKind.{MacKind}
use Rattle.tink_mac.specs.declared.mac_kind.MacKind.TheVariants as kinds

unrefused : {T : Type 0} (b : Bool) (k : Kind) (r : Result T Kind) (v : T) → cond b (Err k) r ≡ Ok v → (b ≡ false) × (r ≡ Ok v)
unrefused true k r v e = absurd (cc)
unrefused false k r v e = (refl, e)

accepted : {T : Type 0} (b : Bool) (k : Kind) (r : Result T Kind) (v : T) → cond b r (Err k) ≡ Ok v → (b ≡ true) × (r ≡ Ok v)
accepted true k r v e = (refl, e)
accepted false k r v e = absurd (cc)

-- ---- HMAC

pub record HmacFits (m : HmacTags) : Type 0 where
  pub low : 10 ≤ m.tag_size
  pub high : m.tag_size ≤ digest_size m.hmac.hash

tags_fit : (h : Option Hash) (key : List ℕ) (t : ℕ) (m : HmacTags) → hmac_tags h key t ≡ Ok m → HmacFits m
tags_fit None key t m e = absurd (cc)
tags_fit (Some h) key t m e =
    let made : HmacTags = record { hmac = record { hash = h; key = key }; tag_size = t } in
    let first = unrefused (is_outside 10 (digest_size h) t) BadTagSize (cond (nat_lt (length key) 16) (Err BadKeySize) (Ok made)) m e in
    let second = unrefused (nat_lt (length key) 16) BadKeySize (Ok made) m first.1 in
    let within = or_parts (nat_lt t 10) (nat_lt (digest_size h) t) first.0 in
    let same : made ≡ m = cc second.1 in
    subst HmacFits same (record { low = ltb-false t 10 within.0; high = ltb-false (digest_size h) t within.1 })

was_valid : {T : Type 0} (r : Result T Kind) (v : T) → or_invalid r ≡ Ok v → r ≡ Ok v
was_valid (Ok x) v e = e
was_valid (Err k) v e = absurd (cc)

params_fit : (p : Option HmacParams) (key : List ℕ) (m : HmacTags) → hmac_by_params p key ≡ Ok m → HmacFits m
params_fit None key m e = absurd (cc)
params_fit (Some p) key m e = tags_fit _ key p.tag_size m (was_valid _ m e)

pub hmac_fits : (k : HmacKey) (m : HmacTags) → hmac_built k ≡ Ok m → HmacFits m
hmac_fits k m e = params_fit k.params k.key_value m (cond_ok (nat_eq k.version 0) (hmac_by_params k.params k.key_value) InvalidKey m e)

pub hmac_long : (m : HmacTags) (message : List ℕ) → HmacFits m → 5 < length (hmac_tag m message)
hmac_long m message fits =
    let whole : m.tag_size ≤ length (codes_of.hmac_of m.hmac.hash m.hmac.key message) = subst (λ n. m.tag_size ≤ n) (sym (length-hmac_of m.hmac.hash m.hmac.key message)) fits.high in
    omega (arith, length-take-le m.tag_size _ whole, fits.low)

-- ---- AES-CMAC

record CmacFits (m : CmacTags) : Type 0 where
  pub low : 10 ≤ m.tag_size
  pub high : m.tag_size ≤ 16
  pub key : length m.key ≡ 32

sizes_fit : (whole outside : Bool) → is_ok {T = Unit {0}} {E = Kind} (cond whole (cond outside (Err BadTagSize) (Ok tt)) (Err BadKeySize)) ≡ true → (whole ≡ true) × (outside ≡ false)
sizes_fit true false e = (refl, refl)
sizes_fit true true e = absurd (false≢true e)
sizes_fit false outside e = absurd (false≢true e)

cmac_params_fit : (p : Option AesCmacParams) (key : List ℕ) (m : CmacTags) → cmac_by_params p key ≡ Ok m → CmacFits m
cmac_params_fit None key m e = absurd (cc)
cmac_params_fit (Some p) key m e =
    let made : CmacTags = record { key = key; tag_size = p.tag_size } in
    let first = accepted _ InvalidKey (Ok made) m e in
    let sizes = sizes_fit (nat_eq (length key) 32) (is_outside 10 16 p.tag_size) first.0 in
    let within = or_parts (nat_lt p.tag_size 10) (nat_lt 16 p.tag_size) sizes.1 in
    let same : made ≡ m = cc first.1 in
    subst CmacFits same (record { low = ltb-false p.tag_size 10 within.0; high = ltb-false 16 p.tag_size within.1; key = (Decides-eqb (length key) 32).0 sizes.0 })

cmac_fits : (k : AesCmacKey) (m : CmacTags) → cmac_built k ≡ Ok m → CmacFits m
cmac_fits k m e = cmac_params_fit k.params k.key_value m (cond_ok (nat_eq k.version 0) (cmac_by_params k.params k.key_value) InvalidKey m e)

cmac_long : (m : CmacTags) (message : List ℕ) → CmacFits m → 5 < length (cmac_tag m message)
cmac_long m message fits =
    let long : 4 ≤ length m.key = omega (arith, fits.key) in
    let size = length-cmac (aes m.key) message (λ block. length-aes m.key block long) in
    let whole : m.tag_size ≤ length (cmac_of m.key message) = omega (arith, size, fits.high) in
    omega (arith, length-take-le m.tag_size _ whole, fits.low)

-- ---- both

sound : (m : MacKind) → ((message : List ℕ) → 5 < length (kind_tag m message)) → IsSound kind_computes kind_verifies m
sound m long = record {
  own = λ message tag e. let same : kind_tag m message ≡ tag = cc in subst (λ t. kind_verifies m t message ≡ Ok tt) same (own_tag_own (kind_tag m message));
  long = λ message tag e. let same : kind_tag m message ≡ tag = cc in subst (λ t. 5 < length t) same (long message);
}

pub by_message : {Key Q : Type 0} (built : Key → Result Q Kind) (o : Option Key) (q : Q) → built_by built o ≡ Ok q → (k : Key) × (built k ≡ Ok q)
by_message built None q e = absurd (cc)
by_message built (Some k) q e = (k, e)

module _ {K A D HD HE F S St V : Type 0} where
  abbrev hmac_of : HmacTags → Primitive K A D HD HE MacKind F S St V
  hmac_of m = sorts.Mac (kinds.Hmac m)

  abbrev cmac_of_tags : CmacTags → Primitive K A D HD HE MacKind F S St V
  cmac_of_tags m = sorts.Mac (kinds.AesCmac m)

  pub hmac_sound : (o : Option HmacKey) (p : MacKind) → built_by (λ k. made_of hmac_of (hmac_built k)) o ≡ Ok (sorts.Mac p) → IsSound kind_computes kind_verifies p
  hmac_sound o p e =
      let k = by_message (λ k. made_of hmac_of (hmac_built k)) o (sorts.Mac p) e in
      let m = made_ok hmac_of (hmac_built k.0) (sorts.Mac p) k.1 in
      let same : kinds.Hmac m.0 ≡ p = cc m.2 in
      subst (IsSound kind_computes kind_verifies) same (sound (kinds.Hmac m.0) (λ message. hmac_long m.0 message (hmac_fits k.0 m.0 m.1)))

  pub cmac_sound : (o : Option AesCmacKey) (p : MacKind) → built_by (λ k. made_of cmac_of_tags (cmac_built k)) o ≡ Ok (sorts.Mac p) → IsSound kind_computes kind_verifies p
  cmac_sound o p e =
      let k = by_message (λ k. made_of cmac_of_tags (cmac_built k)) o (sorts.Mac p) e in
      let m = made_ok cmac_of_tags (cmac_built k.0) (sorts.Mac p) k.1 in
      let same : kinds.AesCmac m.0 ≡ p = cc m.2 in
      subst (IsSound kind_computes kind_verifies) same (sound (kinds.AesCmac m.0) (λ message. cmac_long m.0 message (cmac_fits k.0 m.0 m.1)))
