-- What keys of AES in counter mode with HMAC build is whole.
use Rattle.std.proofs.Common.{inl, inr, ⊎_elim, ◌≡◌, ◌≤◌, ℕ, Bool, true, false, List, Option, Some, None, Result, Ok, Err, cond, ap, refl, sym, subst, ◌∙◌}
use Rattle.std.specs.Prelude.{length, nat_eq, nat_le, nat_lt}
use Rattle.std.proofs.lemmas.Bool.{and_parts, eq-eqb, le-leb, leb-true}
use Rattle.hash_keys.specs.Hash.{digest_size}
use Rattle.hash_keys.specs.declared.Hash.{Hash}
use Rattle.hash_keys.proofs.Lengths.{length-hmac_of}
use Rattle.std.proofs.lemmas.List.{length-take-le}
use Rattle.std.proofs.lemmas.Slice.Eq.{bytes_eq-Decides}
use Rattle.std.specs.Str.{bytes_eq}
use Rattle.tink_io.specs.declared.error.Kind.{Kind}
use Rattle.tink_io.specs.declared.error.Kind.TheVariants.{BadKeySize, BadTagSize, InvalidKey, MacMismatch}
use Rattle.tink_proto_keys.specs.declared.aes_ctr_hmac.AesCtrHmacAeadKey.{AesCtrHmacAeadKey}
use Rattle.tink_proto_keys.specs.AesCtrHmac.{AesCtrKey}
use Rattle.tink_proto_keys.specs.declared.aes_ctr_hmac.AesCtrParams.{AesCtrParams}
use Rattle.tink_proto_keys.specs.Mac.{HmacKeyFormat, HmacKey}
use Rattle.tink_proto_keys.specs.declared.aes_ctr_hmac.AesCtrKeyFormat.{AesCtrKeyFormat}
use Rattle.tink_io.specs.declared.error.TinkError.{TinkError}
use Rattle.tink_io.specs.Answering.{Answers, IsShort, Replies, Tells, made_of}
use Rattle.tink_primitives.specs.Meaning.{IsEndOf}
use Rattle.tink_primitives.specs.MeaningLaws.{end_trans}
use Rattle.tink_core_subtle.specs.Random.{takes_bytes}
use Rattle.tink_key_manager.specs.Manager.{of_draws}
use Rattle.tink_key_manager.specs.ManagerLaws.{taken_told}
use Rattle.tink_proto_keys.specs.declared.mac.HmacParams.{HmacParams}
use Rattle.tink_core_subtle.specs.Hashes.{hash_named}
use Rattle.tink_key_manager.specs.HashTypes.{hash_type_of}
use Rattle.tink_mac.specs.KeyTypes.{hmac_by_params, or_invalid}
use Rattle.tink_mac.specs.Tags.{hmac_tag, hmac_tags, is_outside, own_tag, HmacTags}
use Rattle.tink_mac.proofs.SoundFacts.{HmacFits, hmac_fits}
use Rattle.tink_aead.specs.AeadKinds.{hmac_computes, hmac_verifies}
use Rattle.tink_aead.specs.ComposedKeys.{are_ctr_params, composed_built, composed_of, ctr_built, ctr_by_params, joined, mac_built, new_composed_key, tag_size_by, tag_size_of, with_hmac_key}
use Rattle.tink_aead.specs.ComposedLaws.{AcceptsWhole, IsWhole, UndoesWhole}
use Rattle.tink_aead.specs.KeyTypes.{is_versioned_key}
use Rattle.tink_aead_subtle.specs.Laws.{IsMac}
use Rattle.tink_aead_subtle.specs.declared.aes_ctr.AesCtr.{AesCtr}
use Rattle.tink_aead_subtle.specs.declared.encrypt_then_authenticate.EncryptThenAuthenticate.{EncryptThenAuthenticate}
use Rattle.tink_aead_subtle.proofs.ComposedExact.{accepts_exactly, encrypted_is}
use Rattle.tink_aead_subtle.proofs.Exact.{passed}

-- ---- the tags of an HMAC that was built
pub mac_fits : (k : Option HmacKey) (m : HmacTags) → mac_built k ≡ Ok m → HmacFits m
mac_fits None m e = absurd (cc)
mac_fits (Some k) m e = hmac_fits k m e

-- has tags of the size that its key says
chosen : (a b : Bool) (made m : HmacTags) → cond a (Err BadTagSize) (cond b (Err BadKeySize) (Ok made)) ≡ Ok m → made ≡ m
chosen false false made m e = cc
chosen false true made m e = absurd (cc)
chosen true b made m e = absurd (cc)

tags_sized : (h : Option Hash) (key : List ℕ) (t : ℕ) (m : HmacTags) → hmac_tags h key t ≡ Ok m → t ≡ m.tag_size
tags_sized None key t m e = absurd (cc)
tags_sized (Some h) key t m e =
    ap (λ (x : HmacTags). x.tag_size) (chosen (is_outside 10 (digest_size h) t) (nat_lt (length key) 16) (record { hmac = record { hash = h; key = key }; tag_size = t }) m e)

valid_sized : (t : ℕ) (r : Result HmacTags Kind) (m : HmacTags) → ((x : HmacTags) → r ≡ Ok x → t ≡ x.tag_size) → or_invalid r ≡ Ok m → t ≡ m.tag_size
valid_sized t (Ok x) m sized e = sized m e
valid_sized t (Err k) m sized e = absurd (cc)

params_sized : (p : Option HmacParams) (key : List ℕ) (m : HmacTags) → hmac_by_params p key ≡ Ok m → tag_size_by p ≡ m.tag_size
params_sized None key m e = absurd (cc)
params_sized (Some p) key m e =
    let h = hash_named (hash_type_of p.hash) in
    valid_sized p.tag_size (hmac_tags h key p.tag_size) m (tags_sized h key p.tag_size) e

mac_sized : (k : Option HmacKey) (m : HmacTags) → mac_built k ≡ Ok m → tag_size_of k ≡ m.tag_size
mac_sized None m e = absurd (cc)
mac_sized (Some k) m e = params_sized k.params k.key_value m (passed (nat_eq k.version 0) InvalidKey (hmac_by_params k.params k.key_value) m e).1

tells_answers : {T : Type 0} (r : Result T TinkError) (told other : Result T Kind) → told ≡ other → Tells r told → Answers r other
tells_answers (Ok v) told other same h = sym same ∙ h
tells_answers (Err e) told other same h = inr (sym same ∙ h)

-- the parts joined
pub joined_ok : (cipher : Result AesCtr Kind) (k : Option HmacKey) (c : AesCtr) (m : HmacTags) (t : ℕ) (r : Result (EncryptThenAuthenticate AesCtr HmacTags) TinkError) → cipher ≡ Ok c → mac_built k ≡ Ok m → t ≡ tag_size_of k
    → Tells r (cond (nat_le 10 t) (Ok (record { ind_cpa_cipher = c; mac = m; tag_size = t })) (Err BadTagSize)) → Answers r (joined cipher (mac_built k))
joined_ok cipher k c m t r of_cipher of_mac t_is tells =
    let whole : ℕ → EncryptThenAuthenticate AesCtr HmacTags = λ n. record { ind_cpa_cipher = c; mac = m; tag_size = n } in
    let sized = t_is ∙ mac_sized k m of_mac in
    let long : 10 ≤ t = subst (λ (n : ℕ). 10 ≤ n) (sym sized) (mac_fits k m of_mac).low in
    let is : cond (nat_le 10 t) (Ok (whole t)) (Err BadTagSize) ≡ joined cipher (mac_built k) =
    ap (λ (b : Bool). cond b (Ok (whole t)) (Err BadTagSize)) (le-leb 10 t long)
    ∙ ap (λ (n : ℕ). Ok (whole n)) sized
    ∙ sym (ap (λ (x : Result AesCtr Kind). joined x (mac_built k)) of_cipher ∙ ap (made_of (composed_of c)) of_mac) in
    tells_answers r (cond (nat_le 10 t) (Ok (whole t)) (Err BadTagSize)) (joined cipher (mac_built k)) is tells

pub joined_err : (cipher : Result AesCtr Kind) (mac : Result HmacTags Kind) (c : AesCtr) (e : TinkError) → cipher ≡ Ok c → Answers {T = HmacTags} (Err e) mac → Answers {T = EncryptThenAuthenticate AesCtr HmacTags} (Err e) (joined cipher mac)
joined_err cipher mac c e of_cipher (inl short) = inl short
joined_err cipher mac c e of_cipher (inr told) = inr (ap (λ (r : Result AesCtr Kind). joined r mac) of_cipher ∙ ap (made_of (composed_of c)) told)

-- of a key of version 0 they are all
pub of_version : (k : AesCtrHmacAeadKey) (r : Result (EncryptThenAuthenticate AesCtr HmacTags) TinkError) → k.version ≡ 0 → Answers r (joined (ctr_built k.aes_ctr_key) (mac_built k.hmac_key)) → Answers r (composed_built k)
of_version k r is answers =
    let parts = joined (ctr_built k.aes_ctr_key) (mac_built k.hmac_key) in
    subst (λ (b : Bool). Answers r (cond b parts (Err InvalidKey))) (sym (eq-eqb k.version 0 is)) answers

-- ---- the vectors of a cipher that was built
ctr_params_fit : (p : Option AesCtrParams) (key : List ℕ) (c : AesCtr) → ctr_by_params p key ≡ Ok c → c.iv_size ≤ 16
ctr_params_fit None key c e = absurd (cc)
ctr_params_fit (Some p) key c e =
    let made : AesCtr = record { key = key; iv_size = p.iv_size } in
    let both = passed (are_ctr_params (Some p)) InvalidKey (Ok made) c e in
    let same : made ≡ c = cc both.1 in
    subst (λ (x : AesCtr). x.iv_size ≤ 16) same (leb-true p.iv_size 16 (and_parts (nat_le 12 p.iv_size) (nat_le p.iv_size 16) both.0).1)

ctr_fits : (k : Option AesCtrKey) (c : AesCtr) → ctr_built k ≡ Ok c → c.iv_size ≤ 16
ctr_fits None c e = absurd (cc)
ctr_fits (Some k) c e = ctr_params_fit k.params k.key_value c (passed (is_versioned_key k.version k.key_value) InvalidKey (ctr_by_params k.params k.key_value) c e).1

joined_whole : (cipher : Result AesCtr Kind) (mac : Result HmacTags Kind) (a : EncryptThenAuthenticate AesCtr HmacTags) → ((c : AesCtr) → cipher ≡ Ok c → c.iv_size ≤ 16) → ((m : HmacTags) → mac ≡ Ok m → HmacFits m)
    → joined cipher mac ≡ Ok a → IsWhole a
joined_whole (Ok c) (Ok m) a of_cipher of_mac e =
    let same : composed_of c m ≡ a = cc in
    subst IsWhole same (record { iv = of_cipher c refl; tag = refl; digest = (of_mac m refl).high })
joined_whole (Ok c) (Err k) a of_cipher of_mac e = absurd (cc)
joined_whole (Err k) mac a of_cipher of_mac e = absurd (cc)

pub built_whole : (k : AesCtrHmacAeadKey) (a : EncryptThenAuthenticate AesCtr HmacTags) → composed_built k ≡ Ok a → IsWhole a
built_whole k a e =
    joined_whole (ctr_built k.aes_ctr_key) (mac_built k.hmac_key) a (ctr_fits k.aes_ctr_key) (mac_fits k.hmac_key)
    (passed (nat_eq k.version 0) InvalidKey (joined (ctr_built k.aes_ctr_key) (mac_built k.hmac_key)) a e).1

-- ---- HMAC accepts its own tag alone
abbrev verdict : Bool → Result (Unit {0}) Kind
verdict same = cond same (Ok tt) (Err MacMismatch)

own_alone : (own tag : List ℕ) (b : Bool) → bytes_eq own tag ≡ b → verdict b ≡ Ok tt → tag ≡ own
own_alone own tag true is e = sym ((bytes_eq-Decides own tag).0 is)
own_alone own tag false is e = absurd (cc)

own_accepted : (own tag : List ℕ) → tag ≡ own → own_tag own tag ≡ Ok tt
own_accepted own tag same = ap verdict ((bytes_eq-Decides own tag).1 (sym same))

hmac_is_mac : (m : HmacTags) → m.tag_size ≤ digest_size m.hmac.hash → IsMac (hmac_computes m) (hmac_verifies m) m.tag_size (hmac_tag m)
hmac_is_mac m fits = record {
  size = λ message. length-take-le m.tag_size _ (subst (λ n. m.tag_size ≤ n) (sym (length-hmac_of m.hmac.hash m.hmac.key message)) fits);
  computed = λ message. refl;
  verified = λ tag message. (own_alone (hmac_tag m message) tag (bytes_eq (hmac_tag m message) tag) refl, own_accepted (hmac_tag m message) tag);
}

module _ (a : EncryptThenAuthenticate AesCtr HmacTags) (whole : IsWhole a) where
  own : IsMac (hmac_computes a.mac) (hmac_verifies a.mac) a.tag_size (hmac_tag a.mac)
  own = subst (λ t. IsMac (hmac_computes a.mac) (hmac_verifies a.mac) t (hmac_tag a.mac)) (sym whole.tag) (hmac_is_mac a.mac whole.digest)

  pub accepts_whole : AcceptsWhole a
  accepts_whole = accepts_exactly a.ind_cpa_cipher.key a.ind_cpa_cipher.iv_size whole.iv a.tag_size (hmac_computes a.mac) (hmac_verifies a.mac) (hmac_tag a.mac) own

  pub undoes_whole : UndoesWhole a
  undoes_whole = λ text aad draws sealed e.
      (accepts_whole sealed aad text).1 (encrypted_is a.ind_cpa_cipher.key a.ind_cpa_cipher.iv_size whole.iv a.tag_size (hmac_computes a.mac) (hmac_verifies a.mac) (hmac_tag a.mac) own text aad draws sealed e)

-- ---- a key whose second take is refused
module _ (a : AesCtrKeyFormat) (h : HmacKeyFormat) (draws rest new aes_key : List ℕ) (e : TinkError) (first : takes_bytes a.key_size draws ≡ (Ok aes_key, rest)) where
  told_is : with_hmac_key a h (takes_bytes a.key_size draws) ≡ of_draws h.key_size (new_composed_key a h aes_key) rest
  told_is = ap (with_hmac_key a h) first

  short_ends : IsShort e.kind rest new → IsShort e.kind draws new
  short_ends short =
      let end : IsEndOf rest draws = subst (λ (t : Result (List ℕ) Kind × List ℕ). IsEndOf t.1 draws) first (taken_told a.key_size draws).ends in
      record { kind = short.kind; ends = end_trans draws rest new end short.ends }

  refused_is : (r : Result (List ℕ) Kind) → r ≡ Err e.kind → made_of (new_composed_key a h aes_key) r ≡ Err e.kind
  refused_is r is = ap (made_of (new_composed_key a h aes_key)) is

  pub second_refused : Replies {T = List ℕ} (Err e) (takes_bytes h.key_size rest) rest new → Replies {T = AesCtrHmacAeadKey} (Err e) (with_hmac_key a h (takes_bytes a.key_size draws)) draws new
  second_refused = ⊎_elim (λ short. inl (short_ends short))
      (λ told. inr (
        ap (λ (t : Result AesCtrHmacAeadKey Kind × List ℕ). t.0) told_is ∙ refused_is (takes_bytes h.key_size rest).0 told.0,
        told.1 ∙ sym (ap (λ (t : Result AesCtrHmacAeadKey Kind × List ℕ). t.1) told_is),
      ))
