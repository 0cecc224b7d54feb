-- The keys of streams that their messages give.
use Rattle.std.proofs.Common.{◌≡◌, ◌<◌, ◌+◌, ◌^◌, ◌&&◌, ℕ, ℤ, List, length, Bool, true, false, cond, inr, refl, sym, ◌∙◌, ap, subst, arith, Some, None}
use Rattle.std.specs.declared.option.Option.{Option}
use Rattle.std.specs.Prelude.{nat_eq, nat_le, nat_lt, Result, Err}
use Rattle.std.specs.Ordering.{int_eq}
use Rattle.std.proofs.lemmas.Bool.{and_parts, cond-true, cond-false, eq-eqb, false_from_ne_true, ne_eqb}
use Rattle.std.proofs.lemmas.Bool.Decides.{Decides-int_eq, nat_tests}
use Rattle.hash_keys.specs.declared.Hash.{Hash}
use Rattle.hash_keys.specs.Hash.{digest_size}
use Rattle.tink_io.specs.Answering.{Answers, made_of, or_refused}
use Rattle.tink_io.specs.declared.error.Kind.{Kind}
use Rattle.tink_io.specs.declared.error.Kind.TheVariants.{InvalidKey}
use Rattle.tink_io.specs.declared.error.TinkError.{TinkError}
use Rattle.tink_proto.specs.declared.enums.HashType.{HashType}
use Rattle.tink_proto.specs.declared.enums.HashType.TheVariants.{Sha1, Sha224, Sha256, Sha384, Sha512}
use Rattle.tink_proto.specs.Enums.{hash_number}
use Rattle.tink_proto_keys.specs.Streaming.{AesGcmHkdfStreamingKey, AesCtrHmacStreamingKey}
use Rattle.wire_format.specs.Reading.{◌>>=◌}
use Rattle.stream_model.specs.Key.{StreamKey}
use Rattle.loading_model.specs.Building.{are_key_sizes, gcm_hkdf_of, hash_numbered, is_gcm_streaming, is_streaming, streaming_of}
use Rattle.tink_streaming_keys.specs.StreamingKeys.{ctr_hmac_key, gcm_hkdf_key, is_key_size, with_main}
use Rattle.tink_streaming_managers.specs.declared.aes_ctr_hmac_key_manager.CtrHmacSizes.{CtrHmacSizes}
use Rattle.tink_streaming_managers.specs.declared.aes_gcm_hkdf_key_manager.GcmHkdfSizes.{GcmHkdfSizes}
use Rattle.tink_streaming_managers.specs.KeyTypes.{ctr_hmac_named, ctr_hmac_sized, gcm_hkdf_named, gcm_hkdf_sized}

-- a number that no hash type has
pub unnumbered : (n : ℤ) → ((e : HashType) → hash_number e ≡ n → ⊥) → hash_numbered n ≡ None
unnumbered n none = simp (other Sha1, other Sha384, other Sha256, other Sha512, other Sha224)
  where
    other : (e : HashType) → int_eq n (hash_number e) ≡ false
    other e = false_from_ne_true (int_eq n (hash_number e)) (λ t. none e (sym ((Decides-int_eq n (hash_number e)).0 t)))

-- where there is no key, `InvalidKey` is the answer
pub invalid : {A : Type 0} (e : TinkError) (o : Option A) → e ≡ record { kind = InvalidKey } → o ≡ None → Answers {T = A} (Err e) (or_refused InvalidKey o)
invalid {A} e o is none =
    let of_error : TinkError → Result A Kind = λ x. Err x.kind in
    inr (ap (or_refused InvalidKey) none ∙ ap of_error (sym is))

-- what answers for one key answers for an equal one
pub answers_same : {A : Type 0} (r : Result A TinkError) (o p : Option A) → o ≡ p → Answers r (or_refused InvalidKey p) → Answers r (or_refused InvalidKey o)
answers_same r o p is h = subst (λ x. Answers r (or_refused InvalidKey x)) (sym is) h

-- what follows on what params name, where the version is 0
abbrev named_key : {S : Type 0} → Bool → (S → Option StreamKey) → Option S → Option StreamKey
named_key version_0 key sizes = cond version_0 (sizes >>= key) None

step : {A S : Type 0} (version_0 : Bool) (key : S → Option StreamKey) (o : Option A) (f : A → Option StreamKey) (g : A → Option S)
    → ((a : A) → f a ≡ named_key version_0 key (g a)) → (o >>= f) ≡ named_key version_0 key (o >>= g)
step true key None f g each = refl
step false key None f g each = refl
step version_0 key (Some a) f g each = each a

ctr_hmac_of_named : (m : AesCtrHmacStreamingKey) → streaming_of m ≡ named_key (nat_eq m.version 0) (ctr_hmac_sized m.key_value) (ctr_hmac_named m.params)
unfolding streaming_of
ctr_hmac_of_named m =
    let v = nat_eq m.version 0 in
    let key = ctr_hmac_sized m.key_value in
    step v key m.params _ _ (λ p. step v key p.hmac_params _ _ (λ h. step v key (hash_numbered p.hkdf_hash_type) _ _ (λ a. step v key (hash_numbered h.hash) _ _ (λ b. refl))))

pub ctr_hmac_of_other : (m : AesCtrHmacStreamingKey) → (m.version ≡ 0 → ⊥) → streaming_of m ≡ None
ctr_hmac_of_other m other = ctr_hmac_of_named m ∙ cond-false (nat_eq m.version 0) _ None (ne_eqb m.version 0 other)

pub ctr_hmac_of_params : (m : AesCtrHmacStreamingKey) (named : Option CtrHmacSizes) → m.version ≡ 0 → named ≡ ctr_hmac_named m.params → streaming_of m ≡ (named >>= ctr_hmac_sized m.key_value)
ctr_hmac_of_params m named is named_is =
    ctr_hmac_of_named m ∙ cond-true (nat_eq m.version 0) _ None (eq-eqb m.version 0 is) ∙ ap (λ o. o >>= ctr_hmac_sized m.key_value) (sym named_is)

gcm_hkdf_of_named : (m : AesGcmHkdfStreamingKey) → gcm_hkdf_of m ≡ named_key (nat_eq m.version 0) (gcm_hkdf_sized m.key_value) (gcm_hkdf_named m.params)
unfolding gcm_hkdf_of
gcm_hkdf_of_named m =
    let v = nat_eq m.version 0 in
    let key = gcm_hkdf_sized m.key_value in
    step v key m.params _ _ (λ p. step v key (hash_numbered p.hkdf_hash_type) _ _ (λ a. refl))

pub gcm_hkdf_of_other : (m : AesGcmHkdfStreamingKey) → (m.version ≡ 0 → ⊥) → gcm_hkdf_of m ≡ None
gcm_hkdf_of_other m other = gcm_hkdf_of_named m ∙ cond-false (nat_eq m.version 0) _ None (ne_eqb m.version 0 other)

pub gcm_hkdf_of_params : (m : AesGcmHkdfStreamingKey) (named : Option GcmHkdfSizes) → m.version ≡ 0 → named ≡ gcm_hkdf_named m.params → gcm_hkdf_of m ≡ (named >>= gcm_hkdf_sized m.key_value)
gcm_hkdf_of_params m named is named_is =
    gcm_hkdf_of_named m ∙ cond-true (nat_eq m.version 0) _ None (eq-eqb m.version 0 is) ∙ ap (λ o. o >>= gcm_hkdf_sized m.key_value) (sym named_is)

-- sizes of keys that make streams are those of keys that are made
key_sizes : (main derived : ℕ) → are_key_sizes main derived ≡ true → is_key_size main derived ≡ true
key_sizes main derived e = grind (arith, nat_tests)

-- a segment with room for some text is not too small
not_small : (least most segment : ℕ) → most < least → nat_le least segment ≡ true → nat_le segment most ≡ false
not_small least most segment few e = grind (arith, nat_tests)

-- a key with sizes that make streams by GCM is made as it is told
pub gcm_hkdf_made : (r : Result StreamKey TinkError) (main : List ℕ) (named : Option Hash) (s : GcmHkdfSizes) → is_gcm_streaming (length main) s.derived s.segment ≡ true → named ≡ Some s.hkdf_hash
    → Answers r (gcm_hkdf_key main named s.derived s.segment 0) → Answers r (or_refused InvalidKey (gcm_hkdf_sized main s))
gcm_hkdf_made r main named s makes is h =
    let sizes = are_key_sizes (length main) s.derived in
    let room = nat_le (s.derived + 25) s.segment in
    let are = and_parts sizes room (and_parts (sizes && room) (nat_lt s.segment (2 ^ 32)) makes).0 in
    let most = 0 + s.derived + 8 + 16 in
    subst (Answers r)
    (ap (λ o. gcm_hkdf_key main o s.derived s.segment 0) is
    ∙ ap (made_of (with_main main))
    (cond-true (is_key_size (length main) s.derived) _ _ (key_sizes (length main) s.derived are.0) ∙ cond-false (nat_le s.segment most) _ _ (not_small (s.derived + 25) most s.segment (omega arith) are.1))
    ∙ sym (ap (or_refused InvalidKey) (cond-true (is_gcm_streaming (length main) s.derived s.segment) _ None makes)))
    h

-- a tag that is long enough is not too short
not_below : (a b : ℕ) → nat_le a b ≡ true → nat_lt b a ≡ false
not_below a b e = grind (arith, nat_tests)

-- the same in counter mode with HMAC
pub ctr_hmac_made : (r : Result StreamKey TinkError) (main : List ℕ) (named tag_named : Option Hash) (s : CtrHmacSizes) → is_streaming (length main) s.derived s.tag_hash s.tag s.segment ≡ true → named ≡ Some s.hkdf_hash → tag_named ≡ Some s.tag_hash
    → Answers r (ctr_hmac_key main named s.derived tag_named s.tag s.segment 0) → Answers r (or_refused InvalidKey (ctr_hmac_sized main s))
ctr_hmac_made r main named tag_named s makes is tag_is h =
    let sizes = are_key_sizes (length main) s.derived in
    let least = nat_le 10 s.tag in
    let digest = nat_le s.tag (digest_size s.tag_hash) in
    let room = nat_le (s.derived + 7 + s.tag + 2) s.segment in
    let all = and_parts (sizes && least && digest) room (and_parts (sizes && least && digest && room) (nat_lt s.segment (2 ^ 32)) makes).0 in
    let tags = and_parts (sizes && least) digest all.0 in
    let are = and_parts sizes least tags.0 in
    let most = 0 + s.derived + 8 + s.tag in
    subst (Answers r)
    (ap (λ o. ctr_hmac_key main o s.derived tag_named s.tag s.segment 0) is
    ∙ ap (λ o. ctr_hmac_key main (Some s.hkdf_hash) s.derived o s.tag s.segment 0) tag_is
    ∙ ap (made_of (with_main main))
    (cond-true (is_key_size (length main) s.derived) _ _ (key_sizes (length main) s.derived are.0) ∙ cond-false (nat_lt s.tag 10) _ _ (not_below 10 s.tag are.1)
    ∙ cond-false (nat_lt (digest_size s.tag_hash) s.tag) _ _ (not_below s.tag (digest_size s.tag_hash) tags.1)
    ∙ cond-false (nat_le s.segment most) _ _ (not_small (s.derived + 7 + s.tag + 2) most s.segment (omega arith) all.1))
    ∙ sym (ap (or_refused InvalidKey) (cond-true (is_streaming (length main) s.derived s.tag_hash s.tag s.segment) _ None makes)))
    h
