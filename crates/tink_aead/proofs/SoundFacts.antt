-- The AEADs that keys build decrypt what they encrypt, and make more than five bytes.
use Rattle.std.proofs.Common.{◌≡◌, ◌<◌, ◌++◌, ℕ, List, Bool, true, false, Option, Some, None, Result, Ok, Err, length, refl, sym, subst, arith}
use Rattle.std.specs.Prelude.{nat_eq}
use Rattle.std.proofs.lemmas.Bool.{and_parts}
use Rattle.std.proofs.lemmas.List.{length-append}
use Rattle.standards.specs.AesKeys.{aes}
use Rattle.standards.specs.Gcm.{gcm}
use Rattle.standards.specs.GcmSiv.{gcm_siv}
use Rattle.gcm.specs.Limits.{MOST_GCM, MOST_GCM_SIV}
use Rattle.tink_io.specs.declared.error.Kind.{Kind}
use Rattle.tink_io.specs.declared.error.Kind.TheVariants.{InvalidKey}
use Rattle.tink_io.specs.Answering.{made_of}
use Rattle.tink_proto_keys.specs.declared.aead.AesGcmKey.{AesGcmKey}
use Rattle.tink_proto_keys.specs.declared.aead.AesGcmSivKey.{AesGcmSivKey}
use Rattle.tink_proto_keys.specs.declared.aes_ctr_hmac.AesCtrHmacAeadKey.{AesCtrHmacAeadKey}
use Rattle.tink_primitives.specs.declared.primitive.Primitive.{Primitive}
use Rattle.tink_primitives.specs.declared.primitive.Primitive.TheVariants as sorts
use Rattle.tink_key_manager.specs.Manager.{built_by, built_if}
use Rattle.tink_keysets.proofs.KeyEntries.{cond_ok, made_ok}
use Rattle.tink_mac.specs.Tags.{HmacTags}
use Rattle.tink_mac.proofs.SoundFacts.{HmacFits, by_message, hmac_long}
use Rattle.tink_aead_subtle.specs.AesAeads.{gcm_decrypts, gcm_encrypts, gcm_siv_decrypts, gcm_siv_encrypts}
use Rattle.tink_aead_subtle.specs.KeySizes.{is_aes_key_size}
use Rattle.tink_aead_subtle.specs.Laws.{AcceptsExactly, IsAesKey, Undoes}
use Rattle.tink_aead_subtle.specs.declared.aes_ctr.AesCtr.{AesCtr}
use Rattle.tink_aead_subtle.specs.declared.encrypt_then_authenticate.EncryptThenAuthenticate.{EncryptThenAuthenticate}
use Rattle.tink_aead_subtle.proofs.AesExact.{gcm_accepts, gcm_siv_accepts}
use Rattle.tink_aead_subtle.proofs.Exact.{undoes}
use Rattle.tink_aead.specs.AeadKinds.{kind_decrypts, kind_encrypts}
use Rattle.tink_aead.specs.ComposedKeys.{composed_built, composed_of, ctr_built, joined, mac_built}
use Rattle.tink_aead.specs.KeyTypes.{is_versioned_key}
use Rattle.tink_aead.specs.Rotation.{IsSoundAead}
use Rattle.tink_aead.specs.declared.aead_kind.AeadKind.{AeadKind}
use Rattle.tink_aead.specs.declared.aead_kind.AeadKind.TheVariants as kinds
use Rattle.tink_aead.proofs.ComposedKeyFacts.{accepts_whole, built_whole, mac_fits, undoes_whole}

abbrev IsSound : AeadKind → Type 0
IsSound = IsSoundAead kind_encrypts kind_decrypts

-- ---- each kind

after_nonce : (input nonce rest : List ℕ) → input ≡ nonce ++ rest → length nonce ≡ 12 → 5 < length input
after_nonce input nonce rest is size = subst (λ l. 5 < length l) (sym is) (rw (length-append nonce rest) (omega (arith, size)))

gcm_sound : (key : List ℕ) → IsSound (kinds.AesGcm (record { key = key }))
gcm_sound key =
    let undo : Undoes (gcm_encrypts key) (gcm_decrypts key) = undoes (gcm (aes key)) MOST_GCM (gcm_decrypts key) (gcm_accepts key) in
    record {
      undoes = undo;
      long = λ text aad draws sealed made.
          let is = (gcm_accepts key sealed aad text).0 (undo text aad draws sealed made) in
          after_nonce sealed is.nonce _ is.is is.size;
    }

gcm_siv_sound : (key : List ℕ) → IsAesKey key → IsSound (kinds.AesGcmSiv (record { key = key }))
gcm_siv_sound key sized =
    let accepts : AcceptsExactly (gcm_siv aes key) MOST_GCM_SIV (gcm_siv_decrypts key) = gcm_siv_accepts key sized in
    let undo : Undoes (gcm_siv_encrypts key) (gcm_siv_decrypts key) = undoes (gcm_siv aes key) MOST_GCM_SIV (gcm_siv_decrypts key) accepts in
    record {
      undoes = undo;
      long = λ text aad draws sealed made.
          let is = (accepts sealed aad text).0 (undo text aad draws sealed made) in
          after_nonce sealed is.nonce _ is.is is.size;
    }

joined_fits : (cipher : Result AesCtr Kind) (mac : Result HmacTags Kind) (a : EncryptThenAuthenticate AesCtr HmacTags) → ((m : HmacTags) → mac ≡ Ok m → HmacFits m) → joined cipher mac ≡ Ok a → HmacFits a.mac
joined_fits (Ok c) (Ok m) a fits e =
    let same : composed_of c m ≡ a = cc in
    subst (λ (x : EncryptThenAuthenticate AesCtr HmacTags). HmacFits x.mac) same (fits m refl)
joined_fits (Ok c) (Err k) a fits e = absurd (cc)
joined_fits (Err k) mac a fits e = absurd (cc)

composed_fits : (k : AesCtrHmacAeadKey) (a : EncryptThenAuthenticate AesCtr HmacTags) → composed_built k ≡ Ok a → HmacFits a.mac
composed_fits k a e =
    joined_fits (ctr_built k.aes_ctr_key) (mac_built k.hmac_key) a (mac_fits k.hmac_key)
    (cond_ok (nat_eq k.version 0) (joined (ctr_built k.aes_ctr_key) (mac_built k.hmac_key)) InvalidKey a e)

before_tag : (input sealed tag : List ℕ) → input ≡ sealed ++ tag → 5 < length tag → 5 < length input
before_tag input sealed tag is long = subst (λ l. 5 < length l) (sym is) (rw (length-append sealed tag) (omega (arith, long)))

composed_sound : (k : AesCtrHmacAeadKey) (a : EncryptThenAuthenticate AesCtr HmacTags) → composed_built k ≡ Ok a → IsSound (kinds.AesCtrHmac a)
composed_sound k a e =
    let whole = built_whole k a e in
    let undo : Undoes (kind_encrypts (kinds.AesCtrHmac a)) (kind_decrypts (kinds.AesCtrHmac a)) = undoes_whole a whole in
    record {
      undoes = undo;
      long = λ text aad draws sealed made.
          let is = (accepts_whole a whole sealed aad text).0 (undo text aad draws sealed made) in
          before_tag sealed _ _ is.is (hmac_long a.mac _ (composed_fits k a e));
    }

-- ---- each key

passed : {T : Type 0} (b : Bool) (v w : T) → built_if b v ≡ Ok w → (b ≡ true) × (v ≡ w)
passed true v w e = (refl, cc)
passed false v w e = absurd (cc)

module _ {K D HD HE M F S St V : Type 0} where
  abbrev own : AeadKind → Primitive K AeadKind D HD HE M F S St V
  own p = sorts.Aead p

  pub gcm_key_sound : (o : Option AesGcmKey) (p : AeadKind) → built_by (λ k. built_if (is_versioned_key k.version k.key_value) (own (kinds.AesGcm (record { key = k.key_value })))) o ≡ Ok (own p) → IsSoundAead kind_encrypts kind_decrypts p
  gcm_key_sound None p e = absurd (cc)
  gcm_key_sound (Some k) p e =
      let is = passed (is_versioned_key k.version k.key_value) (own (kinds.AesGcm (record { key = k.key_value }))) (own p) e in
      let same : kinds.AesGcm (record { key = k.key_value }) ≡ p = cc is.1 in
      subst IsSound same (gcm_sound k.key_value)

  pub gcm_siv_key_sound : (o : Option AesGcmSivKey) (p : AeadKind) → built_by (λ k. built_if (is_versioned_key k.version k.key_value) (own (kinds.AesGcmSiv (record { key = k.key_value })))) o ≡ Ok (own p) → IsSoundAead kind_encrypts kind_decrypts p
  gcm_siv_key_sound None p e = absurd (cc)
  gcm_siv_key_sound (Some k) p e =
      let is = passed (is_versioned_key k.version k.key_value) (own (kinds.AesGcmSiv (record { key = k.key_value }))) (own p) e in
      let same : kinds.AesGcmSiv (record { key = k.key_value }) ≡ p = cc is.1 in
      let sized : IsAesKey k.key_value = (and_parts (nat_eq k.version 0) (is_aes_key_size (length k.key_value)) is.0).1 in
      subst IsSound same (gcm_siv_sound k.key_value sized)

  pub composed_key_sound : (o : Option AesCtrHmacAeadKey) (p : AeadKind) → built_by (λ k. made_of (λ a. own (kinds.AesCtrHmac a)) (composed_built k)) o ≡ Ok (own p) → IsSoundAead kind_encrypts kind_decrypts p
  composed_key_sound o p e =
      let k = by_message (λ k. made_of (λ a. own (kinds.AesCtrHmac a)) (composed_built k)) o (own p) e in
      let a = made_ok (λ a. own (kinds.AesCtrHmac a)) (composed_built k.0) (own p) k.1 in
      let same : kinds.AesCtrHmac a.0 ≡ p = cc a.2 in
      subst IsSound same (composed_sound k.0 a.0 a.1)
