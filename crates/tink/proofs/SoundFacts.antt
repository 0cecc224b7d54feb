-- The MACs that the managers of all types of keys build accept their own tags, and the AEADs decrypt what they encrypt.
use Rattle.std.proofs.Common.{◌≡◌, ◌∙◌, ℕ, List, Result, Ok, Err, refl, ap, subst}
use Rattle.std.specs.Prelude.{⊤}
use Rattle.tink_io.specs.declared.error.Kind.{Kind}
use Rattle.tink_io.specs.Answering.{made_of}
use Rattle.tink_primitives.specs.declared.primitive.Primitive.TheVariants.{Aead, DeterministicAead, Mac}
use Rattle.tink_primitives.specs.Sorts.{as_aead, as_deterministic_aead, as_mac, as_prf, as_streaming_aead}
use Rattle.tink_proto_keys.specs.Aead.{aes_gcm_key, aes_gcm_siv_key}
use Rattle.tink_proto_keys.specs.AesCtrHmac.{aes_ctr_hmac_aead_key}
use Rattle.tink_proto_keys.specs.Daead.{aes_siv_key}
use Rattle.tink_proto_keys.specs.Mac.{aes_cmac_key, hmac_key}
use Rattle.tink_key_manager.specs.Manager.{message_of}
use Rattle.tink_mac.specs.declared.mac_kind.MacKind.{MacKind}
use Rattle.tink_mac.specs.MacKinds.{kind_computes, kind_verifies}
use Rattle.tink_mac.specs.Rotation.{IsSound}
use Rattle.tink_mac.proofs.SoundFacts.{cmac_sound, hmac_sound}
use Rattle.tink_aead.specs.AeadKinds.{kind_decrypts, kind_encrypts}
use Rattle.tink_aead.specs.Rotation.{IsSoundAead}
use Rattle.tink_aead.specs.declared.aead_kind.AeadKind.{AeadKind}
use Rattle.tink_aead.proofs.SoundFacts.{composed_key_sound, gcm_key_sound, gcm_siv_key_sound}
use Rattle.tink_daead.specs.AesSiv.{aes_siv_decrypts, aes_siv_encrypts}
use Rattle.tink_daead.specs.Rotation.{IsSoundDaead}
use Rattle.tink_daead.proofs.RotationFacts.{siv_key_sound}
use Rattle.tink.specs.declared.managers.Managers.{Managers}
use Rattle.tink.specs.declared.managers.Managers.TheVariants as managers
use Rattle.tink.specs.Managers.{as_built_aead, as_built_daead, as_built_mac, as_built_prf, as_built_stream, row_of, AeadBuilt, Built, DaeadBuilt, MacBuilt}
use Rattle.tink.specs.Rows.{widened}

-- a MAC or an AEAD undoes what it makes; nothing is said of the other sorts
abbrev pub IsSoundPrimitive : Built → Type 0
IsSoundPrimitive (Mac p) = IsSound kind_computes kind_verifies p
IsSoundPrimitive (Aead p) = IsSoundAead kind_encrypts kind_decrypts p
IsSoundPrimitive (DeterministicAead p) = IsSoundDaead aes_siv_encrypts aes_siv_decrypts p
IsSoundPrimitive _ = ⊤

-- ---- as one of all sorts

module _ {P X : Type 0} (pick : P → Result X Kind) (sort : X → Built) where
  picked_sound : (r : Result X Kind) (q : Built) → ((x : X) → r ≡ Ok x → IsSoundPrimitive (sort x)) → made_of sort r ≡ Ok q → IsSoundPrimitive q
  picked_sound (Ok x) q sound e = let same : sort x ≡ q = cc in subst IsSoundPrimitive same (sound x refl)
  picked_sound (Err k) q sound e = absurd (cc)

  widened_sound : (r : Result P Kind) (q : Built) → ((p : P) (x : X) → r ≡ Ok p → pick p ≡ Ok x → IsSoundPrimitive (sort x)) → widened pick sort r ≡ Ok q → IsSoundPrimitive q
  widened_sound (Ok p) q sound e = picked_sound (pick p) q (λ x is. sound p x refl is) e
  widened_sound (Err k) q sound e = absurd (cc)

-- ---- of its own family

own_mac : (q : MacBuilt) (p : MacKind) → as_mac q ≡ Ok p → q ≡ Mac p
own_mac (Mac x) p e = let same : x ≡ p = cc in ap Mac same
own_mac _ p e = absurd (cc)

own_aead : (q : AeadBuilt) (p : AeadKind) → as_aead q ≡ Ok p → q ≡ Aead p
own_aead (Aead x) p e = let same : x ≡ p = cc in ap Aead same
own_aead _ p e = absurd (cc)

own_daead : (q : DaeadBuilt) (p : List ℕ) → as_deterministic_aead q ≡ Ok p → q ≡ DeterministicAead p
own_daead (DeterministicAead x) p e = let same : x ≡ p = cc in ap DeterministicAead same
own_daead _ p e = absurd (cc)

pub managers_sound : (m : Managers) (value : List ℕ) (q : Built) → (row_of m).built value ≡ Ok q → IsSoundPrimitive q
managers_sound managers.AesCmacPrf value q e = widened_sound as_prf as_built_prf _ q (λ p x is own. tt) e
managers_sound managers.HkdfPrf value q e = widened_sound as_prf as_built_prf _ q (λ p x is own. tt) e
managers_sound managers.HmacPrf value q e = widened_sound as_prf as_built_prf _ q (λ p x is own. tt) e
managers_sound managers.AesCmac value q e = widened_sound as_mac as_built_mac _ q (λ p x is own. cmac_sound (message_of aes_cmac_key value) x (is ∙ ap Ok (own_mac p x own))) e
managers_sound managers.Hmac value q e = widened_sound as_mac as_built_mac _ q (λ p x is own. hmac_sound (message_of hmac_key value) x (is ∙ ap Ok (own_mac p x own))) e
managers_sound managers.AesGcm value q e = widened_sound as_aead as_built_aead _ q (λ p x is own. gcm_key_sound (message_of aes_gcm_key value) x (is ∙ ap Ok (own_aead p x own))) e
managers_sound managers.AesGcmSiv value q e = widened_sound as_aead as_built_aead _ q (λ p x is own. gcm_siv_key_sound (message_of aes_gcm_siv_key value) x (is ∙ ap Ok (own_aead p x own))) e
managers_sound managers.AesCtrHmacAead value q e = widened_sound as_aead as_built_aead _ q (λ p x is own. composed_key_sound (message_of aes_ctr_hmac_aead_key value) x (is ∙ ap Ok (own_aead p x own))) e
managers_sound managers.AesCtrHmac value q e = widened_sound as_streaming_aead as_built_stream _ q (λ p x is own. tt) e
managers_sound managers.AesGcmHkdf value q e = widened_sound as_streaming_aead as_built_stream _ q (λ p x is own. tt) e
managers_sound managers.AesSiv value q e = widened_sound as_deterministic_aead as_built_daead _ q (λ p x is own. siv_key_sound (message_of aes_siv_key value) x (is ∙ ap Ok (own_daead p x own))) e
