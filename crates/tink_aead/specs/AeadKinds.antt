-- The AEADs of the three kinds.
use Rattle.std.specs.Prelude.{ℕ, List, Result, Ok}
use Rattle.standards.specs.AesKeys.{aes}
use Rattle.standards.specs.Gcm.{gcm}
use Rattle.standards.specs.GcmSiv.{gcm_siv}
use Rattle.gcm.specs.Limits.{MOST_GCM, MOST_GCM_SIV}
use Rattle.tink_io.specs.declared.error.Kind.{Kind}
use Rattle.tink_primitives.specs.Meaning.{IsDrawn, IsTold}
use Rattle.tink_mac.specs.TagLaws.{own_tag_match}
use Rattle.tink_mac.specs.Tags.{hmac_tag, own_tag, HmacTags}
use Rattle.tink_aead_subtle.specs.AesAeads.{gcm_decrypts, gcm_encrypts, gcm_siv_decrypts, gcm_siv_encrypts}
use Rattle.tink_aead_subtle.specs.Composed.{composed_decrypts, composed_encrypts}
use Rattle.tink_aead_subtle.specs.ComposedTold.{composed_decrypts_told, composed_encrypts_told}
use Rattle.tink_aead_subtle.specs.CounterMode.{ctr_decrypts, ctr_encrypts}
use Rattle.tink_aead_subtle.specs.CounterModeLaws.{ctr_decrypts_told, ctr_encrypts_told}
use Rattle.tink_aead_subtle.specs.NonceAeads.{gcm_siv_text_of, gcm_text_of}
use Rattle.tink_aead_subtle.specs.NonceAeadTold.{decryption_told, encryption_told}
use Rattle.tink_aead.specs.declared.aead_kind.AeadKind.{AeadKind}
use Rattle.tink_aead.specs.declared.aead_kind.AeadKind.TheVariants.{AesCtrHmac, AesGcm, AesGcmSiv}

-- HMAC with tags of a size, by what it computes and what it accepts
abbrev pub hmac_computes : HmacTags → List ℕ → Result (List ℕ) Kind
hmac_computes m message = Ok (hmac_tag m message)

abbrev pub hmac_verifies : HmacTags → List ℕ → List ℕ → Result (Unit {0}) Kind
hmac_verifies m tag message = own_tag (hmac_tag m message) tag

abbrev pub kind_encrypts : AeadKind → List ℕ → List ℕ → List ℕ → Result (List ℕ) Kind × List ℕ
kind_encrypts (AesCtrHmac a) text aad draws = composed_encrypts (ctr_encrypts a.ind_cpa_cipher.key a.ind_cpa_cipher.iv_size) (hmac_computes a.mac) a.tag_size text aad draws
kind_encrypts (AesGcm a) text aad draws = gcm_encrypts a.key text aad draws
kind_encrypts (AesGcmSiv a) text aad draws = gcm_siv_encrypts a.key text aad draws

abbrev pub kind_decrypts : AeadKind → List ℕ → List ℕ → Result (List ℕ) Kind
kind_decrypts (AesCtrHmac a) input aad = composed_decrypts (ctr_decrypts a.ind_cpa_cipher.key a.ind_cpa_cipher.iv_size) (hmac_verifies a.mac) a.tag_size input aad
kind_decrypts (AesGcm a) input aad = gcm_decrypts a.key input aad
kind_decrypts (AesGcmSiv a) input aad = gcm_siv_decrypts a.key input aad

pub kind_encrypts_told : (a : AeadKind) (text aad draws : List ℕ) → IsDrawn draws (kind_encrypts a text aad draws)
kind_encrypts_told (AesCtrHmac a) text aad draws =
    composed_encrypts_told (ctr_encrypts a.ind_cpa_cipher.key a.ind_cpa_cipher.iv_size) (hmac_computes a.mac) a.tag_size text aad draws
    (ctr_encrypts_told a.ind_cpa_cipher.key a.ind_cpa_cipher.iv_size text draws) (λ message. tt)
kind_encrypts_told (AesGcm a) text aad draws = encryption_told (gcm (aes a.key)) MOST_GCM text aad draws
kind_encrypts_told (AesGcmSiv a) text aad draws = encryption_told (gcm_siv aes a.key) MOST_GCM_SIV text aad draws

pub kind_decrypts_told : (a : AeadKind) (input aad : List ℕ) → IsTold (kind_decrypts a input aad)
kind_decrypts_told (AesCtrHmac a) input aad =
    composed_decrypts_told (ctr_decrypts a.ind_cpa_cipher.key a.ind_cpa_cipher.iv_size) (hmac_verifies a.mac) a.tag_size input aad
    (ctr_decrypts_told a.ind_cpa_cipher.key a.ind_cpa_cipher.iv_size) (λ tag message. own_tag_match (hmac_tag a.mac message) tag)
kind_decrypts_told (AesGcm a) input aad = decryption_told (gcm (aes a.key)) (gcm_text_of (aes a.key)) MOST_GCM input aad
kind_decrypts_told (AesGcmSiv a) input aad = decryption_told (gcm_siv aes a.key) (gcm_siv_text_of aes a.key) MOST_GCM_SIV input aad
