-- GCM and GCM-SIV under AES keys accept exactly their encryptions.
use Rattle.std.proofs.Common.{◌≡◌, ◌≤◌, ◌*◌, ◌/◌, ◌⊎◌, inl, inr, ℕ, List, length, arith}
use Rattle.std.proofs.lemmas.Bool.{eqb-true, or_cases}
use Rattle.gcm.specs.Limits.{MOST_GCM, MOST_GCM_SIV}
use Rattle.standards.specs.AesKeys.{aes}
use Rattle.standards.specs.Gcm.{gcm}
use Rattle.standards.specs.GcmSiv.{encryption_key, gcm_siv}
use Rattle.standards.proofs.AesLengths.{length-aes}
use Rattle.standards.proofs.Lengths.{length-encryption_key, length-gcm, length-gcm_siv}
use Rattle.tink_aead_subtle.specs.AesAeads.{gcm_decrypts, gcm_siv_decrypts}
use Rattle.tink_aead_subtle.specs.Laws.{AcceptsExactly, IsAesKey}
use Rattle.tink_aead_subtle.specs.NonceAeads.{gcm_siv_text_of, gcm_text_of}
use Rattle.tink_aead_subtle.specs.NonceAeadLaws.{gcm_gives_back, gcm_siv_gives_back}
use Rattle.tink_aead_subtle.proofs.Exact.{accepts_exactly}

pub gcm_accepts : (key : List ℕ) → AcceptsExactly (gcm (aes key)) MOST_GCM (gcm_decrypts key)
gcm_accepts key = accepts_exactly (gcm (aes key)) (gcm_text_of (aes key)) MOST_GCM (length-gcm (aes key)) (gcm_gives_back (aes key))

-- a key has a size of the two
pub key_sizes : (key : List ℕ) → IsAesKey key → (length key ≡ 16) ⊎ (length key ≡ 32)
key_sizes key is = elim (or_cases _ _ is) [ inl e ↦ inl (eqb-true (length key) 16 e) | inr e ↦ inr (eqb-true (length key) 32 e) ]

module _ (key : List ℕ) (is : IsAesKey key) where
  long_enough : 16 ≤ length key
  long_enough = elim (key_sizes key is) [ inl e ↦ omega arith | inr e ↦ omega arith ]

  -- the message-encryption key is one of AES too
  blocks : (nonce block : List ℕ) → length (aes (encryption_key aes key nonce) block) ≡ 16
  blocks nonce block =
      let size : length (encryption_key aes key nonce) ≡ 8 * (length key / 8) = length-encryption_key aes key nonce (λ b. length-aes key b (omega (arith, long_enough))) in
      length-aes (encryption_key aes key nonce) block (omega (arith, size, long_enough))

  pub gcm_siv_accepts : AcceptsExactly (gcm_siv aes key) MOST_GCM_SIV (gcm_siv_decrypts key)
  gcm_siv_accepts =
      accepts_exactly (gcm_siv aes key) (gcm_siv_text_of aes key) MOST_GCM_SIV
      (λ nonce aad text. length-gcm_siv aes key nonce aad text (blocks nonce))
      (λ nonce aad text. gcm_siv_gives_back aes key nonce aad text (λ block e. blocks nonce block))
