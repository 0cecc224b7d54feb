-- The AEADs by AES whose output begins with a nonce.
use Rattle.std.specs.Prelude.{ℕ, List, Result}
use Rattle.standards.specs.AesKeys.{aes}
use Rattle.standards.specs.Gcm.{gcm}
use Rattle.standards.specs.GcmSiv.{gcm_siv}
use Rattle.gcm.specs.Limits.{MOST_GCM, MOST_GCM_SIV}
use Rattle.tink_io.specs.declared.error.Kind.{Kind}
use Rattle.tink_aead_subtle.specs.NonceAeads.{decryption, encryption, gcm_text_of, gcm_siv_text_of}

-- AES-GCM (SP 800-38D) of a text, associated data and the draws
abbrev pub gcm_encrypts : List ℕ → List ℕ → List ℕ → List ℕ → Result (List ℕ) Kind × List ℕ
gcm_encrypts key = encryption (gcm (aes key)) MOST_GCM

-- and of a ciphertext and associated data
abbrev pub gcm_decrypts : List ℕ → List ℕ → List ℕ → Result (List ℕ) Kind
gcm_decrypts key = decryption (gcm (aes key)) (gcm_text_of (aes key)) MOST_GCM

-- AES-GCM-SIV (RFC 8452) of a text, associated data and the draws
abbrev pub gcm_siv_encrypts : List ℕ → List ℕ → List ℕ → List ℕ → Result (List ℕ) Kind × List ℕ
gcm_siv_encrypts key = encryption (gcm_siv aes key) MOST_GCM_SIV

-- and of a ciphertext and associated data
abbrev pub gcm_siv_decrypts : List ℕ → List ℕ → List ℕ → Result (List ℕ) Kind
gcm_siv_decrypts key = decryption (gcm_siv aes key) (gcm_siv_text_of aes key) MOST_GCM_SIV
