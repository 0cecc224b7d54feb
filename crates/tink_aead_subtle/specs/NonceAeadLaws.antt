-- What implementations of AEADs with a nonce show.
use Rattle.std.proofs.Common.{◌≡◌, ◌-◌, ℕ, List, length, take, ap, refl, sym, ◌∙◌, arith}
use Rattle.standards.specs.Gcm.{gcm, gcm_text}
use Rattle.standards.specs.GcmSiv.{authentication_key, encryption_key, gcm_siv, gcm_siv_text}
use Rattle.standards.proofs.Lengths.{length-gcm}
use Rattle.standards.proofs.ModesUndo.{gcm_text_twice, take-gcm}
use Rattle.gcm.specs.Siv.{KeepsBlocks}
use Rattle.gcm.proofs.SivFacts.{gcm_siv_is, text_of_sealed}
use Rattle.tink_aead_subtle.specs.NonceAeads.{gcm_text_of, gcm_siv_text_of}

pub gcm_gives_back : (E : List ℕ → List ℕ) (nonce aad text : List ℕ) → gcm_text_of E nonce (gcm E nonce aad text) ≡ text
gcm_gives_back E nonce aad text =
    let sealed = gcm E nonce aad text in
    let size : length sealed - 16 ≡ length text = omega (arith, length-gcm E nonce aad text) in
    ap (gcm_text E nonce) (ap (λ n. take n sealed) size ∙ take-gcm E nonce aad text) ∙ gcm_text_twice E nonce text

-- where the cipher under the message-encryption key makes blocks of blocks
pub gcm_siv_gives_back : (cipher : List ℕ → List ℕ → List ℕ) (key nonce aad text : List ℕ) → KeepsBlocks (cipher (encryption_key cipher key nonce))
    → gcm_siv_text_of cipher key nonce (gcm_siv cipher key nonce aad text) ≡ text
unfolding gcm_siv_text
gcm_siv_gives_back cipher key nonce aad text size =
    let sealed = gcm_siv cipher key nonce aad text in
    text_of_sealed (cipher (encryption_key cipher key nonce)) (authentication_key (cipher key) nonce) nonce aad text sealed (length sealed - 16) size refl (sym (gcm_siv_is cipher key nonce aad text))
