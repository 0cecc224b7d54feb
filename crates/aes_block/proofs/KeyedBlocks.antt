-- Blocks under keys of one size: AES, and the way back.
use Rattle.std.proofs.Common.{◌≡◌, ◌≤◌, inl, inr, ℕ, cond, List, length, refl, ap, arith, eq-eqb}
use Rattle.standards.specs.Lists.{AreBytes}
use Rattle.standards.specs.AesKeys.{aes}
use Rattle.standards.specs.AesInverse.{aes_inverse}
use Rattle.standards.proofs.AesRoundTrip.{aes-aes_inverse, aes_inverse-aes}
use Rattle.aes_block.specs.Ciphers.{IsKeySize, decrypted, encrypted}
use Rattle.aes_block.specs.Lengths.{by_size}

-- under a key of its size the cipher is AES
pub encrypted-aes : (n : ℕ) (key : List ℕ) → length key ≡ n → encrypted n key ≡ aes key
encrypted-aes n key e = ap (λ b. cond b (aes key) (λ block. block)) (eq-eqb (length key) n e)

-- and its inverse that of AES
pub decrypted-aes_inverse : (n : ℕ) (key : List ℕ) → length key ≡ n → decrypted n key ≡ aes_inverse key
decrypted-aes_inverse n key e = ap (λ b. cond b (aes_inverse key) (λ block. block)) (eq-eqb (length key) n e)

long_enough : (n : ℕ) → IsKeySize n → 4 ≤ n
long_enough n h = elim h [ inl a ↦ omega arith | inr g ↦ elim g [ inl a ↦ omega arith | inr a ↦ omega arith ] ]

-- decryption undoes encryption
pub decrypted-encrypted : (n : ℕ) (key block : List ℕ) → IsKeySize n → length block ≡ 16 → AreBytes key → AreBytes block → decrypted n key (encrypted n key block) ≡ block
decrypted-encrypted n key block size e h b =
    by_size (λ same. cond same (aes_inverse key) (λ block. block) (cond same (aes key) (λ block. block) block) ≡ block) n key
    (λ l. aes_inverse-aes key block (omega (arith, l, long_enough n size)) e h b) refl

-- encryption undoes decryption
pub encrypted-decrypted : (n : ℕ) (key block : List ℕ) → IsKeySize n → length block ≡ 16 → AreBytes key → AreBytes block → encrypted n key (decrypted n key block) ≡ block
encrypted-decrypted n key block size e h b =
    by_size (λ same. cond same (aes key) (λ block. block) (cond same (aes_inverse key) (λ block. block) block) ≡ block) n key
    (λ l. aes-aes_inverse key block (omega (arith, l, long_enough n size)) e h b) refl
