-- The ciphers are on blocks of 16 bytes.
use Rattle.std.specs.Prelude.{◌≡◌, ◌≤◌, ℕ, List, Bool, true, false, ◌==◌, cond, length, refl}
use Rattle.std.proofs.Common.{T, eqb→eq, arith, subst, sym}
use Rattle.standards.specs.AesKeys.{aes}
use Rattle.standards.specs.AesInverse.{aes_inverse}
use Rattle.standards.proofs.AesLengths.{length-aes, length-aes_inverse}
use Rattle.aes_block.specs.Ciphers.{decrypted, encrypted}

-- what holds under keys of n bytes and where blocks are left as they are, holds under each list
pub by_size : (P : Bool → Type 0) (n : ℕ) (key : List ℕ) → (length key ≡ n → P true) → P false → P (length key == n)
by_size P n key sized other = go (length key == n) refl
  where
    go : (same : Bool) → (length key == n) ≡ same → P same
    go true s = sized (eqb→eq (length key) n (subst T (sym s) tt))
    go false s = other

pub length-encrypted : (n : ℕ) → 4 ≤ n → (key block : List ℕ) → length block ≡ 16 → length (encrypted n key block) ≡ 16
length-encrypted n long key block e = by_size (λ same. length (cond same (aes key) (λ block. block) block) ≡ 16) n key (λ l. length-aes key block (omega (arith, l, long))) e

pub length-decrypted : (n : ℕ) → 4 ≤ n → (key block : List ℕ) → length block ≡ 16 → length (decrypted n key block) ≡ 16
length-decrypted n long key block e = by_size (λ same. length (cond same (aes_inverse key) (λ block. block) block) ≡ 16) n key (λ l. length-aes_inverse key block (omega (arith, l, long))) e
