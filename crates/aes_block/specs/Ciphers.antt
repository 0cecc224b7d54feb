-- What the ciphers make of a block: AES (FIPS 197), under keys of one size.
use Rattle.std.specs.Prelude.{◌≡◌, ◌⊎◌, ℕ, List, cond, ◌==◌, length}
use Rattle.standards.specs.AesKeys.{aes}
use Rattle.standards.specs.AesInverse.{aes_inverse}

-- the sizes of keys in bytes (5, figure 4)
abbrev pub IsKeySize : ℕ → Type 0
IsKeySize n = (n ≡ 16) ⊎ (n ≡ 24) ⊎ (n ≡ 32)

-- AES under a key of n bytes; a list of another length is the key of no cipher, and leaves blocks as they are
abbrev pub encrypted : ℕ → List ℕ → List ℕ → List ℕ
encrypted n key = cond (length key == n) (aes key) (λ block. block)

-- the inverse of AES under a key of n bytes, and as above
abbrev pub decrypted : ℕ → List ℕ → List ℕ → List ℕ
decrypted n key = cond (length key == n) (aes_inverse key) (λ block. block)
