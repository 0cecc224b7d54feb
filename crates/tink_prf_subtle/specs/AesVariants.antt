-- What the ciphers of AES-CMAC hold.
use Rattle.std.specs.Prelude.{◌≡◌, ℕ, List, length}
use Rattle.tink_prf_subtle.specs.declared.aes_cmac.AesVariant.{AesVariant}
use Rattle.tink_prf_subtle.specs.declared.aes_cmac.AesVariant.TheVariants.{Aes128, Aes192, Aes256}

-- the key
abbrev pub variant_key : AesVariant → List ℕ
variant_key (Aes128 cipher) = cipher
variant_key (Aes192 cipher) = cipher
variant_key (Aes256 cipher) = cipher

-- the key has the size of its cipher
abbrev pub FitsVariant : AesVariant → Type 0
FitsVariant (Aes128 cipher) = length cipher ≡ 16
FitsVariant (Aes192 cipher) = length cipher ≡ 24
FitsVariant (Aes256 cipher) = length cipher ≡ 32

-- the cipher is under this key
pub record IsKeyed (cipher : AesVariant) (key : List ℕ) : Type 0 where
  pub same : variant_key cipher ≡ key
  pub sized : FitsVariant cipher
