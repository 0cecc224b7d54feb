-- The sizes of AES keys that the AEADs take.
use Rattle.std.specs.Prelude.{ℕ, List, Bool, ◌==◌, ◌||◌, length, if◌then◌else◌, Result, Ok, Err}
use Rattle.tink_io.specs.declared.error.Kind.{Kind}
use Rattle.tink_io.specs.declared.error.Kind.TheVariants.{BadKeySize}

-- 16 or 32 bytes
abbrev pub is_aes_key_size : ℕ → Bool
is_aes_key_size n = n == 16 || n == 32

-- what is made of a key, or a refusal of its size
abbrev pub sized : {T : Type 0} → List ℕ → T → Result T Kind
sized key made = if is_aes_key_size (length key) then Ok made else Err BadKeySize
