-- CMAC over AES as a pseudorandom function.
use Rattle.std.specs.Prelude.{ℕ, List, length, take, Bool, ◌||◌, nat_eq, nat_lt, if◌then◌else◌, Result, Ok, Err}
use Rattle.standards.specs.AesKeys.{aes}
use Rattle.standards.specs.Cmac.{cmac}
use Rattle.tink_io.specs.declared.error.Kind.{Kind}
use Rattle.tink_io.specs.declared.error.Kind.TheVariants.{BadKeySize, OutputTooLong}
use Rattle.tink_primitives.specs.Meaning.{IsTold}
use Rattle.tink_primitives.specs.MeaningLaws.{told_if}

-- the CMAC of a text under an AES key, all 16 bytes (SP 800-38B, 6.2; FIPS 197)
abbrev pub cmac_of : List ℕ → List ℕ → List ℕ
cmac_of key text = cmac (aes key) text

-- the first n bytes of it
abbrev pub aes_cmac_output : List ℕ → List ℕ → ℕ → Result (List ℕ) Kind
aes_cmac_output key input n = if nat_lt 16 n then Err OutputTooLong else Ok (take n (cmac_of key input))

pub aes_cmac_output_told : (key input : List ℕ) (n : ℕ) → IsTold (aes_cmac_output key input n)
aes_cmac_output_told key input n = told_if (nat_lt 16 n) (Err OutputTooLong) (Ok (take n (cmac_of key input))) tt tt

-- the bytes of AES keys (FIPS 197, 5, figure 4)
abbrev pub is_aes_key_size : ℕ → Bool
is_aes_key_size n = nat_eq n 16 || nat_eq n 24 || nat_eq n 32

-- a key of AES, or the refusal of another
abbrev pub aes_cmac_key : List ℕ → Result (List ℕ) Kind
aes_cmac_key key = if is_aes_key_size (length key) then Ok key else Err BadKeySize

-- keys are made of 32 bytes alone
abbrev pub aes_cmac_params : ℕ → Result (Unit {0}) Kind
aes_cmac_params n = if nat_eq n 32 then Ok tt else Err BadKeySize
