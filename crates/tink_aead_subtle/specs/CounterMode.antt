-- AES in counter mode (SP 800-38A, 2001, 6.5) under an initialization vector that is drawn.
use Rattle.std.specs.Prelude.{ℕ, List, ◌++◌, ◌-◌, length, replicate, take, drop, nat_le, if◌then◌else◌, Result, Ok, Err}
use Rattle.std.specs.Int.{w64}
use Rattle.standards.specs.AesKeys.{aes}
use Rattle.standards.specs.Counter.{ctr, plus_be}
use Rattle.tink_io.specs.declared.error.Kind.{Kind}
use Rattle.tink_io.specs.declared.error.Kind.TheVariants.{BadIvSize, BadKeySize, RandomFault, TooShort}
use Rattle.tink_aead_subtle.specs.KeySizes.{is_aes_key_size}

-- the first counter block: the vector, and zeros up to 16 bytes
abbrev pub counter_block : List ℕ → List ℕ
counter_block iv = iv ++ replicate (16 - length iv) 0

-- a text in counter mode, counting in the last eight bytes
abbrev pub in_counter_mode : List ℕ → List ℕ → List ℕ → List ℕ
in_counter_mode key iv text = ctr (aes key) (plus_be w64) (counter_block iv) text

-- what is made of a key and a size of vectors, or a refusal of the one and then of the other
abbrev pub sized_with_iv : {T : Type 0} → List ℕ → ℕ → T → Result T Kind
sized_with_iv key iv_size made =
    if is_aes_key_size (length key) then (if nat_le 12 iv_size then (if nat_le iv_size 16 then Ok made else Err BadIvSize) else Err BadIvSize) else Err BadKeySize

-- the first counter block of a vector that is drawn
abbrev pub drawn_block : ℕ → List ℕ → Result (List ℕ) Kind × List ℕ
drawn_block iv_size draws = if nat_le iv_size (length draws) then (Ok (counter_block (take iv_size draws)), drop iv_size draws) else (Err RandomFault, draws)

-- the vector, which is drawn, and the text in counter mode
abbrev pub ctr_encrypts : List ℕ → ℕ → List ℕ → List ℕ → Result (List ℕ) Kind × List ℕ
ctr_encrypts key iv_size text draws =
    if nat_le iv_size 16
    then (if nat_le iv_size (length draws) then (Ok (take iv_size draws ++ in_counter_mode key (take iv_size draws) text), drop iv_size draws) else (Err RandomFault, draws))
    else (Err BadIvSize, draws)

-- the text of a vector and a ciphertext
abbrev pub ctr_decrypts : List ℕ → ℕ → List ℕ → Result (List ℕ) Kind
ctr_decrypts key iv_size input =
    if nat_le iv_size 16
    then (if nat_le iv_size (length input) then Ok (in_counter_mode key (take iv_size input) (drop iv_size input)) else Err TooShort)
    else Err BadIvSize
