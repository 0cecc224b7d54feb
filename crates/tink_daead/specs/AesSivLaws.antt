-- The laws of AES-SIV.
use Rattle.std.specs.Prelude.{◌≡◌, ◌↔◌, ◌≤◌, ◌<◌, List, ℕ, length, IsTrue, Ok, Err}
use Rattle.tink_io.specs.declared.error.Kind.TheVariants.{DecryptFailed, TooShort}
use Rattle.tink_daead.specs.AesSiv.{aes_siv, aes_siv_decrypts, is_siv_key_size}

-- a key of 32 or 64 bytes
abbrev pub IsSivKey : List ℕ → Type 0
IsSivKey key = IsTrue (is_siv_key_size (length key))

-- an input is decrypted to a text exactly where it is the text's encryption with this data
abbrev pub DecryptsExactly : Type 0
DecryptsExactly = (key input aad text : List ℕ) → IsSivKey key → (aes_siv_decrypts key input aad ≡ Ok text) ↔ (input ≡ aes_siv key aad text)

-- it is too short exactly where it has fewer than 16 bytes
abbrev pub RefusesShort : Type 0
RefusesShort = (key input aad : List ℕ) → (aes_siv_decrypts key input aad ≡ Err TooShort) ↔ (length input < 16)

-- and refused else exactly where it is the encryption of no text
abbrev pub RefusesOthers : Type 0
RefusesOthers =
    (key input aad : List ℕ) → IsSivKey key
    → (aes_siv_decrypts key input aad ≡ Err DecryptFailed) ↔ ((16 ≤ length input) × ((text : List ℕ) → input ≡ aes_siv key aad text → ⊥))

-- no input is the encryption of two texts
abbrev pub HasOneText : Type 0
HasOneText = (key aad text other : List ℕ) → IsSivKey key → aes_siv key aad text ≡ aes_siv key aad other → text ≡ other
