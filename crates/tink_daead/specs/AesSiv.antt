-- AES-SIV (RFC 5297, 2008) with one component of associated data, which may be empty.
use Rattle.std.specs.Prelude.{ℕ, ◌/◌, List, Bool, ◌==◌, ◌||◌, length, take, drop, nat_lt, if◌then◌else◌, Result, Ok, Err}
use Rattle.std.specs.Int.{w128}
use Rattle.std.specs.Str.{bytes_eq}
use Rattle.standards.specs.AesKeys.{aes}
use Rattle.standards.specs.Counter.{ctr, plus_be}
use Rattle.standards.specs.Siv.{siv, siv_counter}
use Rattle.tink_io.specs.declared.error.Kind.{Kind}
use Rattle.tink_io.specs.declared.error.Kind.TheVariants.{BadKeySize, DecryptFailed, TooShort}
use Rattle.tink_primitives.specs.Meaning.{IsTold}
use Rattle.tink_primitives.specs.MeaningLaws.{told_if}

-- two halves of 16 bytes, or two of 32
abbrev pub is_siv_key_size : ℕ → Bool
is_siv_key_size n = n == 32 || n == 64

-- a key, or the refusal of another
abbrev pub siv_key : List ℕ → Result (List ℕ) Kind
siv_key key = if is_siv_key_size (length key) then Ok key else Err BadKeySize

-- K1, by which S2V is keyed, and K2, which encrypts (2.6)
abbrev pub mac_half : List ℕ → List ℕ
mac_half key = take (length key / 2) key

abbrev pub counter_half : List ℕ → List ℕ
counter_half key = drop (length key / 2) key

-- V and the ciphertext of a text with this data (2.6)
abbrev pub aes_siv : List ℕ → List ℕ → List ℕ → List ℕ
aes_siv key aad text = siv (aes (mac_half key)) (aes (counter_half key)) aad text

-- a text is always encrypted
abbrev pub aes_siv_encrypts : List ℕ → List ℕ → List ℕ → Result (List ℕ) Kind
aes_siv_encrypts key text aad = Ok (aes_siv key aad text)

-- the text behind a V, from which its counter blocks are (2.7)
abbrev pub text_behind : List ℕ → List ℕ → List ℕ → List ℕ
text_behind key v ciphertext = ctr (aes (counter_half key)) (plus_be w128) (siv_counter v) ciphertext

-- the text, where the input is its encryption (2.7)
abbrev pub tried : List ℕ → List ℕ → List ℕ → List ℕ → Result (List ℕ) Kind
tried key aad input text = if bytes_eq (aes_siv key aad text) input then Ok text else Err DecryptFailed

abbrev pub aes_siv_decrypts : List ℕ → List ℕ → List ℕ → Result (List ℕ) Kind
aes_siv_decrypts key input aad =
    if nat_lt (length input) 16 then Err TooShort else tried key aad input (text_behind key (take 16 input) (drop 16 input))

pub aes_siv_decrypts_told : (key input aad : List ℕ) → IsTold (aes_siv_decrypts key input aad)
aes_siv_decrypts_told key input aad =
    told_if (nat_lt (length input) 16) (Err TooShort) (tried key aad input (text_behind key (take 16 input) (drop 16 input))) tt
    (told_if (bytes_eq (aes_siv key aad (text_behind key (take 16 input) (drop 16 input))) input) (Ok _) (Err DecryptFailed) tt tt)
