-- Encryption and then a MAC (RFC 5116's composition by draft-mcgrew-aead-aes-cbc-hmac-sha2-05, 2.1): the tag is over
-- associated data, the cipher's output and the number of bits of the data.
use Rattle.std.specs.Prelude.{ℕ, List, ◌++◌, ◌-◌, ◌*◌, ◌^◌, length, take, drop, nat_eq, nat_lt, if◌then◌else◌, Result, Ok, Err}
use Rattle.std.specs.Int.{w64, to_be_bytes}
use Rattle.tink_io.specs.declared.error.Kind.{Kind}
use Rattle.tink_io.specs.declared.error.Kind.TheVariants.{BadTagSize, DataTooLong, TooShort}
use Rattle.tink_aead_subtle.specs.NonceAeads.{then_answer}

-- what the tag is over
abbrev pub authenticated : List ℕ → List ℕ → List ℕ
authenticated aad sealed = aad ++ sealed ++ to_be_bytes w64 (8 * length aad)

-- what was sealed and its tag, which has t bytes
abbrev pub with_tag : ℕ → List ℕ → Result (List ℕ) Kind → Result (List ℕ) Kind
with_tag t sealed (Ok tag) = if nat_eq (length tag) t then Ok (sealed ++ tag) else Err BadTagSize
with_tag t sealed (Err k) = Err k

-- what was sealed and its tag, where the number of bits fits eight bytes
abbrev pub tagged : (List ℕ → Result (List ℕ) Kind) → ℕ → List ℕ → List ℕ → Result (List ℕ) Kind
tagged computes t aad sealed = if nat_lt (length aad) (2 ^ 61) then with_tag t sealed (computes (authenticated aad sealed)) else Err DataTooLong

-- and where the cipher refused nothing
abbrev pub tagged_answer : (List ℕ → Result (List ℕ) Kind) → ℕ → List ℕ → Result (List ℕ) Kind → Result (List ℕ) Kind
tagged_answer computes t aad (Ok sealed) = tagged computes t aad sealed
tagged_answer computes t aad (Err k) = Err k

-- the encryption of a text: the cipher's, with its draws, and the MAC's
abbrev pub composed_encrypts : (List ℕ → List ℕ → Result (List ℕ) Kind × List ℕ) → (List ℕ → Result (List ℕ) Kind) → ℕ → List ℕ → List ℕ → List ℕ → Result (List ℕ) Kind × List ℕ
composed_encrypts encrypts computes t text aad draws = (tagged_answer computes t aad (encrypts text draws).0, (encrypts text draws).1)

-- the decryption of what was sealed and its tag of t bytes: the MAC is verified first
abbrev pub composed_decrypts : (List ℕ → Result (List ℕ) Kind) → (List ℕ → List ℕ → Result (Unit {0}) Kind) → ℕ → List ℕ → List ℕ → Result (List ℕ) Kind
composed_decrypts decrypts verifies t input aad =
    let n = length input - t in
    if nat_lt (length input) t then Err TooShort
    else (if nat_lt (length aad) (2 ^ 61) then then_answer (verifies (drop n input) (authenticated aad (take n input))) (decrypts (take n input)) else Err DataTooLong)
