-- What the tests by vectors answer: the first text whose case holds.
use Rattle.std.specs.Prelude.{◌≡◌, ℕ, List, Option, None, Some, Result, Ok, Err, if◌then◌else◌, ◌==◌, length, codes, bytes_eq}
use Rattle.std.specs.Borrow.{Bor}
use Rattle.cipher.specs.Transcript.{Block}
use Rattle.cipher.specs.declared.dev.block_cipher.TestVector.{TestVector}

-- the answer is this text, or Ok where there is none
abbrev pub Reports : Result (Unit {0}) (Bor (List ℕ)) → Option (List ℕ) → Type 0
Reports (Ok _) fault = fault ≡ None
Reports (Err text) fault = fault ≡ Some text.now

abbrev pub first : Option (List ℕ) → Option (List ℕ) → Option (List ℕ)
first None later = later
first (Some text) later = Some text

-- the blocks of B bytes
abbrev pub block_size_fault : ℕ → TestVector → Option (List ℕ)
block_size_fault B v =
    if length v.plaintext.now == B then
    (if length v.ciphertext.now == B then None
    else Some (codes "unexpected size of ciphertext block"))
    else Some (codes "unexpected size of plaintext block")

-- the key of K bytes, and these
abbrev pub size_fault : ℕ → ℕ → TestVector → Option (List ℕ)
size_fault K B v = if length v.key.now == K then block_size_fault B v else Some (codes "cipher initialization failure")

-- a block is another than the wanted one
abbrev pub block_fault : Block → Block → List ℕ → Option (List ℕ)
block_fault made wanted text = if bytes_eq made wanted then None else Some text

abbrev pub encryption_fault : (Block → Block) → TestVector → Option (List ℕ)
encryption_fault encrypts v = block_fault (encrypts v.plaintext.now) v.ciphertext.now (codes "single block encryption failure")

abbrev pub decryption_fault : (Block → Block) → TestVector → Option (List ℕ)
decryption_fault decrypts v = block_fault (decrypts v.ciphertext.now) v.plaintext.now (codes "single block decryption failure")

abbrev pub encrypt_fault : {C : Type 0} → ℕ → ℕ → (List ℕ → C) → (C → Block → Block) → TestVector → Option (List ℕ)
encrypt_fault K B keyed encrypts v = first (size_fault K B v) (encryption_fault (encrypts (keyed v.key.now)) v)

abbrev pub decrypt_fault : {C : Type 0} → ℕ → ℕ → (List ℕ → C) → (C → Block → Block) → TestVector → Option (List ℕ)
decrypt_fault K B keyed decrypts v = first (size_fault K B v) (decryption_fault (decrypts (keyed v.key.now)) v)

abbrev pub encrypt_decrypt_fault : {C : Type 0} → ℕ → ℕ → (List ℕ → C) → (C → Block → Block) → (C → Block → Block) → TestVector → Option (List ℕ)
encrypt_decrypt_fault K B keyed encrypts decrypts v =
    first (encrypt_fault K B keyed encrypts v) (decryption_fault (decrypts (keyed v.key.now)) v)
