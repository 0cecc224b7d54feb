-- What the tests of modes by vectors answer: the first text whose case holds.
use Rattle.std.specs.Prelude.{ℕ, ◌%◌, List, Option, None, Some, if◌then◌else◌, ◌==◌, ◌&&◌, nat_lt, length, codes}
use Rattle.cipher.specs.BlockVectors.{first, block_fault}
use Rattle.cipher.specs.Transcript.{Block}
use Rattle.cipher_modes.specs.Padded.{bytes_run}
use Rattle.cipher_modes.specs.declared.dev.block_mode.TestVector.{TestVector}

-- made is as long as wanted; a key of K bytes, an initialization vector of I
abbrev pub size_fault : ℕ → ℕ → ℕ → TestVector → List ℕ → List ℕ → List ℕ → Option (List ℕ)
size_fault K I B v wanted from too_big =
    if nat_lt 4096 (length wanted) then Some too_big
    else (if length from == length wanted then
    (if length wanted % B == 0 then
    (if length v.key.now == K && length v.iv.now == I then None
    else Some (codes "cipher initialization failure"))
    else Some (codes "plaintext/ciphertext length is not multiple of block size"))
    else Some (codes "plaintext/ciphertext length mismatch"))

abbrev pub encrypt_fault : {C : Type 0} → ℕ → ℕ → ℕ → (List ℕ → List ℕ → C) → (C → Block → Block × C) → TestVector → Option (List ℕ)
encrypt_fault K I B keyed step v =
    first (size_fault K I B v v.ciphertext.now v.plaintext.now (codes "ciphertext is bigger than MAX_MSG_LEN bytes"))
    (block_fault (bytes_run step (keyed v.key.now v.iv.now) B v.plaintext.now) v.ciphertext.now (codes "single block encryption failure"))

abbrev pub decrypt_fault : {C : Type 0} → ℕ → ℕ → ℕ → (List ℕ → List ℕ → C) → (C → Block → Block × C) → TestVector → Option (List ℕ)
decrypt_fault K I B keyed step v =
    first (size_fault K I B v v.plaintext.now v.ciphertext.now (codes "plaintext is bigger than MAX_MSG_LEN bytes"))
    (block_fault (bytes_run step (keyed v.key.now v.iv.now) B v.ciphertext.now) v.plaintext.now (codes "single block decryption failure"))
