-- What a mode makes of bytes.
use Rattle.std.specs.Prelude.{◌≡◌, ℕ, ◌/◌, ◌%◌, ◌==◌, ◌++◌, List, Option, None, Some, Result, Ok, Err, length, take, drop, option_map, if◌then◌else◌}
use Rattle.std.specs.List.{concat}
use Rattle.std.specs.Simd.{first_chunks}
use Rattle.std.specs.Borrow.{Bor}
use Rattle.cipher.specs.Transcript.{Block}
use Rattle.cipher_modes.specs.Steps.{run_of}

-- the whole blocks of B bytes
abbrev pub blocks_of : ℕ → List ℕ → List Block
blocks_of B bytes = first_chunks B (length bytes / B) bytes

-- the outputs of a mode on the whole blocks, joined
abbrev pub bytes_run : {S : Type 0} → (S → Block → Block × S) → S → ℕ → List ℕ → List ℕ
bytes_run step s B bytes = concat (run_of step s (blocks_of B bytes))

-- what a mode makes of a padded message, or nothing where it cannot be padded
abbrev pub enciphered : {S : Type 0} → (S → Block → Block × S) → S → ℕ → Option (List ℕ) → Option (List ℕ)
enciphered step s B message = option_map (bytes_run step s B) message

-- the output begins with what a mode makes of a padded message, n bytes, and ends as before
abbrev pub IsEncrypted : {S : Type 0} → (S → Block → Block × S) → S → ℕ → Option (List ℕ) → ℕ → List ℕ → List ℕ → Type 0
IsEncrypted step s B None n old new = ⊥
IsEncrypted step s B (Some message) n old new = (n ≡ length message) × (new ≡ bytes_run step s B message ++ drop n old)

-- what a mode makes of whole blocks, or nothing where they are not whole
abbrev pub deciphered : {S : Type 0} → (S → Block → Block × S) → S → ℕ → List ℕ → Option (List ℕ)
deciphered step s B bytes = if length bytes % B == 0 then Some (bytes_run step s B bytes) else None

-- the output after a decryption of a buffer: what was deciphered, or as before where nothing was
abbrev pub left_by : Option (List ℕ) → List ℕ → List ℕ
left_by None old = old
left_by (Some bytes) old = bytes

-- the message of what was deciphered
abbrev pub message_in : (ℕ → List ℕ → Option (List ℕ)) → ℕ → Option (List ℕ) → Option (List ℕ)
message_in unpadded B None = None
message_in unpadded B (Some bytes) = unpadded B bytes

-- the answer is the beginning of these bytes that is as long as was made, or the refusal
abbrev pub IsFrontOf : {E : Type 0} → List ℕ → Result ℕ E → Result (Bor (List ℕ)) E → Type 0
IsFrontOf bytes (Ok n) (Ok front) = front.now ≡ take n bytes
IsFrontOf bytes (Ok n) (Err e) = ⊥
IsFrontOf bytes (Err e) (Ok front) = ⊥
IsFrontOf bytes (Err e) (Err refusal) = refusal ≡ e
