-- The stream of a text that is made while it is read.
use Rattle.std.specs.Prelude.{◌≡◌, ℕ, ◌+◌, ◌-◌, List, ◌++◌, length}
use Rattle.sha2.specs.Hashers.{Holds256}
use Rattle.tink_streaming_io.specs.declared.writing.Mode.{Mode}
use Rattle.tink_streaming_io.specs.declared.writing.Mode.TheVariants.{Open, Closed, Failed}
use Rattle.tink_large.specs.Coming.{left_of}
use Rattle.tink_large.specs.Large.{text_length}
use Rattle.tink_large.specs.declared.sealed_text.SealedText.{SealedText}

-- the bytes that were not yet read
abbrev pub stream_left : SealedText → List ℕ
stream_left s = left_of s.n s.at s.writer s.pending

-- an open writer is still to be closed
abbrev pub turn_of : Mode → ℕ
turn_of Open = 1
turn_of Closed = 0
turn_of (Failed c) = 0

-- what bounds how often something is still sealed
abbrev pub turns_left : SealedText → ℕ
turns_left s = text_length s.n - s.at + turn_of s.writer.mode

-- bytes were read, counted and hashed
pub record Passed (old new : SealedText) : Type 0 where
  pub read : List ℕ
  pub left : stream_left old ≡ read ++ stream_left new
  pub count : new.count ≡ old.count + length read
  pub hashed : (m : List ℕ) → Holds256 old.hash m → Holds256 new.hash (m ++ read)
  pub number : new.n ≡ old.n
