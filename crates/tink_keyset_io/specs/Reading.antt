-- What a reader of keysets has of a source.
use Rattle.std.specs.Prelude.{◌≡◌, ◌⊎◌, ℕ, ◌^◌, ◌<◌, ◌≤◌, nat_lt, if◌then◌else◌, List, ◌++◌, length, take, Option, option_map, IfSome, Result, Err}
use Rattle.std.specs.Io.KnownBytes.{Consumes, IsAtEnd}
use Rattle.tink_io.specs.Faults.{Rose}
use Rattle.tink_io.specs.Answering.{or_refused}
use Rattle.tink_io.specs.declared.error.Kind.{Kind}
use Rattle.tink_io.specs.declared.error.Kind.TheVariants.{OutOfMemory, ReadFault, KeysetTooLong}

-- what a text is read as
abbrev pub reading : {M : Type 0} → Kind → (List ℕ → Option M) → List ℕ → Result M Kind
reading refusal message text = if nat_lt (2 ^ 26) (length text) then Err KeysetTooLong else or_refused refusal (message text)

-- the answer of a read of the bytes left, where they are known
abbrev pub told : {M : Type 0} → Kind → (List ℕ → Option M) → Option (List ℕ) → Option (Result M Kind)
told refusal message left = option_map (reading refusal message) left

-- why a piece could not be had: no memory, or a fault
abbrev pub IsFault : Kind → ℕ → ℕ → Type 0
IsFault kind before now = (kind ≡ OutOfMemory) ⊎ ((kind ≡ ReadFault) × Rose before now)

-- why a text could not be had: the same, or it has more than the most bytes
abbrev pub IsUnreadText : ℕ → Kind → Option (List ℕ) → Kind → ℕ → ℕ → Type 0
IsUnreadText most refusal left kind before now =
    IsFault kind before now ⊎ ((kind ≡ refusal) × IfSome left (λ text. most < length text))

-- the first n bytes of a piece went from the known bytes to the end of a text; none only at the end
pub record IsPiece (old new : Option (List ℕ)) (before after piece : List ℕ) (n : ℕ) : Type 0 where
  pub within : n ≤ length piece
  pub taken : Consumes old new (take n piece)
  pub text : after ≡ before ++ take n piece
  pub end : n ≡ 0 → IsAtEnd new
