-- Segments at the head of bytes that are held.
use Rattle.std.specs.Prelude.{◌≡◌, ℕ, ◌<◌, ◌≤◌, Bool, List, length, take, nat_le, Result, Ok, Err}
use Rattle.std.specs.declared.option.Option.{Option}
use Rattle.std.specs.Io.KnownBytes.{Keeps, IsAtEnd, prepend_known}
use Rattle.tink_io.specs.declared.outside.Failed.{Failed}

-- the text's segment is the chunk at the head of the held bytes, and is marked where nothing follows it
pub record HeadOpensTo (seg : ℕ → Bool → List ℕ → List ℕ) (number size : ℕ) (held text : List ℕ) : Type 0 where
  pub some : 0 < length held
  pub segment : seg number (nat_le (length held) size) text ≡ take size held

-- the held bytes and those that are left make the rest, and more than a chunk is held unless nothing is left
pub record HoldsChunk (size : ℕ) (rest : Option (List ℕ)) (held : List ℕ) (left : Option (List ℕ)) : Type 0 where
  pub all : Keeps rest (prepend_known held left)
  pub end : length held ≤ size → IsAtEnd left

-- more than a chunk is held, or nothing is left, unless the source failed. The held bytes and those that are left make the rest.
abbrev pub HoldsOrFails : ℕ → Option (List ℕ) → List ℕ → Option (List ℕ) → Result (Unit {0}) Failed → Type 0
HoldsOrFails size rest held left (Ok _) = HoldsChunk size rest held left
HoldsOrFails size rest held left (Err _) = Keeps rest (prepend_known held left)
