-- What contracts see of an object in memory, and what a read does to it.
use Rattle.std.specs.Prelude.{◌≡◌, ℕ, ◌-◌, min, Bool, if◌then◌else◌, List, [], length}
use Rattle.std.proofs.Common.{refl, ◌∙◌}
use Rattle.tink_io.specs.Memory.{at_most_piece, is_next_listed, one_more}

-- an object: its bytes, the most bytes that a read moves (0 for no limit), the numbers of the reads that fail, how many
-- reads there were, and how many failed
pub record MemoryAt : Type 0 where
  pub bytes : List ℕ
  pub piece : ℕ
  pub fails : List ℕ
  pub calls : ℕ
  pub faults : ℕ

-- how many bytes a read from a place moves to a buffer of that length
abbrev pub read_at_len : MemoryAt → ℕ → ℕ → ℕ
read_at_len s pos len = at_most_piece s.piece (min (length s.bytes - pos) len)

-- whether a read fails
abbrev pub is_at_fault : MemoryAt → Bool
is_at_fault s = is_next_listed s.fails s.calls

-- the object after a read
abbrev pub after_read_at : MemoryAt → MemoryAt
after_read_at s = if is_at_fault s
    then record s { calls = one_more s.calls; faults = one_more s.faults }
    else record s { calls = one_more s.calls }

-- what stays of an object: its bytes, the list of failing reads, and where it is empty the count of faults
pub record SameAt (old new : MemoryAt) : Type 0 where
  pub bytes : new.bytes ≡ old.bytes
  pub fails : new.fails ≡ old.fails
  pub count : old.fails ≡ [] → new.faults ≡ old.faults

pub SameAt-refl : (s : MemoryAt) → SameAt s s
SameAt-refl s = record { bytes = refl; fails = refl; count = λ _. refl }

pub SameAt-trans : (s t u : MemoryAt) → SameAt s t → SameAt t u → SameAt s u
SameAt-trans s t u p q = record {
  bytes = q.bytes ∙ p.bytes;
  fails = q.fails ∙ p.fails;
  count = λ none. q.count (p.fails ∙ none) ∙ p.count none;
}
