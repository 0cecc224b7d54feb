-- What contracts see of a source and a sink over memory, and what a call does to them.
use Rattle.std.specs.Prelude.{◌≡◌, ◌⊎◌, ℕ, ◌+◌, ◌-◌, ◌^◌, ◌≤◌, min, ◌==◌, ◌||◌, ◌&&◌, nat_lt, Bool, if◌then◌else◌, List, [], ◌++◌, length, drop, take}
use Rattle.std.specs.List.{list_any}

-- a source: the bytes left, the most bytes that a call moves (0 for no limit), the numbers of the calls that fail,
-- how many calls there were, and how many failed
pub record MemoryLeft : Type 0 where
  pub left : List ℕ
  pub piece : ℕ
  pub fails : List ℕ
  pub calls : ℕ
  pub faults : ℕ

-- a sink: the bytes taken, how many there is room for in all, and the same
pub record MemoryTaken : Type 0 where
  pub got : List ℕ
  pub room : ℕ
  pub piece : ℕ
  pub fails : List ℕ
  pub calls : ℕ
  pub faults : ℕ

-- a count after one more, which stands still at the last value of u64
abbrev pub one_more : ℕ → ℕ
one_more count = min (count + 1) (2 ^ 64 - 1)

-- whether the call after so many is listed
abbrev pub is_next_listed : List ℕ → ℕ → Bool
is_next_listed fails calls = list_any (λ call. call == one_more calls) fails

-- n bytes, or a piece
abbrev pub at_most_piece : ℕ → ℕ → ℕ
at_most_piece piece n = if piece == 0 then n else min n piece

-- how many bytes a read moves to a buffer of that length
abbrev pub read_len : MemoryLeft → ℕ → ℕ
read_len s len = at_most_piece s.piece (min (length s.left) len)

-- how many bytes a write takes of a piece of that length
abbrev pub write_len : MemoryTaken → ℕ → ℕ
write_len s len = at_most_piece s.piece (min (s.room - length s.got) len)

-- whether a read fails
abbrev pub is_read_fault : MemoryLeft → Bool
is_read_fault s = is_next_listed s.fails s.calls

-- whether a write of a piece of that length fails: it is listed, or there is no room for any of its bytes
abbrev pub is_write_fault : MemoryTaken → ℕ → Bool
is_write_fault s len = is_next_listed s.fails s.calls || (nat_lt 0 len && (s.room - length s.got == 0))

-- the source after a read to a buffer of that length
abbrev pub after_read : MemoryLeft → ℕ → MemoryLeft
after_read s len = if is_read_fault s
    then record s { calls = one_more s.calls; faults = one_more s.faults }
    else record s { calls = one_more s.calls; left = drop (read_len s len) s.left }

-- the sink after a write of a piece
abbrev pub after_write : MemoryTaken → List ℕ → MemoryTaken
after_write s bs = if is_write_fault s (length bs)
    then record s { calls = one_more s.calls; faults = one_more s.faults }
    else record s { calls = one_more s.calls; got = s.got ++ take (write_len s (length bs)) bs }

-- what stays of a source: the list of failing calls, and where it is empty the count of faults
pub record SameSource (old new : MemoryLeft) : Type 0 where
  pub fails : new.fails ≡ old.fails
  pub count : old.fails ≡ [] → new.faults ≡ old.faults

-- what stays of a sink: besides, the room stays and what was taken only goes on; the count of faults may rise
-- where the room is used up
pub record SameSink (old new : MemoryTaken) : Type 0 where
  pub fails : new.fails ≡ old.fails
  pub room : new.room ≡ old.room
  pub goes_on : (more : List ℕ) × (new.got ≡ old.got ++ more)
  pub count : old.fails ≡ [] → (new.faults ≡ old.faults) ⊎ (old.room ≤ length new.got)
