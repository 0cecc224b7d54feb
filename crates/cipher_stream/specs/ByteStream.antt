-- Keystreams by bytes, with the rest of a block that is buffered.
use Rattle.std.specs.Prelude.{◌≡◌, ◌↔◌, ℕ, ℤ, pos, negsuc, ◌+◌, ◌-◌, ◌*◌, ◌/◌, ◌%◌, ◌<◌, ◌≤◌, List, Option, Some, None, MatchOption, cond, leb, ltb, map, slice_index, ⊤}
use Rattle.std.specs.List.{range_with_len}
use Rattle.cipher_stream.specs.Keystream.{Keystream}

-- the byte at each place, the place from which on they repeat (0: they don't), the bytes of the blocks that were made,
-- and the number of those that are not used yet
pub record ByteStream : Type 0 where
  pub byte_at : ℕ → ℕ
  pub period : ℕ
  pub taken : ℕ
  pub rest : ℕ

-- the position, the bytes that were made less the rest, or nothing where it is below 0: a rest of the greatest block
abbrev pub position : ByteStream → Option ℕ
position s = cond (leb s.rest s.taken) (Some (s.taken - s.rest)) None

-- the bytes to come: those from the position on (a position below 0 counts from the end of the period)
abbrev pub to_come : ByteStream → ℕ → ℕ
to_come s j = s.byte_at (s.taken + s.period * s.rest + j - s.rest)

-- the next n bytes
abbrev pub next_bytes : ℕ → ByteStream → List ℕ
next_bytes n s = map (to_come s) (range_with_len 0 n)

-- the position is this place, as far as places are told apart
abbrev pub IsAt : ByteStream → ℕ → Type 0
IsAt s m = (m + s.rest) % s.period ≡ s.taken % s.period

-- both have the same bytes at the same places
pub record IsSame (old new : ByteStream) : Type 0 where
  pub same_bytes : (i : ℕ) → new.byte_at i ≡ old.byte_at i
  pub same_period : new.period ≡ old.period

-- the position has moved by n bytes (the period being one turn), and the bytes to come with it
pub record HasMoved (old : ByteStream) (n : ℕ) (new : ByteStream) : Type 0 where
  pub same : IsSame old new
  pub ahead : (j : ℕ) → to_come new j ≡ to_come old (n + j)
  pub moved : (new.taken + old.rest) % old.period ≡ (old.taken + n + new.rest) % old.period

-- the joined blocks of `size` bytes of a core, of which so many bytes are buffered
abbrev pub bytes_from : ℕ → Keystream → ℕ → ByteStream
bytes_from size k rest = record {
  byte_at = λ i. slice_index (k.block_at ((i / size) % k.period)) (i % size);
  period = k.period * size;
  taken = k.position * size;
  rest = rest;
}

-- .. where a core and that number stand together
abbrev pub buffered : {T : Type 0} → ℕ → (T → Keystream) → T × ℕ → ByteStream
buffered size keystream w = bytes_from size (keystream w.0) w.1

-- n bytes are no more than the rest and the blocks that remain have
abbrev pub HasRoom : ℕ → Option ℕ → ℕ → ℕ → Type 0
HasRoom size remaining rest n = MatchOption remaining ⊤ (λ m. n ≤ rest + m * size)

-- how many blocks the bytes before the place n are in, the last of them maybe in part
abbrev pub blocks_before : ℕ → ℕ → ℕ
blocks_before size n = (n + size - 1) / size

-- how many bytes of the last of them are from the place n on
abbrev pub rest_at : ℕ → ℕ → ℕ
rest_at size n = blocks_before size n * size - n

-- m bytes are no more than there are from the place n on: the rest of the block that n is within, and the blocks that remain
-- from the next one
abbrev pub HasRoomAt : ℕ → (ℕ → Option ℕ) → ℕ → ℕ → Type 0
HasRoomAt size remaining_at n = HasRoom size (remaining_at (blocks_before size n)) (rest_at size n)

-- as many bytes fewer have room
abbrev pub LeavesRoom : (ℕ → Type 0) → ℕ → (ℕ → Type 0) → Type 0
LeavesRoom old n new = (m : ℕ) → new m ↔ old (n + m)

-- as many fewer, in numbers of blocks and of bytes buffered
abbrev pub IsFewer : ℕ → Option ℕ → ℕ → ℕ → Option ℕ → ℕ → Type 0
IsFewer size None rest n new rest' = new ≡ None
IsFewer size (Some m) rest n new rest' =
    n ≤ rest + m * size → (m' : ℕ) × (new ≡ Some m') × (rest' + m' * size + n ≡ rest + m * size)

-- .. of a core and the number of bytes buffered
abbrev pub LeavesFewer : {T : Type 0} → ℕ → (T → Option ℕ) → T × ℕ → ℕ → T × ℕ → Type 0
LeavesFewer size remaining old n new = IsFewer size (remaining old.0) old.1 n (remaining new.0) new.1

-- a buffer holds, from the place `used` on, what the block before the position has there
pub record HoldsLastBlock (size : ℕ) (k : Keystream) (buffer : List ℕ) (used : ℕ) : Type 0 where
  pub block : ℕ
  pub own : block % k.period ≡ block
  pub next : (block + 1) % k.period ≡ k.position % k.period
  pub same : (j : ℕ) → used ≤ j → j < size → slice_index buffer j ≡ slice_index (k.block_at block) j

abbrev pub IsRest : ℕ → Keystream → List ℕ → ℕ → Type 0
IsRest size k buffer used = used < size → HoldsLastBlock size k buffer used

-- a number, if there is one, that is at most this
abbrev pub AtMost : Option ℕ → ℕ → Type 0
AtMost None m = ⊥
AtMost (Some n) m = n ≤ m

-- the place `block * size - (size - byte)`, or nothing where that is below 0 or the byte is past the block
abbrev pub byte_place : ℕ → ℕ → ℕ → Option ℕ
byte_place block byte size =
    cond (leb byte size) (cond (leb (size - byte) (block * size)) (Some (block * size - (size - byte))) None) None

-- a number, if it is below this
abbrev pub below : ℕ → Option ℕ → Option ℕ
below m None = None
below m (Some n) = cond (ltb n m) (Some n) None

-- an integer, if it is not negative
abbrev pub natural : ℤ → Option ℕ
natural (pos n) = Some n
natural (negsuc n) = None
