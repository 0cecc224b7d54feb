-- Keystreams by blocks.
use Rattle.std.specs.Prelude.{◌≡◌, ℕ, ◌+◌, ◌-◌, ◌/◌, ◌%◌, ◌≤◌, ◌^◌, List, [], ◌∷◌, Option, Some, None, MatchOption, cond, ltb, map, slice_index, slice_index_or, bit_xor, ⊤}
use Rattle.std.specs.List.{range_with_len}
use Rattle.cipher.specs.Transcript.{Block}
use Rattle.standards.specs.Lists.{xor_bytes}

-- a block for each number, the number from which on they repeat (0: they don't, as x % 0 is x), and the number of the next
pub record Keystream : Type 0 where
  pub block_at : ℕ → Block
  pub period : ℕ
  pub position : ℕ

-- the blocks to come
abbrev pub stream_of : Keystream → ℕ → Block
stream_of k i = k.block_at ((k.position + i) % k.period)

-- the next n blocks
abbrev pub next : ℕ → Keystream → List Block
next n k = map (stream_of k) (range_with_len 0 n)

-- the bytes to come, where blocks have `size` bytes
abbrev pub bytes_of : ℕ → Keystream → ℕ → ℕ
bytes_of size k j = slice_index (stream_of k (j / size)) (j % size)

-- the position has moved by n blocks, and all else is as before
pub record IsMoved (old : Keystream) (n : ℕ) (new : Keystream) : Type 0 where
  pub same_blocks : (i : ℕ) → new.block_at i ≡ old.block_at i
  pub same_period : new.period ≡ old.period
  pub moved : new.position % old.period ≡ (old.position + n) % old.period

-- some number of a keystream's next blocks leads from the old state to the new one, and the position has moved by that number
pub record IsFed {S : Type 0} (leads : List Block → S → S → Type 0) (old new : S) (k k' : Keystream) : Type 0 where
  pub count : ℕ
  pub goes : leads (next count k) old new
  pub is_moved : IsMoved k count k'

-- the position is p, and all else is as before
pub record IsPlaced (old : Keystream) (p : ℕ) (new : Keystream) : Type 0 where
  pub same_blocks : (i : ℕ) → new.block_at i ≡ old.block_at i
  pub same_period : new.period ≡ old.period
  pub placed : new.position ≡ p

-- what is left of a number of blocks after n, if that many remained; where no number remained none does
abbrev pub Spends : Option ℕ → ℕ → Option ℕ → Type 0
Spends None n new = new ≡ None
Spends (Some m) n new = n ≤ m → new ≡ Some (m - n)

-- as `IsFed`, and by that number fewer blocks remain
pub record IsServed {S : Type 0} (leads : List Block → S → S → Type 0) (old new : S) (k : Keystream) (remaining : Option ℕ) (k' : Keystream) (remaining' : Option ℕ) : Type 0 where
  pub count : ℕ
  pub goes : leads (next count k) old new
  pub is_moved : IsMoved k count k'
  pub spent : Spends remaining count remaining'

-- a number of blocks as a `usize`, if it is one
abbrev pub as_usize : Option ℕ → Option ℕ
as_usize None = None
as_usize (Some n) = cond (ltb n (2 ^ 64)) (Some n) None

-- no more than the number of blocks that remain
abbrev pub Remain : Option ℕ → ℕ → Type 0
Remain remaining n = MatchOption remaining ⊤ (λ m. n ≤ m)

-- each x combined with the y of its place, as far as the ys go
abbrev pub combined : {X Y : Type 0} → (X → Y → X) → List X → List Y → List X
combined op [] ys = []
combined op (x ∷ xs) [] = x ∷ xs
combined op (x ∷ xs) (y ∷ ys) = op x y ∷ combined op xs ys

-- each x combined with what a stream has at its place
abbrev pub applied : {X Y : Type 0} → (X → Y → X) → (ℕ → Y) → List X → List X
applied op s [] = []
applied op s (x ∷ xs) = op x (s 0) ∷ applied op (λ j. s (1 + j)) xs

-- the bytes of joined blocks of `size` bytes
abbrev pub joined : ℕ → List Block → ℕ → ℕ
joined size blocks j = slice_index (slice_index_or blocks (j / size) []) (j % size)

-- bytes xor those of a stream
abbrev pub xored : (ℕ → ℕ) → List ℕ → List ℕ
xored s xs = applied bit_xor s xs

-- blocks xor those of a stream
abbrev pub xored_blocks : (ℕ → Block) → List Block → List Block
xored_blocks s xs = applied xor_bytes s xs
