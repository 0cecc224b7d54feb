-- Messages in blocks of 16 bytes.
use Rattle.std.specs.Prelude.{ℕ, zero, suc, ◌-◌, ◌*◌, ◌%◌, List, ◌∷◌, ◌++◌, length, take, drop, replicate}

-- block n of a message, counted from 0
abbrev pub block_at : List ℕ → ℕ → List ℕ
block_at m n = take 16 (drop (16 * n) m)

-- a state after the first n blocks of a message, from the state a on, by the step f
unfoldable pub over_blocks : {A : Type 0} → (A → List ℕ → A) → A → List ℕ → ℕ → A
over_blocks f a m zero = a
over_blocks f a m (suc n) = f (over_blocks f a m n) (block_at m n)

-- a message and the zeros up to a whole number of blocks: none where it is whole
abbrev pub zero_padded : List ℕ → List ℕ
zero_padded m = m ++ replicate ((16 - length m % 16) % 16) 0

-- an incomplete block, a bit 1 and the zeros up to a whole block
abbrev pub bit_padded : List ℕ → List ℕ
bit_padded m = m ++ 0x80 ∷ replicate (15 - length m) 0
