-- How many steps a range takes, by the chunks that it touches.
use Rattle.std.specs.Prelude.{◌≡◌, ℕ, ◌+◌, ◌-◌, ◌<◌, ◌≤◌, Result, Ok, Err}
use Rattle.tink_io.specs.declared.error.TinkError.{TinkError}
use Rattle.tink_range.specs.Giving.{Cutting}
use Rattle.tink_range.specs.Shapes.{start_at}

-- one step was taken, and by a refusal no more than one
abbrev pub TakesOneStep : {T : Type 0} → ℕ → ℕ → Result T TinkError → Type 0
TakesOneStep before now (Ok _) = now ≡ before + 1
TakesOneStep before now (Err _) = now ≤ before + 1

-- chunk n has this place of the text
abbrev pub HasPlace : Cutting → ℕ → ℕ → Type 0
HasPlace c n place = (start_at (c.first - c.over) (c.size - c.over) n ≤ place) × (place < start_at (c.first - c.over) (c.size - c.over) (n + 1))

-- from the chunk of the range's first place to that of its last there are so many
pub record AreFromTo (c : Cutting) (lo hi count : ℕ) : Type 0 where
  pub first : ℕ
  pub last : ℕ
  pub begins : HasPlace c first lo
  pub ends : HasPlace c last (hi - 1)
  pub count_is : count ≡ last + 1 - first

-- the range touches so many chunks: none where it is empty
pub record TouchesSoMany (c : Cutting) (lo hi count : ℕ) : Type 0 where
  pub none : hi ≤ lo → count ≡ 0
  pub some : lo < hi → AreFromTo c lo hi count

-- an Ok took a step for each chunk that the range touches, and so many more
abbrev pub TakesTouched : {T : Type 0} → Cutting → ℕ → ℕ → ℕ → ℕ → ℕ → Result T TinkError → Type 0
TakesTouched c lo hi more before now (Ok _) = (count : ℕ) × TouchesSoMany c lo hi count × (now ≡ before + count + more)
TakesTouched c lo hi more before now (Err _) = Unit {0}
