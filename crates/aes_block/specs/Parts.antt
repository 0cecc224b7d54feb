-- The parts of a plane.
use Rattle.std.specs.Prelude.{◌≤◌, ◌==◌, ℕ, List, cond, take, drop}
use Rattle.std.specs.Borrow.{RattleType}
use Rattle.std.specs.Mem.{type_size}

-- the first 16 bytes, and those behind them
abbrev pub half : ℕ → List ℕ → List ℕ
half h v = cond (h == 0) (take 16 v) (drop 16 v)

-- a value of the type takes at most 32 bytes, so that some of them fit in memory together
abbrev pub IsSmall : RattleType → Type 0
IsSmall R = type_size R ≤ 32
