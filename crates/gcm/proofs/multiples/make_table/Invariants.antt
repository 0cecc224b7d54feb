use Rattle.std.proofs.Common.{◌≡◌, ℕ, ◌<◌, get_or, length}
use Rattle.gcm.specs.Multiples.{multiple}
use Rattle.gcm.proofs.multiples.make_table.Given as goal

abbrev pub invariant-loop-n : goal.invariant-loop-n
invariant-loop-n l = (length l.table ≡ 16) × ((k : ℕ) → k < l.n → get_or l.table k 0 ≡ multiple l.y k)
