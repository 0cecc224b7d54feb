use Rattle.std.proofs.Common.{◌≡◌, ℕ, ◌<◌, [], get_or, length}
use Rattle.gcm.specs.Carries.{bytes_of}
use Rattle.gcm.specs.Multiples.{four, multiple}
use Rattle.gcm.proofs.large_multiples.make_low_rows.Given as goal

abbrev pub invariant-loop-n : goal.invariant-loop-n
invariant-loop-n l = (length l.rows ≡ 16) × ((k : ℕ) → k < l.n → get_or l.rows k [] ≡ bytes_of (four (multiple l.m k)))
