use Rattle.std.proofs.Common.{◌≡◌, ℕ, ◌<◌, [], get_or, length}
use Rattle.gcm.specs.Carries.{bytes_of}
use Rattle.gcm.specs.Multiples.{multiple8}
use Rattle.gcm.proofs.large_multiples.make_large_table.Given as goal

abbrev pub invariant-loop-n : goal.invariant-loop-n
invariant-loop-n l = (length l.table ≡ 256) × ((k : ℕ) → k < l.n → get_or l.table k [] ≡ bytes_of (multiple8 l.m k))
