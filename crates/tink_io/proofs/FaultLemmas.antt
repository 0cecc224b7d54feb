-- Counts of faults over several calls.
use Rattle.std.proofs.Common.{◌≡◌, ℕ, ◌-◌, ◌^◌, ◌<◌, ◌≤◌, arith}
use Rattle.std.specs.Prelude.{Ok}
use Rattle.tink_io.specs.Faults.{CountsFault, Rose}

-- a count that rose has risen later
pub Rose-later : (before then now : ℕ) → Rose before then → then ≤ now → Rose before now
Rose-later before then now rose later = omega arith

-- a count that rose after a while has risen
pub Rose-earlier : (before then now : ℕ) → before ≤ then → Rose then now → Rose before now
Rose-earlier before then now earlier rose = omega arith

-- a count that stands still below the last value of u64 has not risen
pub Rose-not : (before now : ℕ) → now ≡ before → before < 2 ^ 64 - 1 → Rose before now → ⊥
Rose-not before now still below rose = omega arith

-- a call that did not fail left the count
pub CountsFault-still : {T E : Type 0} (before now : ℕ) (v : T) → now ≡ before → CountsFault {T = T} {E = E} before now (Ok v)
CountsFault-still before now v still = record { later = omega arith; failed = tt }
