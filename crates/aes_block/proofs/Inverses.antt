-- The inverse of a byte, computed at 1 to 255.
use Rattle.std.proofs.Common.{◌≡◌, ◌≤◌, ◌<◌, ℕ, zero, suc, eqb, eqb→eq, arith}
use Rattle.standards.specs.Aes.{inverse, power, times, times_terms}
use Rattle.standards.proofs.Bytes.{every_below}

pub times-inverse : (a : ℕ) → 1 ≤ a → a < 256 → times a (inverse a) ≡ 1
unfolding inverse power times times_terms
times-inverse zero p h = absurd (omega arith)
times-inverse (suc n) p h = eqb→eq _ _ (every_below (λ k. eqb (times (suc k) (inverse (suc k))) 1) 255 tt n (omega arith))
