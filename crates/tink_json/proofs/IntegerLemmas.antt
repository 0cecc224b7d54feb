-- Equal integers.
use Rattle.std.proofs.Common.{◌≡◌, ℤ, ◌<ℤ◌, true}
use Rattle.std.proofs.lemmas.Bool.{false≢true}
use Rattle.std.specs.Cmp.{int_ranks}
use Rattle.std.specs.Ordering.{int_eq, int_cmp, is_eq, MatchOrdering}
use Rattle.std.specs.declared.cmp.Ordering.{Ordering}
use Rattle.std.specs.declared.cmp.Ordering.TheVariants.{Less, Equal, Greater}

by_rank : (x y : ℤ) (r : Ordering) → MatchOrdering r (x <ℤ y) (x ≡ y) (y <ℤ x) → is_eq r ≡ true → x ≡ y
by_rank x y Less h e = absurd (false≢true e)
by_rank x y Equal h e = h
by_rank x y Greater h e = absurd (false≢true e)

pub int_eq-is : (x y : ℤ) → int_eq x y ≡ true → x ≡ y
int_eq-is x y e = by_rank x y (int_cmp x y) (int_ranks x y) e
