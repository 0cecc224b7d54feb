use Rattle.std.proofs.Common.{◌≡◌, ◌∷◌, ◌++◌, [], refl, ap, subst, ◌∙◌, ℤ, pos, negsuc, false, arith, w32, decimal}
use Rattle.std.proofs.lemmas.Bool.{leb-false}
use Rattle.std.proofs.lemmas.Int.{to_z-of_z}
use Rattle.std.proofs.lemmas.Result.{err_from_is_err_and}
use Rattle.std.specs.Fmt.{signed_decimal}
use Rattle.std.specs.Prelude.{unsigned_abs}
use lib.Signed.{le_z}
use Rattle.tink_io.proofs.WrittenLemmas.{Writes-cut, Writes-then}
use Rattle.tink_io.proofs.output.put_signed.Goals as goal

-- a number below 0 is a sign and its magnitude
below_zero : (y z : ℤ) → y ≡ z → le_z (pos 0) y ≡ false → signed_decimal z ≡ (45 ∷ []) ++ decimal (unsigned_abs z)
below_zero y (pos n) is below = absurd (omega (arith, leb-false 0 n (subst (λ x. le_z (pos 0) x ≡ false) is below)))
below_zero y (negsuc n) is below = refl

pub returns-in_err-put-clause-writes : goal.returns-in_err-put-clause-writes
returns-in_err-put-clause-writes g c =
    let signed = below_zero _ _ (to_z-of_z w32 c.args.number c.ranges.number) c.if-number-ge0.false in
    let handed = err_from_is_err_and c.from_residual.result c.from_residual.ensures.1 in
    rw signed (Writes-cut _ _ _ _ _ _ _ _ _ refl handed c.in_err-put.ensures.writes)

pub returns-clause-writes : goal.returns-clause-writes
returns-clause-writes g c =
    let number = to_z-of_z w32 c.args.number c.ranges.number in
    let signed = below_zero _ _ number c.if-number-ge0.false in
    rw (signed, ← (c.unsigned_abs-2.ensures.value ∙ ap unsigned_abs number)) (Writes-then _ _ _ _ _ _ _ _ _ _ refl c.in_ok-put.ensures.writes c.put_decimal-2.ensures.writes)
