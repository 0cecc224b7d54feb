use Rattle.std.proofs.Common.{refl, arith}
use Rattle.std.proofs.lemmas.Result.{err_from_is_err_and}
use Rattle.std.proofs.lemmas.Fmt.{decimal_digit, decimal_step}
use Rattle.tink_io.proofs.WrittenLemmas.{Writes-then, Writes-refused}
use Rattle.tink_io.proofs.output.+put_decimal.Goals as goal

pub returns-then-number-lt10-clause-writes : goal.returns-then-number-lt10-clause-writes
returns-then-number-lt10-clause-writes g t c = rw (decimal_digit c.args.number c.if-number-lt10.true) c.put_digit.ensures.writes

pub returns-in_err-put_decimal-clause-writes : goal.returns-in_err-put_decimal-clause-writes
returns-in_err-put_decimal-clause-writes g t c =
    let answer = err_from_is_err_and c.from_residual.result c.from_residual.ensures.1 in
    rw (answer.1, answer.2, decimal_step c.args.number c.if-number-lt10.false (omega (arith, c.ranges.number.fits)))
    (Writes-refused _ _ _ _ _ _ _ c.in_err-put_decimal.ensures.writes)

pub returns-clause-writes : goal.returns-clause-writes
returns-clause-writes g t c =
    rw (decimal_step c.args.number c.if-number-lt10.false (omega (arith, c.ranges.number.fits)))
    (Writes-then _ _ _ _ _ _ _ _ _ _ refl c.in_ok-put_decimal.ensures.writes c.put_digit-2.ensures.writes)
