use Rattle.std.proofs.Common.{rules, ap, inl, inr, refl}
use Rattle.std.specs.Prelude.{Err}
use Rattle.tink_run.proofs.EndingSteps.{ok_is_no_err}
use Rattle.tink_run.proofs.together.end_call.Goals as goal

pub returns-in-Err : goal.returns-in-Err
returns-in-Err g c = record {
  ends = inr (record { is = ap Err c.in-Err.ensures.refused; short = c.in-Err.ensures.cut; cause = inl c.in-Err.ensures.cause.failed });
  still = (λ empty. absurd (ok_is_no_err c.flush.result _ c.in-Err.is (c.flush.ensures.still empty).0));
  empty = (λ other. absurd (other (ap Err c.in-Err.ensures.refused)));
  grows = c.flush.ensures.grows;
  later = search rules;
  lent = c.flush.ensures.lent;
  memory = c.flush.ensures.memory;
  same = c.flush.ensures.same;
}

pub returns-in-Ok : goal.returns-in-Ok
returns-in-Ok g c = record {
  ends = inl (record { is = refl; kept = c.in-Ok.ensures.sent });
  still = (λ empty. (refl, (c.flush.ensures.still empty).1));
  empty = (λ _. c.in-Ok.ensures.empty);
  grows = c.flush.ensures.grows;
  later = search rules;
  lent = c.flush.ensures.lent;
  memory = c.flush.ensures.memory;
  same = c.flush.ensures.same;
}
