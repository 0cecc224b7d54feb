use Rattle.std.proofs.Common.{ℕ, List, Result, ap, subst}
use Rattle.tink_io.specs.Answering.{Answers}
use Rattle.tink_io.specs.declared.error.TinkError.{TinkError}
use Rattle.tink_c_keysets.specs.Formats.{had_random}
use Rattle.tink_c_keysets.proofs.Given.{lacked}
use Rattle.tink_c_keysets.proofs.wrapping.unless_short.Goals as goal

pub returns-in-Ok : goal.returns-in-Ok
returns-in-Ok c = λ told is. ap had_random (subst (λ (r : Result (List ℕ) TinkError). Answers r told) c.in-Ok.is is)

pub returns-in-Err : goal.returns-in-Err
returns-in-Err c = λ told is. lacked told c.in-Err.e.kind c.lack.result (subst (λ (r : Result (List ℕ) TinkError). Answers r told) c.in-Err.is is) c.lack.ensures
