use Rattle.std.proofs.Common.{◌∙◌}
use Rattle.std.proofs.lemmas.Result.{err_from_is_err_and}
use Rattle.tink_program_core.proofs.LargeSteps.{lines_are, only_want}
use Rattle.tink_program_core.proofs.large.text_of.Goals as goal

pub returns-in_err-measured-clause-refused : goal.returns-in_err-measured-clause-refused
returns-in_err-measured-clause-refused c =
    let p = err_from_is_err_and c.from_residual-in_err-measured.result c.from_residual-in_err-measured.ensures.1 in
    rw p.1 (p.2 ∙ only_want _ _ _ _ (c.new-draws.ensures ∙ c.in_ok-first_draws.ensures.draws) c.in_err-measured.ensures.refused)

pub returns-clause-lines : goal.returns-clause-lines
returns-clause-lines c =
    lines_are c.args.n _ _ _ c.lines.result (c.new-draws.ensures ∙ c.in_ok-first_draws.ensures.draws) c.in_ok-measured.ensures.measured c.lines.ensures.lines
