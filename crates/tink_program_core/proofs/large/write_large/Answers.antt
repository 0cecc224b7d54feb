use Rattle.std.proofs.Common.{◌∙◌, ap}
use Rattle.std.proofs.lemmas.Result.{err_from_is_err_and}
use Rattle.tink_io.specs.declared.error.TinkError.{TinkError}
use Rattle.tink_program_core.proofs.KeysetSteps.{fault_left, untouched_left}
use Rattle.tink_program_core.proofs.LargeSteps.{lines_written, not_written}
use Rattle.tink_program_core.proofs.large.write_large.Goals as goal

pub returns-in_err-text-clause-answer : goal.returns-in_err-text-clause-answer
returns-in_err-text-clause-answer g c =
    let p = err_from_is_err_and c.from_residual.result c.from_residual.ensures.1 in
    rw p.1 (not_written c.args.n _ _ p.0 (ap (λ (e : TinkError). e.kind) (p.2 ∙ c.in_err-text.ensures.refused)))

pub returns-in_err-text-clause-early : goal.returns-in_err-text-clause-early
returns-in_err-text-clause-early g c = untouched_left c.args.sink.now c.from_residual.result

pub returns-clause-answer : goal.returns-clause-answer
returns-clause-answer g c =
    lines_written c.args.n _ _ _ _ _ c.write_all.result (c.deref.ensures.value ∙ c.in_ok-text.ensures.lines)
    c.write_all.ensures.written c.write_all.ensures.prefix c.write_all.ensures.cause c.write_all.ensures.refused

pub returns-clause-early : goal.returns-clause-early
returns-clause-early g c = fault_left c.args.sink.now c.write_all.new.sink c.write_all.result c.write_all.ensures.refused

pub returns-in_err-text-clause-sink : goal.returns-in_err-text-clause-sink
returns-in_err-text-clause-sink g c = g.met.K.Sink.same_refl _
