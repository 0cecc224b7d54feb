use Rattle.std.proofs.lemmas.Result.{err_from_is_err_and}
use Rattle.tink_program_core.specs.Keysets.{of_no_keys}
use Rattle.tink_program_core.proofs.KeysetSteps.{fault_left, not_written, text_written, untouched_left}
use Rattle.tink_program_core.proofs.keysets.write_new.Goals as goal

pub returns-in_err-line-clause-answer : goal.returns-in_err-line-clause-answer
returns-in_err-line-clause-answer g c =
    let p = err_from_is_err_and c.from_residual.result c.from_residual.ensures.1 in
    rw (p.1, p.2) (not_written (of_no_keys c.args.template.now c.args.seed) _ _ _ c.in_err-line.ensures)

pub returns-in_err-line-clause-early : goal.returns-in_err-line-clause-early
returns-in_err-line-clause-early g c = untouched_left c.args.sink.now c.from_residual.result

pub returns-clause-answer : goal.returns-clause-answer
returns-clause-answer g c =
    text_written (of_no_keys c.args.template.now c.args.seed) _ _ _ _ _ _ c.write_all.result c.in_ok-line.ensures c.deref.ensures.value
    c.write_all.ensures.written c.write_all.ensures.prefix c.write_all.ensures.cause c.write_all.ensures.refused

pub returns-clause-early : goal.returns-clause-early
returns-clause-early g c = fault_left c.args.sink.now c.write_all.new.sink c.write_all.result c.write_all.ensures.refused

pub returns-in_err-line-clause-sink : goal.returns-in_err-line-clause-sink
returns-in_err-line-clause-sink g c = g.met.K.Sink.same_refl _
