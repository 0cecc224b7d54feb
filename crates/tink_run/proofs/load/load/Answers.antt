use Rattle.std.proofs.lemmas.Result.{err_from_is_err_and}
use Rattle.tink_run.proofs.LoadLemmas.{is_refused, load_valid}
use Rattle.tink_run.proofs.load.load.Goals as goal

pub returns-in_err-handle-clause-answer : goal.returns-in_err-handle-clause-answer
returns-in_err-handle-clause-answer c =
    let returned = err_from_is_err_and c.from_residual.result c.from_residual.ensures.1 in
    rw (returned.1, returned.2) (is_refused c.args.bytes.now c.in_err-handle.field-0.0 c.in_err-handle.ensures.answer)

pub build_all-requires : goal.build_all-requires
build_all-requires c = c.in_ok-handle.ensures.valid

pub returns-clause-answer : goal.returns-clause-answer
returns-clause-answer c = rw (load_valid c.args.bytes.now c.in_ok-handle.handle c.in_ok-handle.ensures.answer) c.build_all.ensures.answer
