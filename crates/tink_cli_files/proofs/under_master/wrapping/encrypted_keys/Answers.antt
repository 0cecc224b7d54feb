use Rattle.std.proofs.lemmas.Result.{err_from_is_err_and}
use Rattle.tink_cli_files.specs.Masters.{valid_in_file}
use Rattle.tink_cli_files.specs.Wrapping.{wraps}
use Rattle.tink_cli_files.proofs.WrapLemmas.{file_draws, file_wrapped, first_refused, undrawn}
use Rattle.tink_cli_files.proofs.under_master.wrapping.encrypted_keys.Goals as goal

pub returns-in_err-handle-clause-answer : goal.returns-in_err-handle-clause-answer
returns-in_err-handle-clause-answer c = λ m is.
    let p = err_from_is_err_and c.from_residual.result c.from_residual.ensures.1 in
    rw (p.1, p.2) (first_refused (wraps m c.args.aad.now c.args.draws.now) (valid_in_file c.args.keys.items) c.in_err-handle.field-0.0 c.in_err-handle.ensures)

pub returns-clause-answer : goal.returns-clause-answer
returns-clause-answer c = λ m is.
    file_wrapped m c.args.master.now c.args.keys.items c.args.aad.now c.args.draws.now c.in_ok-handle.handle c.encrypt.result is c.in_ok-handle.ensures c.encrypt.ensures.answer

pub returns-in_err-handle-clause-rest : goal.returns-in_err-handle-clause-rest
returns-in_err-handle-clause-rest c = λ m is.
    let p = err_from_is_err_and c.from_residual.result c.from_residual.ensures.1 in
    rw (p.1, p.2) (undrawn m c.args.keys.items c.args.aad.now c.args.draws.now c.in_err-handle.field-0.0 c.in_err-handle.ensures)

pub returns-clause-rest : goal.returns-clause-rest
returns-clause-rest c = λ m is.
    file_draws m c.args.master.now c.args.keys.items c.args.aad.now c.args.draws.now c.encrypt.new.draws c.in_ok-handle.handle c.encrypt.result is c.in_ok-handle.ensures c.encrypt.ensures.rest
