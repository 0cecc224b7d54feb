use Rattle.std.proofs.lemmas.Result.{err_from_is_err_and}
use Rattle.tink_cli_files.proofs.BackFacts.{answered_again}
use Rattle.tink_cli_files.proofs.WrapLemmas.{rest_told}
use Rattle.tink_cli_files.proofs.under_master.wrapping.wrap_file.Goals as goal

pub returns-clause-again : goal.returns-clause-again
returns-clause-again c =
    answered_again c.args.master.now c.args.keys.items c.args.aad.now c.args.draws.now c.args.format c.in_ok-encrypted.encrypted c.wrapped_text.result
    c.in_ok-encrypted.ensures.answer c.wrapped_text.ensures.text c.wrapped_text.ensures.again

pub returns-in_err-encrypted-clause-rest : goal.returns-in_err-encrypted-clause-rest
returns-in_err-encrypted-clause-rest c = λ m is.
    let p = err_from_is_err_and c.from_residual.result c.from_residual.ensures.1 in
    rw (p.1, p.2) (c.in_err-encrypted.ensures.rest m is)

pub returns-clause-rest : goal.returns-clause-rest
returns-clause-rest c = λ m is.
    rest_told c.wrapped_text.result _ c.args.draws.now _ (c.in_ok-encrypted.ensures.rest m is)
