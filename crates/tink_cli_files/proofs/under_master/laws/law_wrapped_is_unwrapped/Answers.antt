use Rattle.std.proofs.Common.{refl, subst}
use Rattle.std.proofs.lemmas.Result.{err_from_is_err_and}
use Rattle.tink_io.specs.Answering.{Answers}
use Rattle.tink_cli_files.specs.Wrapping.{unwrapped_file}
use Rattle.tink_cli_files.proofs.BackFacts.{not_returned, returned}
use Rattle.tink_cli_files.proofs.WrapLemmas.{rest_told}
use Rattle.tink_cli_files.proofs.under_master.laws.law_wrapped_is_unwrapped.Goals as goal

pub returns-in_err-file-clause-answer : goal.returns-in_err-file-clause-answer
returns-in_err-file-clause-answer c = λ file m loads is opens.
    let p = err_from_is_err_and c.from_residual.result c.from_residual.ensures.1 in
    rw (p.1, p.2) (not_returned m c.args.keys.items c.args.aad.now c.args.draws.now c.args.format c.in_err-file.field-0.0 (c.in_err-file.ensures.answer m is))

pub returns-clause-answer : goal.returns-clause-answer
returns-clause-answer c = λ file m loads is opens.
    let unwrapped = subst (λ text. Answers c.unwrap_file.result (unwrapped_file m text c.args.aad.now c.args.format)) c.as_slice.ensures (c.unwrap_file.ensures m is) in
    returned file m c.args.keys.items c.args.aad.now c.args.draws.now c.in_ok-file.file c.args.format c.unwrap_file.result loads opens
    (c.in_ok-file.ensures.answer m is) (c.in_ok-file.ensures.again m is refl) c.in_ok-file.ensures.held unwrapped

pub returns-in_err-file-clause-rest : goal.returns-in_err-file-clause-rest
returns-in_err-file-clause-rest c = λ m is.
    let p = err_from_is_err_and c.from_residual.result c.from_residual.ensures.1 in
    rw (p.1, p.2) (c.in_err-file.ensures.rest m is)

pub returns-clause-rest : goal.returns-clause-rest
returns-clause-rest c = λ m is.
    rest_told c.unwrap_file.result _ c.args.draws.now _ (c.in_ok-file.ensures.rest m is)
