use Rattle.std.proofs.lemmas.Result.{err_from_is_err_and}
use Rattle.tink_c_primitives.proofs.TokenSteps.{unverified, verified}
use Rattle.tink_c_primitives.proofs.tokens.token_verify.Goals as goal

pub returns-in_err-macs : goal.returns-in_err-macs
returns-in_err-macs c =
    let p = err_from_is_err_and c.from_residual.result c.from_residual.ensures.1 in
    rw (p.1, p.2) (unverified c.args.file.now c.args.token.now c.in_err-macs.field-0.0 c.in_err-macs.ensures)

pub returns : goal.returns
returns c =
    let k = c.in_ok-macs.ensures in
    verified c.args.file.now c.args.token.now k.0 c.in_ok-macs.macs c.verify.result k.1 k.2 c.verify.ensures.answer
