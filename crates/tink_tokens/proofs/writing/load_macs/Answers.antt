use Rattle.std.proofs.lemmas.Result.{err_from_is_err_and}
use Rattle.tink_tokens.proofs.TokenCalls.{keyset_macs, keyset_refused}
use Rattle.tink_tokens.proofs.writing.load_macs.Goals as goal

pub returns-in_err-handle : goal.returns-in_err-handle
returns-in_err-handle c =
    let p = err_from_is_err_and c.from_residual.result c.from_residual.ensures.1 in
    rw (p.1, p.2) (keyset_refused c.args.bytes.now c.in_err-handle.field-0.0 c.in_err-handle.ensures.answer)

pub returns : goal.returns
returns c = keyset_macs c.args.bytes.now c.in_ok-handle.handle c.build_macs.result c.in_ok-handle.ensures.answer c.build_macs.ensures
