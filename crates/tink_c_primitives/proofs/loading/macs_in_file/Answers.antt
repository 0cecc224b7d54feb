use Rattle.std.proofs.lemmas.Result.{err_from_is_err_and}
use Rattle.tink_tokens.specs.TokenSteps.{AreLoadedMacs}
use Rattle.tink_tokens.specs.Tokens.{macs_in}
use Rattle.tink_c_primitives.specs.Primitives.{valid_in_file}
use Rattle.tink_c_primitives.proofs.Building.{built_of, unbuilt}
use Rattle.tink_c_primitives.proofs.loading.macs_in_file.Goals as goal

pub returns-in_err-handle : goal.returns-in_err-handle
returns-in_err-handle c =
    let p = err_from_is_err_and c.from_residual.result c.from_residual.ensures.1 in
    rw (p.1, p.2) (unbuilt AreLoadedMacs macs_in (valid_in_file c.args.file.now) c.in_err-handle.field-0.0 c.in_err-handle.ensures)

pub returns : goal.returns
returns c =
    built_of AreLoadedMacs macs_in (valid_in_file c.args.file.now) c.in_ok-handle.handle c.build_macs.result c.in_ok-handle.ensures c.build_macs.ensures
