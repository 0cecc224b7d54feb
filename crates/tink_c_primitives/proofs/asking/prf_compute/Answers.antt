use Rattle.std.proofs.lemmas.Result.{err_from_is_err_and}
use Rattle.tink_c_primitives.proofs.FileLoaded.{prf_answers, prf_unloaded}
use Rattle.tink_c_primitives.proofs.asking.prf_compute.Goals as goal

pub returns-in_err-prfs : goal.returns-in_err-prfs
returns-in_err-prfs c =
    let p = err_from_is_err_and c.from_residual.result c.from_residual.ensures.1 in
    rw (p.1, p.2) (prf_unloaded c.args.file.now c.args.input.now c.args.output_length c.in_err-prfs.field-0.0 c.in_err-prfs.ensures)

pub returns : goal.returns
returns c =
    let k = c.in_ok-prfs.ensures in
    prf_answers c.args.file.now c.args.input.now c.args.output_length k.0 c.in_ok-prfs.prfs c.compute_primary_prf.result k.1 k.2 c.compute_primary_prf.ensures
