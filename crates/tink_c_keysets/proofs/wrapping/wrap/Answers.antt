use Rattle.std.proofs.lemmas.Result.{err_from_is_err_and}
use Rattle.tink_cli_files.specs.Masters.{master_of}
use Rattle.tink_c_keysets.specs.Formats.{wrapped_with}
use Rattle.tink_c_keysets.proofs.Given.{loaded, unloaded}
use Rattle.tink_c_keysets.proofs.wrapping.wrap.Goals as goal

pub returns-in_err-master : goal.returns-in_err-master
returns-in_err-master c =
    let p = err_from_is_err_and c.from_residual.result c.from_residual.ensures.1 in
    rw (p.1, p.2) (unloaded (master_of c.args.master.now) (wrapped_with c.args.file.now c.args.associated_data.now c.args.json c.args.random.now)
    c.in_err-master.field-0.0 c.in_err-master.ensures)

pub returns : goal.returns
returns c =
    loaded (master_of c.args.master.now) (wrapped_with c.args.file.now c.args.associated_data.now c.args.json c.args.random.now)
    c.in_ok-master.master c.wrap_by.result c.in_ok-master.ensures c.wrap_by.ensures
