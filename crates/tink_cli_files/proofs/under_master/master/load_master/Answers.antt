use Rattle.std.proofs.lemmas.Result.{err_from_is_err_and}
use Rattle.tink_cli_files.proofs.WrapLemmas.{file_master, file_refused}
use Rattle.tink_cli_files.proofs.under_master.master.load_master.Goals as goal

pub returns-in_err-handle : goal.returns-in_err-handle
returns-in_err-handle c =
    let p = err_from_is_err_and c.from_residual.result c.from_residual.ensures.1 in
    rw (p.1, p.2) (file_refused c.args.file.items c.in_err-handle.field-0.0 c.in_err-handle.ensures)

pub returns : goal.returns
returns c = file_master c.args.file.items c.in_ok-handle.handle c.build_master.result c.in_ok-handle.ensures c.build_master.ensures
