use Rattle.std.proofs.lemmas.Result.{err_from_is_err_and}
use Rattle.tink_cli_files.specs.Masters.{master_of}
use Rattle.tink_cli_files.specs.Wrapping.{unwrapped_file}
use Rattle.tink_c_keysets.specs.Formats.{format_by}
use Rattle.tink_c_keysets.proofs.Given.{by_one, loaded, unloaded}
use Rattle.tink_c_keysets.proofs.wrapping.unwrap.Goals as goal

pub returns-in_err-master : goal.returns-in_err-master
returns-in_err-master c =
    let p = err_from_is_err_and c.from_residual.result c.from_residual.ensures.1 in
    rw (p.1, p.2) (unloaded (master_of c.args.master.now) (λ m. unwrapped_file m c.args.wrapped.now c.args.associated_data.now (format_by c.args.json))
    c.in_err-master.field-0.0 c.in_err-master.ensures)

pub returns : goal.returns
returns c =
    loaded (master_of c.args.master.now) (λ m. unwrapped_file m c.args.wrapped.now c.args.associated_data.now (format_by c.args.json))
    c.in_ok-master.master c.unwrap_file.result c.in_ok-master.ensures
    (λ m is. by_one (unwrapped_file m c.args.wrapped.now c.args.associated_data.now) c.format_by.result (format_by c.args.json) c.unwrap_file.result c.format_by.ensures
    (c.unwrap_file.ensures m is))
