use Rattle.std.proofs.lemmas.Result.{err_from_is_err_and}
use Rattle.tink_cli_files.specs.Wrapping.{wrapped_file}
use Rattle.tink_c_keysets.specs.Formats.{format_by, has_random}
use Rattle.tink_c_keysets.proofs.Given.{enough, short}
use Rattle.tink_c_keysets.proofs.wrapping.wrap_by.Goals as goal

pub returns-in_err-check_random : goal.returns-in_err-check_random
returns-in_err-check_random c = λ m is.
    let p = err_from_is_err_and c.from_residual.result c.from_residual.ensures.1 in
    rw (p.1, p.2) (short (has_random m c.args.associated_data.now c.args.random.now)
    (λ _. wrapped_file m c.args.file.now c.args.associated_data.now (format_by c.args.json) c.args.random.now) c.in_err-check_random.field-0.0 (c.in_err-check_random.ensures m is))

pub returns : goal.returns
returns c = λ m is.
    enough (has_random m c.args.associated_data.now c.args.random.now)
    (λ _. wrapped_file m c.args.file.now c.args.associated_data.now (format_by c.args.json) c.args.random.now) tt c.wrap_now.result (c.in_ok-check_random.ensures m is) (c.wrap_now.ensures m is)
