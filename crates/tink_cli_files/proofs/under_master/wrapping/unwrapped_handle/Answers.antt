use Rattle.std.proofs.lemmas.Result.{err_from_is_err_and}
use Rattle.tink_keysets.specs.Encrypted.{decrypted}
use Rattle.tink_cli_files.specs.Masters.{master_decrypts}
use Rattle.tink_cli_files.specs.Wrapping.{wrapped_in}
use Rattle.tink_cli_files.proofs.WrapLemmas.{file_unwrapped, first_refused}
use Rattle.tink_cli_files.proofs.under_master.wrapping.unwrapped_handle.Goals as goal

pub returns-in_err-encrypted : goal.returns-in_err-encrypted
returns-in_err-encrypted c = λ m is.
    let p = err_from_is_err_and c.from_residual.result c.from_residual.ensures.1 in
    rw (p.1, p.2) (first_refused (decrypted (master_decrypts m) c.args.aad.now) (wrapped_in c.args.wrapped.now) c.in_err-encrypted.field-0.0 c.in_err-encrypted.ensures)

pub returns : goal.returns
returns c = λ m is.
    file_unwrapped m c.args.master.now c.args.wrapped.now c.args.aad.now c.in_ok-encrypted.encrypted c.decrypt.result is c.in_ok-encrypted.ensures c.decrypt.ensures
