use Rattle.std.proofs.Common.{ℕ, List, Result, ap, subst}
use Rattle.std.proofs.lemmas.Result.{err_from_is_err_and}
use Rattle.tink_io.specs.Answering.{Answers}
use Rattle.tink_io.specs.declared.error.Kind.{Kind}
use Rattle.tink_sets.specs.Entries.{entry_of_id}
use Rattle.tink_daead.specs.AesSiv.{aes_siv_encrypts}
use Rattle.tink_daead.specs.Wrapped.{primary_encrypts}
use Rattle.tink_c_primitives.specs.Primitives.{daeads_of}
use Rattle.tink_c_primitives.proofs.FileLoaded.{loaded, unloaded}
use Rattle.tink_c_primitives.proofs.asking.daead_encrypt.Goals as goal

pub returns-in_err-daead : goal.returns-in_err-daead
returns-in_err-daead c =
    let p = err_from_is_err_and c.from_residual.result c.from_residual.ensures.1 in
    rw (p.1, p.2) (unloaded (daeads_of c.args.file.now) (λ k. primary_encrypts aes_siv_encrypts (entry_of_id k.id k.entries) c.args.plaintext.now c.args.associated_data.now) c.in_err-daead.field-0.0 c.in_err-daead.ensures)

pub returns : goal.returns
returns c =
    let k = c.in_ok-daead.ensures in
    loaded (daeads_of c.args.file.now) (λ k. primary_encrypts aes_siv_encrypts (entry_of_id k.id k.entries) c.args.plaintext.now c.args.associated_data.now) k.0 c.encrypt_deterministically.result k.1
    (subst (Answers c.encrypt_deterministically.result) (k.2.encrypted c.args.plaintext.now c.args.associated_data.now) c.encrypt_deterministically.ensures.answer)
