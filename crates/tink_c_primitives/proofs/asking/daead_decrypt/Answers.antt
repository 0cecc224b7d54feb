use Rattle.std.proofs.Common.{ℕ, List, Result, ap, subst}
use Rattle.std.proofs.lemmas.Result.{err_from_is_err_and}
use Rattle.tink_io.specs.Answering.{Answers}
use Rattle.tink_io.specs.declared.error.Kind.{Kind}
use Rattle.tink_keysets.specs.Accepting.{entries_of}
use Rattle.tink_keysets.specs.Decrypting.{any_decrypts}
use Rattle.tink_daead.specs.AesSiv.{aes_siv_decrypts}
use Rattle.tink_c_primitives.specs.Primitives.{daeads_of}
use Rattle.tink_c_primitives.proofs.FileLoaded.{loaded, unloaded}
use Rattle.tink_c_primitives.proofs.asking.daead_decrypt.Goals as goal

pub returns-in_err-daead : goal.returns-in_err-daead
returns-in_err-daead c =
    let p = err_from_is_err_and c.from_residual.result c.from_residual.ensures.1 in
    rw (p.1, p.2) (unloaded (daeads_of c.args.file.now) (λ k. any_decrypts aes_siv_decrypts (entries_of k.entries) c.args.ciphertext.now c.args.associated_data.now) c.in_err-daead.field-0.0 c.in_err-daead.ensures)

pub returns : goal.returns
returns c =
    let k = c.in_ok-daead.ensures in
    loaded (daeads_of c.args.file.now) (λ k. any_decrypts aes_siv_decrypts (entries_of k.entries) c.args.ciphertext.now c.args.associated_data.now) k.0 c.decrypt_deterministically.result k.1
    (subst (Answers c.decrypt_deterministically.result) (k.2.decrypted c.args.ciphertext.now c.args.associated_data.now) c.decrypt_deterministically.ensures.answer)
