use Rattle.std.proofs.Common.{ℕ, List, Result, ap, subst}
use Rattle.std.proofs.lemmas.Result.{err_from_is_err_and}
use Rattle.tink_io.specs.Answering.{Answers}
use Rattle.tink_io.specs.declared.error.Kind.{Kind}
use Rattle.tink_keysets.specs.Accepting.{entries_of}
use Rattle.tink_keysets.specs.Decrypting.{any_decrypts}
use Rattle.tink_aead.specs.AeadKinds.{kind_decrypts}
use Rattle.tink_c_primitives.specs.Primitives.{aeads_of}
use Rattle.tink_c_primitives.proofs.FileLoaded.{loaded, unloaded}
use Rattle.tink_c_primitives.proofs.asking.aead_decrypt.Goals as goal

pub returns-in_err-aead : goal.returns-in_err-aead
returns-in_err-aead c =
    let p = err_from_is_err_and c.from_residual.result c.from_residual.ensures.1 in
    rw (p.1, p.2) (unloaded (aeads_of c.args.file.now) (λ k. any_decrypts kind_decrypts (entries_of k.entries) c.args.ciphertext.now c.args.associated_data.now) c.in_err-aead.field-0.0 c.in_err-aead.ensures)

pub returns : goal.returns
returns c =
    let k = c.in_ok-aead.ensures in
    loaded (aeads_of c.args.file.now) (λ k. any_decrypts kind_decrypts (entries_of k.entries) c.args.ciphertext.now c.args.associated_data.now) k.0 c.decrypt.result k.1
    (subst (Answers c.decrypt.result) (k.2.decrypted c.args.ciphertext.now c.args.associated_data.now) c.decrypt.ensures.answer)
