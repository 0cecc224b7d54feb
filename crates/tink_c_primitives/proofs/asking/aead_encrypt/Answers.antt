use Rattle.std.proofs.Common.{ℕ, List, Result, ap, subst}
use Rattle.std.proofs.lemmas.Result.{err_from_is_err_and}
use Rattle.tink_io.specs.Answering.{Answers}
use Rattle.tink_io.specs.declared.error.Kind.{Kind}
use Rattle.tink_sets.specs.Entries.{entry_of_id}
use Rattle.tink_aead.specs.AeadKinds.{kind_encrypts}
use Rattle.tink_aead.specs.Wrapped.{primary_encrypts}
use Rattle.tink_c_primitives.specs.Primitives.{aeads_of}
use Rattle.tink_c_primitives.proofs.FileLoaded.{loaded, unloaded}
use Rattle.tink_c_primitives.proofs.asking.aead_encrypt.Goals as goal

pub returns-in_err-aead : goal.returns-in_err-aead
returns-in_err-aead c =
    let p = err_from_is_err_and c.from_residual.result c.from_residual.ensures.1 in
    rw (p.1, p.2) (unloaded (aeads_of c.args.file.now) (λ k. (primary_encrypts kind_encrypts (entry_of_id k.id k.entries) c.args.plaintext.now c.args.associated_data.now c.args.random.now).0) c.in_err-aead.field-0.0 c.in_err-aead.ensures)

pub returns : goal.returns
returns c =
    let k = c.in_ok-aead.ensures in
    loaded (aeads_of c.args.file.now) (λ k. (primary_encrypts kind_encrypts (entry_of_id k.id k.entries) c.args.plaintext.now c.args.associated_data.now c.args.random.now).0) k.0 c.encrypt.result k.1
    (subst (Answers c.encrypt.result) (ap (λ (r : Result (List ℕ) Kind × List ℕ). r.0) (k.2.encrypted c.args.plaintext.now c.args.associated_data.now c.args.random.now)) c.encrypt.ensures)
