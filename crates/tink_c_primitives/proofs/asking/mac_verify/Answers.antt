use Rattle.std.proofs.Common.{ℕ, List, Result, ap, subst}
use Rattle.std.proofs.lemmas.Result.{err_from_is_err_and}
use Rattle.tink_io.specs.Answering.{Answers}
use Rattle.tink_io.specs.declared.error.Kind.{Kind}
use Rattle.tink_keysets.specs.Accepting.{entries_of}
use Rattle.tink_mac.specs.MacKinds.{kind_verifies}
use Rattle.tink_mac.specs.Wrapped.{any_verifies}
use Rattle.tink_c_primitives.specs.Primitives.{macs_of_file}
use Rattle.tink_c_primitives.proofs.FileLoaded.{loaded, unloaded}
use Rattle.tink_c_primitives.proofs.asking.mac_verify.Goals as goal

pub returns-in_err-macs : goal.returns-in_err-macs
returns-in_err-macs c =
    let p = err_from_is_err_and c.from_residual.result c.from_residual.ensures.1 in
    rw (p.1, p.2) (unloaded (macs_of_file c.args.file.now) (λ m. any_verifies kind_verifies (entries_of m.entries) c.args.mac.now c.args.message.now) c.in_err-macs.field-0.0 c.in_err-macs.ensures)

pub returns : goal.returns
returns c =
    let k = c.in_ok-macs.ensures in
    loaded (macs_of_file c.args.file.now) (λ m. any_verifies kind_verifies (entries_of m.entries) c.args.mac.now c.args.message.now) k.0 c.verify_mac.result k.1
    (subst (Answers c.verify_mac.result) (k.2.verified c.args.mac.now c.args.message.now) c.verify_mac.ensures.answer)
