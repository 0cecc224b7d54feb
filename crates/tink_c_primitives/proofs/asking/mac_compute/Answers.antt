use Rattle.std.proofs.Common.{ℕ, List, Result, ap, subst}
use Rattle.std.proofs.lemmas.Result.{err_from_is_err_and}
use Rattle.tink_io.specs.Answering.{Answers}
use Rattle.tink_io.specs.declared.error.Kind.{Kind}
use Rattle.tink_sets.specs.Entries.{entry_of_id}
use Rattle.tink_mac.specs.MacKinds.{kind_computes}
use Rattle.tink_mac.specs.Wrapped.{primary_mac}
use Rattle.tink_c_primitives.specs.Primitives.{macs_of_file}
use Rattle.tink_c_primitives.proofs.FileLoaded.{loaded, unloaded}
use Rattle.tink_c_primitives.proofs.asking.mac_compute.Goals as goal

pub returns-in_err-mac : goal.returns-in_err-mac
returns-in_err-mac c =
    let p = err_from_is_err_and c.from_residual.result c.from_residual.ensures.1 in
    rw (p.1, p.2) (unloaded (macs_of_file c.args.file.now) (λ m. primary_mac kind_computes (entry_of_id m.id m.entries) c.args.message.now) c.in_err-mac.field-0.0 c.in_err-mac.ensures)

pub returns : goal.returns
returns c =
    let k = c.in_ok-mac.ensures in
    loaded (macs_of_file c.args.file.now) (λ m. primary_mac kind_computes (entry_of_id m.id m.entries) c.args.message.now) k.0 c.compute_mac.result k.1
    (subst (Answers c.compute_mac.result) (k.2.computed c.args.message.now) c.compute_mac.ensures.answer)
