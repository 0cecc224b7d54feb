use Rattle.std.proofs.Common.{inl, inr}
use Rattle.tink_set_groups.proofs.Converted.{copied, never_refused}
use Rattle.tink_sets.proofs.copying.prepared_groups.Goals as goal

pub returns-in-Ok-clause-ok : goal.returns-in-Ok-clause-ok
returns-in-Ok-clause-ok g c = copied c.args.groups.now c.in-Ok.copy c.in-Ok.ensures.ok

pub returns-in-Err-clause-cause : goal.returns-in-Err-clause-cause
returns-in-Err-clause-cause g c =
    elim c.in-Err.ensures.cause [ inl memory ↦ memory | inr refused ↦ absurd (never_refused c.args.groups.now c.in-Err.e.kind refused) ]
