use Rattle.std.proofs.Common.{inl, inr, refl, ap}
use Rattle.tink_io.specs.declared.error.TinkError.{TinkError}
use Rattle.tink_program_core.specs.declared.outcomes.Outcome.TheVariants.{Refused}
use Rattle.tink_program_core.specs.Words.{asked_of}
use Rattle.tink_program_core.proofs.ProgramLemmas.{want_promised, words_promised}
use Rattle.tink_program_core.proofs.StatusLemmas.{command_keeps}
use Rattle.tink_program.proofs.program.command.Goals as goal

pub returns-in-Err-clause-means : goal.returns-in-Err-clause-means
returns-in-Err-clause-means g c =
    inr (inr (record { outcome_is = ap (λ (e : TinkError). Refused e.kind) c.in-Err.ensures.refused; untouched = refl }))

pub returns-in-Ok-Some-clause-means : goal.returns-in-Ok-Some-clause-means
returns-in-Ok-Some-clause-means g c =
    let spelled = rw c.in-Ok-Some.field-0-is at c.in-Ok-Some.ensures.found in
    inl (record { asked = asked_of c.in-Ok-Some.spelled.0 c.in-Ok-Some.spelled.1; spelled = spelled; means = c.run_parsed.ensures.means })

pub returns-in-Ok-Some-clause-early : goal.returns-in-Ok-Some-clause-early
returns-in-Ok-Some-clause-early g c =
    let spelled = rw c.in-Ok-Some.field-0-is at c.in-Ok-Some.ensures.found in
    command_keeps _ (asked_of c.in-Ok-Some.spelled.0 c.in-Ok-Some.spelled.1) _ _ _ _ _ spelled c.run_parsed.ensures.early

pub returns-in-Ok-Some-clause-promised : goal.returns-in-Ok-Some-clause-promised
returns-in-Ok-Some-clause-promised g c =
    let spelled = rw c.in-Ok-Some.field-0-is at c.in-Ok-Some.ensures.found in
    words_promised _ (asked_of c.in-Ok-Some.spelled.0 c.in-Ok-Some.spelled.1) _ _ _ spelled c.run_parsed.ensures.promised

pub returns-in-Err-clause-promised : goal.returns-in-Err-clause-promised
returns-in-Err-clause-promised g c = want_promised _ _ c.in-Err.e.kind (ap (λ (e : TinkError). e.kind) c.in-Err.ensures.refused)
