use Rattle.std.proofs.Common.{List, ap, inl, refl, ℕ}
use Rattle.std.specs.Prelude.{Option}
use Rattle.tink_cli_jobs.proofs.OutputLemmas.{shown_fresh}
use Rattle.tink_cli_streams.proofs.CauseLemmas.{drafted_ends}
use Rattle.tink_cli_streams.proofs.PerformingLemmas.{made_shown}
use Rattle.tink_cli_streams.specs.Trimming.{unread}
use Rattle.tink_cli_streams.proofs.performing.put_to_draft.Goals as goal

pub returns-in-Ok-clause-done : goal.returns-in-Ok-clause-done
returns-in-Ok-clause-done g c =
    made_shown _ c.args.task c.args.keyset.now c.args.job.now.aad.now c.args.draws.now _ _ _ _ _ _ _ c.save_fitting-answer.result _ c.end_task.result
    (λ d. refl) c.save_fitting-answer.ensures.ok c.end_task.ensures.refused c.in-Ok.ensures.settled.file

pub returns-in-Ok-clause-fresh : goal.returns-in-Ok-clause-fresh
returns-in-Ok-clause-fresh g c =
    shown_fresh _ _ (g.Y.Draft.Place.replaces c.args.draft) (g.Y.Draft.Place.shown c.args.draft) _ c.save_fitting-answer.result _ c.end_task.result
    c.save_fitting-answer.ensures.ok c.end_task.ensures.refused

pub returns-in-Ok-clause-cause : goal.returns-in-Ok-clause-cause
returns-in-Ok-clause-cause g c =
    drafted_ends _ _ c.args.task c.args.keyset.now c.args.job.now.aad.now c.args.draws.now _ _ _ _ _ _ _ c.save_fitting-answer.result c.end_task.result
    c.save_fitting-answer.ensures.ran c.end_task.ensures.ok c.end_task.ensures.refused
    (λ draft some rose. g.met.Y.System.input_sure _ _ c.save_fitting-answer.ensures.source
    (λ none. some (ap (λ (l : Option (List ℕ)). unread c.args.input.now.trims c.args.input.now.held l) none)) rose)

pub returns-in-Err-clause-cause : goal.returns-in-Err-clause-cause
returns-in-Err-clause-cause g c = inl c.in-Err.ensures.refused
