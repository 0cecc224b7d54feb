use Rattle.std.proofs.Common.{inl, refl}
use Rattle.tink_range.specs.ChunkReading.{ends_of}
use Rattle.tink_cli_jobs.proofs.OutputLemmas.{shown_fresh}
use Rattle.tink_cli_ranges.proofs.RefusingLemmas.{drafted_ends}
use Rattle.tink_cli_ranges.proofs.RangingLemmas.{slice_shown}
use Rattle.tink_cli_ranges.proofs.ranges.put_to_draft.Goals as goal

pub returns-in-Ok-clause-done : goal.returns-in-Ok-clause-done
returns-in-Ok-clause-done g c =
    slice_shown g.Y.Draft.Sink.got g.Y.Draft.Sink.faults c.args.keyset.now c.args.job.now.aad.now _ c.args.start c.args.length c.args.object.now c.range_to-answer.new.object
    (g.Y.Object.ReadAt.bytes c.args.object.now) c.args.draft
    (λ d. ends_of g.Y.Object.ReadAt.bytes g.Y.Object.ReadAt.faults c.args.object.now c.range_to-answer.new.object c.args.draft d) _ _ _ _ _ c.range_to-answer.result _ c.end_range.result
    (λ d. refl) (λ d. refl) (λ d. refl) (g.met.Y.Object.ReadAt.told c.args.object.now) c.range_to-answer.ensures.ran c.range_to-answer.ensures.ok c.end_range.ensures.refused c.in-Ok.ensures.settled.file

pub returns-in-Ok-clause-fresh : goal.returns-in-Ok-clause-fresh
returns-in-Ok-clause-fresh g c =
    shown_fresh _ _ (g.Y.Draft.Place.replaces c.args.draft) (g.Y.Draft.Place.shown c.args.draft) _ c.range_to-answer.result _ c.end_range.result
    c.range_to-answer.ensures.ok c.end_range.ensures.refused

pub returns-in-Ok-clause-cause : goal.returns-in-Ok-clause-cause
returns-in-Ok-clause-cause g c =
    drafted_ends g.Y.Draft.Sink.got g.Y.Draft.Sink.faults c.args.keyset.now c.args.job.now.aad.now _ c.args.start c.args.length c.args.object.now c.range_to-answer.new.object
    (g.Y.Object.ReadAt.bytes c.args.object.now)
    (λ d. ends_of g.Y.Object.ReadAt.bytes g.Y.Object.ReadAt.faults c.args.object.now c.range_to-answer.new.object c.args.draft d) _ _ _ _ c.range_to-answer.result c.end_range.result
    (λ d. refl) (λ d. g.met.Y.Object.ReadAt.told c.args.object.now)
    (λ d some rose. g.met.Y.System.object_sure _ _ c.range_to-answer.ensures.object some rose)
    c.range_to-answer.ensures.ran c.end_range.ensures.ok c.end_range.ensures.refused

pub returns-in-Err-clause-cause : goal.returns-in-Err-clause-cause
returns-in-Err-clause-cause g c = inl c.in-Err.ensures.refused
