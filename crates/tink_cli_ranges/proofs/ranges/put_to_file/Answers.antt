use Rattle.std.proofs.Common.{◌≡◌}
use Rattle.std.specs.Prelude.{Some}
use Rattle.tink_cli_jobs.proofs.OutputLemmas.{drafted}
use Rattle.tink_cli_ranges.specs.Ranges.{IsSliceOf}
use Rattle.tink_cli_ranges.proofs.RefusingLemmas.{unbegun_ends}
use Rattle.tink_cli_ranges.proofs.ranges.put_to_file.Goals as goal

pub returns-in-Ok-clause-done : goal.returns-in-Ok-clause-done
returns-in-Ok-clause-done g c =
    drafted (λ X had after. IsSliceOf c.args.keyset.now c.args.job.now.aad.now c.args.start c.args.length X had after)
    (λ X. g.Y.Object.ReadAt.bytes c.args.object.now ≡ Some X) c.args.job.now.keeps_output c.how_of.result (g.Y.System.state c.args.system.now)
    (g.Y.System.state c.begin.new.self) (g.Y.System.state c.put_to_draft.new.system) c.args.output.now _ _ _ _ c.put_to_draft.result
    c.how_of.ensures c.in-Ok.ensures.state c.in-Ok.ensures.begun c.put_to_draft.ensures.others c.put_to_draft.ensures.fresh c.put_to_draft.ensures.done

pub returns-in-Err-clause-cause : goal.returns-in-Err-clause-cause
returns-in-Err-clause-cause g c =
    unbegun_ends c.args.keyset.now c.args.job.now.aad.now c.args.start c.args.length (g.Y.Object.ReadAt.bytes c.args.object.now) _ c.in-Err.trouble c.in-Err.ensures.refused
