use Rattle.std.proofs.Common.{List, ap, ℕ}
use Rattle.std.specs.Prelude.{Option}
use Rattle.tink_cli_streams.proofs.CauseLemmas.{unopened_ends, written_ends}
use Rattle.tink_cli_streams.specs.Trimming.{unread}
use Rattle.tink_cli_streams.proofs.performing.put_to_stream.Goals as goal

pub returns-in-Ok-clause-cause : goal.returns-in-Ok-clause-cause
returns-in-Ok-clause-cause g c =
    written_ends c.args.task c.args.keyset.now c.args.job.now.aad.now c.args.draws.now _ _ _ c.write_fitting-answer.result c.end_task.result
    c.write_fitting-answer.ensures.means c.end_task.ensures.ok c.end_task.ensures.refused
    (λ some rose. g.met.Y.System.input_sure _ _ c.write_fitting-answer.ensures.source
    (λ none. some (ap (λ (l : Option (List ℕ)). unread c.args.input.now.trims c.args.input.now.held l) none)) rose)

pub returns-in-Err-clause-cause : goal.returns-in-Err-clause-cause
returns-in-Err-clause-cause g c =
    unopened_ends c.args.task c.args.keyset.now c.args.job.now.aad.now c.args.draws.now _ _ c.in-Err.trouble c.in-Err.ensures.refused
