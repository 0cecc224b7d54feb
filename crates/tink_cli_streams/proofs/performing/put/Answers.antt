use Rattle.std.proofs.Common.{List, ap, ℕ}
use Rattle.std.specs.Prelude.{Option}
use Rattle.tink_cli_streams.proofs.BreakingLemmas.{may_break}
use Rattle.tink_cli_streams.proofs.CauseLemmas.{written_ends}
use Rattle.tink_cli_streams.proofs.PerformingLemmas.{made_written}
use Rattle.tink_cli_streams.specs.Trimming.{unread}
use Rattle.tink_cli_streams.proofs.performing.put.Goals as goal

pub returns-clause-done : goal.returns-clause-done
returns-clause-done g c =
    made_written c.args.task c.args.keyset.now c.args.job.now.aad.now c.args.draws.now _ _ _ c.write_fitting-answer.result _ c.end_task.result
    c.write_fitting-answer.ensures.ok c.end_task.ensures.refused

pub returns-clause-broken : goal.returns-clause-broken
returns-clause-broken g c =
    may_break c.args.task c.args.keyset.now c.args.job.now.aad.now c.args.draws.now _ _ _ c.write_fitting-answer.result c.end_task.result
    c.write_fitting-answer.ensures.means c.end_task.ensures.ok c.end_task.ensures.refused
    (λ some rose. g.met.Y.System.input_sure _ _ c.write_fitting-answer.ensures.source
    (λ none. some (ap (λ (l : Option (List ℕ)). unread c.args.input.now.trims c.args.input.now.held l) none)) rose)

pub returns-clause-cause : goal.returns-clause-cause
returns-clause-cause g c =
    written_ends c.args.task c.args.keyset.now c.args.job.now.aad.now c.args.draws.now _ _ _ c.write_fitting-answer.result c.end_task.result
    c.write_fitting-answer.ensures.means c.end_task.ensures.ok c.end_task.ensures.refused
    (λ some rose. g.met.Y.System.input_sure _ _ c.write_fitting-answer.ensures.source
    (λ none. some (ap (λ (l : Option (List ℕ)). unread c.args.input.now.trims c.args.input.now.held l) none)) rose)
