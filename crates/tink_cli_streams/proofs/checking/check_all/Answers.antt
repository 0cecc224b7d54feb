use Rattle.std.proofs.Common.{ap, arith}
use Rattle.std.specs.Prelude.{List, Some, ℕ}
use Rattle.tink_cli_streams.proofs.CheckingLemmas.{opens}
use Rattle.tink_cli_streams.proofs.PerformingLemmas.{opened_whole}
use Rattle.tink_cli_streams.proofs.checking.check_all.Goals as goal

pub returns-clause-done : goal.returns-clause-done
returns-clause-done g c =
    opened_whole c.args.keyset.now c.args.job.now.aad.now c.new-draws.result c.write_task-answer.new.draws _ _ c.write_task-answer.result _ c.end_task.result (ap (λ (xs : List ℕ). Some xs) c.new-nothing.ensures)
    c.write_task-answer.ensures.ok c.end_task.ensures.refused

pub returns-clause-succeeds : goal.returns-clause-succeeds
returns-clause-succeeds g c =
    opens c.args.keyset.now c.args.job.now.aad.now _ _ _ c.write_task-answer.result c.end_task.result (ap (λ (xs : List ℕ). Some xs) c.new-nothing.ensures)
    c.write_task-answer.ensures.succeeds c.end_task.ensures.ok c.end_task.ensures.refused
    (λ some rose. g.met.Y.System.input_sure _ _ c.write_task-answer.ensures.source some rose) (λ rose. omega (arith, rose))
