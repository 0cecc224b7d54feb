use Rattle.std.specs.Prelude.{option_map}
use Rattle.tink_cli_streams.proofs.BreakingLemmas.{unperformed}
use Rattle.tink_cli_streams.proofs.CauseLemmas.{drawn_cause, undrawn_cause}
use Rattle.tink_cli_streams.proofs.PerformingLemmas.{performed}
use Rattle.tink_cli_streams.specs.Breaking.{drawn_by}
use Rattle.tink_cli_streams.specs.Performing.{takes_random}
use Rattle.tink_cli_streams.proofs.performing.perform.Goals as goal

pub returns-in-Ok-clause-done : goal.returns-in-Ok-clause-done
returns-in-Ok-clause-done g c =
    performed c.args.task c.args.keyset.now c.args.job.now.aad.now c.in-Ok.draws c.args.job.now.keeps_output _ _ _ _ _ _ _ c.perform_by.result c.in-Ok.ensures.files
    c.in-Ok.ensures.system c.in-Ok.ensures.drawn c.perform_by.ensures.random c.perform_by.ensures.done

pub returns-in-Ok-clause-broken : goal.returns-in-Ok-clause-broken
returns-in-Ok-clause-broken g c =
    unperformed (option_map (λ n. n.now) c.args.job.now.output) c.args.task c.args.keyset.now c.args.job.now.aad.now c.in-Ok.draws _ _ _ _ _ c.perform_by.result c.in-Ok.ensures.files
    c.in-Ok.ensures.system c.in-Ok.ensures.drawn c.perform_by.ensures.broken

pub returns-in-Ok-clause-cause : goal.returns-in-Ok-clause-cause
returns-in-Ok-clause-cause g c =
    drawn_cause c.args.task c.args.keyset.now c.args.job.now.aad.now c.in-Ok.draws (option_map (λ n. n.now) c.args.job.now.input) (g.Y.System.state c.args.system.now)
    (g.Y.System.state c.draws_for.new.system) (g.Y.System.faults c.args.system.now) (g.Y.System.faults c.draws_for.new.system) (g.Y.System.faults c.perform_by.new.system)
    c.perform_by.result c.in-Ok.ensures.files c.in-Ok.ensures.system c.in-Ok.ensures.drawn c.in-Ok.ensures.later c.perform_by.ensures.cause

pub returns-in-Err-clause-cause : goal.returns-in-Err-clause-cause
returns-in-Err-clause-cause g c = λ known.
    undrawn_cause c.args.task c.args.keyset.now c.args.job.now.aad.now (drawn_by (takes_random c.args.task) (g.Y.System.state c.args.system.now)) (option_map (λ n. n.now) c.args.job.now.input)
    (g.Y.System.state c.args.system.now) (g.Y.System.faults c.args.system.now) (g.Y.System.faults c.draws_for.new.system) c.in-Err.trouble c.in-Err.ensures.refused
