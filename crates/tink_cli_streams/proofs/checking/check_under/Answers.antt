use Rattle.std.specs.Prelude.{option_map}
use Rattle.tink_cli_streams.proofs.CheckingLemmas.{opened_all, unopened}
use Rattle.tink_cli_streams.proofs.checking.check_under.Goals as goal

pub returns-in-Ok-clause-succeeds : goal.returns-in-Ok-clause-succeeds
returns-in-Ok-clause-succeeds g c =
    opened_all (g.Y.System.state c.args.system.now) (option_map (λ n. n.now) c.args.job.now.input) (g.Y.Input.Source.left c.in-Ok.input) c.args.keyset.now c.args.job.now.aad.now
    _ _ c.check_all.result c.in-Ok.ensures.left c.check_all.ensures.succeeds

pub returns-in-Err-clause-succeeds : goal.returns-in-Err-clause-succeeds
returns-in-Err-clause-succeeds g c = λ known text there can.
    unopened (g.Y.System.state c.args.system.now) (option_map (λ n. n.now) c.args.job.now.input) _ _ c.in-Err.trouble text known there c.in-Err.ensures.refused
