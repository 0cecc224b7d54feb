use Rattle.tink_cli_streams.proofs.FittingLemmas.{unreserved}
use Rattle.tink_cli_streams.proofs.fitting.held_token.Goals as goal

pub returns-in-Err-clause-refused : goal.returns-in-Err-clause-refused
returns-in-Err-clause-refused g c =
    unreserved c.args.keyset.now c.args.aad.now c.args.draws.now (g.S.Source.left c.args.source.now) (g.S.Source.faults c.args.source.now) c.in-Err.e c.in-Err.ensures.refused

pub returns-in-Err-clause-same : goal.returns-in-Err-clause-same
returns-in-Err-clause-same g c = g.met.S.Source.same_refl _
