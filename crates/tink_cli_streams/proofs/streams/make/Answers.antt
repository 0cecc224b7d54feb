use Rattle.tink_cli_streams.proofs.SuccessLemmas.{made_succeeds}
use Rattle.tink_cli_streams.proofs.streams.make.Goals as goal

pub returns-clause-succeeds : goal.returns-clause-succeeds
returns-clause-succeeds g c =
    made_succeeds c.args.action c.args.line.now (g.Y.System.state c.args.system.now) (g.Y.System.faults c.args.system.now) (g.Y.System.faults c.make_of_words.new.system)
    c.make_of_words.result c.make_of_words.ensures.cause
