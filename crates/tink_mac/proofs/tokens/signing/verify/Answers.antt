use Rattle.tink_sets.specs.Groups.{group_of}
use Rattle.tink_mac.proofs.TokenFacts.{succeeds}
use Rattle.tink_mac.proofs.tokens.signing.verify.Goals as goal

pub returns-clause-succeeds : goal.returns-clause-succeeds
returns-clause-succeeds g c p accepted = succeeds g.P.Mac.verifies (group_of c.args.mac.now.ps.entries) c.args.token.now c.verify_token.result c.verify_token.ensures p accepted
