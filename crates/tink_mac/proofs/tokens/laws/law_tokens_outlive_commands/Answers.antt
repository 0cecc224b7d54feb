use Rattle.tink_mac.proofs.LastingFacts.{tokens_outlive}
use Rattle.tink_mac.proofs.tokens.laws.law_tokens_outlive_commands.Goals as goal

pub returns : goal.returns
returns g c = tokens_outlive g.M.KeyManager.url g.M.KeyManager.supports g.M.KeyManager.builds g.P.Mac.computes g.P.Mac.verifies
