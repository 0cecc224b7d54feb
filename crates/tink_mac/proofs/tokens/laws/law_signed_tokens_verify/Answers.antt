use Rattle.tink_mac.proofs.LastingFacts.{signed_verify}
use Rattle.tink_mac.proofs.tokens.laws.law_signed_tokens_verify.Goals as goal

pub returns : goal.returns
returns g c = signed_verify g.M.KeyManager.url g.M.KeyManager.supports g.M.KeyManager.builds g.P.Mac.computes g.P.Mac.verifies
