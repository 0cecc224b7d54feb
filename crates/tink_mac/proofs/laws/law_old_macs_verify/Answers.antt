use Rattle.tink_mac.proofs.RotationFacts.{old_macs_verify}
use Rattle.tink_mac.proofs.laws.law_old_macs_verify.Goals as goal

pub returns : goal.returns
returns g c = old_macs_verify g.M.KeyManager.url g.M.KeyManager.supports g.M.KeyManager.builds g.P.Mac.computes g.P.Mac.verifies
