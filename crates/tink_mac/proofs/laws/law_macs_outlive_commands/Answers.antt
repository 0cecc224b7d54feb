use Rattle.tink_mac.proofs.RotationFacts.{macs_outlive}
use Rattle.tink_mac.proofs.laws.law_macs_outlive_commands.Goals as goal

pub returns : goal.returns
returns g c = macs_outlive g.M.KeyManager.url g.M.KeyManager.supports g.M.KeyManager.builds g.P.Mac.computes g.P.Mac.verifies
