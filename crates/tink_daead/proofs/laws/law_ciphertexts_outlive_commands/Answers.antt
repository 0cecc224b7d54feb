use Rattle.tink_daead.proofs.RotationFacts.{texts_outlive}
use Rattle.tink_daead.proofs.laws.law_ciphertexts_outlive_commands.Goals as goal

pub returns : goal.returns
returns g c = texts_outlive g.P.DeterministicAead.encrypts g.P.DeterministicAead.decrypts g.M.KeyManager.url g.M.KeyManager.supports g.M.KeyManager.builds
