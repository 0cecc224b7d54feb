use Rattle.tink_aead.proofs.RotationFacts.{ciphertexts_outlive}
use Rattle.tink_aead.proofs.laws.law_ciphertexts_outlive_commands.Goals as goal

pub returns : goal.returns
returns g c = ciphertexts_outlive g.P.Aead.encrypts g.P.Aead.decrypts g.M.KeyManager.url g.M.KeyManager.supports g.M.KeyManager.builds
