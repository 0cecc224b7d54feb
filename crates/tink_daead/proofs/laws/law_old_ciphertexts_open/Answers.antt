use Rattle.tink_daead.proofs.RotationFacts.{old_texts_open}
use Rattle.tink_daead.proofs.laws.law_old_ciphertexts_open.Goals as goal

pub returns : goal.returns
returns g c = old_texts_open g.P.DeterministicAead.encrypts g.P.DeterministicAead.decrypts g.M.KeyManager.url g.M.KeyManager.supports g.M.KeyManager.builds
