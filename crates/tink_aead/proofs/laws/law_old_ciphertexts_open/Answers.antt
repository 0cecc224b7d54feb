use Rattle.tink_aead.proofs.RotationFacts.{enabled_keys_open, encrypted_opens, old_ciphertexts_open}
use Rattle.tink_aead.proofs.laws.law_old_ciphertexts_open.Goals as goal

pub returns : goal.returns
returns g c = record {
  entries = old_ciphertexts_open g.P.Aead.encrypts g.P.Aead.decrypts;
  keys = enabled_keys_open g.P.Aead.encrypts g.P.Aead.decrypts g.M.KeyManager.url g.M.KeyManager.supports g.M.KeyManager.builds;
  primary = encrypted_opens g.P.Aead.encrypts g.P.Aead.decrypts g.M.KeyManager.url g.M.KeyManager.supports g.M.KeyManager.builds;
}
