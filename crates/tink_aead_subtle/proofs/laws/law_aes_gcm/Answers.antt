use Rattle.gcm.specs.Limits.{MOST_GCM}
use Rattle.standards.specs.AesKeys.{aes}
use Rattle.standards.specs.Gcm.{gcm}
use Rattle.tink_aead_subtle.specs.AesAeads.{gcm_decrypts}
use Rattle.tink_aead_subtle.proofs.AesExact.{gcm_accepts}
use Rattle.tink_aead_subtle.proofs.Exact.{encrypts, undoes}
use Rattle.tink_aead_subtle.proofs.laws.law_aes_gcm.Goals as goal

pub returns : goal.returns
returns c = record {
  accepts = gcm_accepts;
  undoes = λ key. undoes (gcm (aes key)) MOST_GCM (gcm_decrypts key) (gcm_accepts key);
  encrypts = λ key. encrypts (gcm (aes key)) MOST_GCM;
}
