use Rattle.gcm.specs.Limits.{MOST_GCM_SIV}
use Rattle.standards.specs.AesKeys.{aes}
use Rattle.standards.specs.GcmSiv.{gcm_siv}
use Rattle.tink_aead_subtle.specs.AesAeads.{gcm_siv_decrypts}
use Rattle.tink_aead_subtle.proofs.AesExact.{gcm_siv_accepts}
use Rattle.tink_aead_subtle.proofs.Exact.{encrypts, undoes}
use Rattle.tink_aead_subtle.proofs.laws.law_aes_gcm_siv.Goals as goal

pub returns : goal.returns
returns c = record {
  accepts = gcm_siv_accepts;
  undoes = λ key is. undoes (gcm_siv aes key) MOST_GCM_SIV (gcm_siv_decrypts key) (gcm_siv_accepts key is);
  encrypts = λ key. encrypts (gcm_siv aes key) MOST_GCM_SIV;
}
