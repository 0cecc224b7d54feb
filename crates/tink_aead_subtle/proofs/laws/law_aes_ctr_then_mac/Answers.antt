use Rattle.tink_aead_subtle.proofs.ComposedExact.{accepts_exactly, encrypted_is, encrypts}
use Rattle.tink_aead_subtle.proofs.laws.law_aes_ctr_then_mac.Goals as goal

pub returns : goal.returns
returns c = record {
  accepts = λ key iv_size t computes verifies mac fits own. accepts_exactly key iv_size fits t computes verifies mac own;
  undoes = λ key iv_size t computes verifies mac fits own text aad draws sealed e.
      (accepts_exactly key iv_size fits t computes verifies mac own sealed aad text).1 (encrypted_is key iv_size fits t computes verifies mac own text aad draws sealed e);
  encrypts = λ key iv_size t computes verifies mac fits own. encrypts key iv_size fits t computes verifies mac own;
}
