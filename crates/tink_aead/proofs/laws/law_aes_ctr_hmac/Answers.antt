use Rattle.tink_aead.proofs.ComposedKeyFacts.{accepts_whole, built_whole, undoes_whole}
use Rattle.tink_aead.proofs.laws.law_aes_ctr_hmac.Goals as goal

pub returns : goal.returns
returns c = record { built = built_whole; accepts = accepts_whole; undoes = undoes_whole }
