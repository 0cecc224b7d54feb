use Rattle.std.proofs.Common.{take, ◌++◌}
use Rattle.tink_aead_subtle.specs.CounterMode.{in_counter_mode}
use Rattle.tink_aead_subtle.proofs.CounterModeExact.{counted, counter_undoes, sealed_is}
use Rattle.tink_aead_subtle.proofs.laws.law_aes_ctr.Goals as goal

pub returns : goal.returns
returns c = record {
  accepts = λ key iv_size fits. counted key iv_size fits;
  undoes = counter_undoes;
  encrypts = λ key iv_size fits text draws enough. (take iv_size draws ++ in_counter_mode key (take iv_size draws) text, sealed_is key iv_size fits text draws enough);
}
