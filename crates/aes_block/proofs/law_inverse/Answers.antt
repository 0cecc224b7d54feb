use Rattle.std.proofs.Common.{refl}
use Rattle.standards.specs.Aes.{inverse, power, times, times_terms}
use Rattle.aes_block.proofs.Inverses.{times-inverse}
use Rattle.aes_block.proofs.law_inverse.Goals as goal

pub returns-clause-undoes : goal.returns-clause-undoes
returns-clause-undoes c = times-inverse

pub returns-clause-of_zero : goal.returns-clause-of_zero
unfolding inverse power times times_terms
returns-clause-of_zero c = refl
