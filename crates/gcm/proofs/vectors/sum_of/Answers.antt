use Rattle.std.proofs.Common.{ap₂, ◌∙◌, bit_xor}
use lib.Lanes.{zip2}
use Rattle.gcm.proofs.VectorFacts.{summed}
use Rattle.gcm.proofs.vectors.sum_of.Goals as goal

pub returns : goal.returns
returns c m n v_is w_is = ap₂ (zip2 bit_xor) v_is w_is ∙ summed m n
