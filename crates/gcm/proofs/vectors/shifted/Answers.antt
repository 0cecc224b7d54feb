use Rattle.std.proofs.Common.{◌++◌, ap, ◌∙◌, replicate}
use lib.Lanes.{pick_l}
use Rattle.gcm.proofs.VectorFacts.{AFTER_FIRST, shifted_down}
use Rattle.gcm.proofs.vectors.shifted.Goals as goal

pub returns : goal.returns
returns c n fits v_is = ap (λ v. pick_l 0 (v ++ replicate 16 0) AFTER_FIRST) v_is ∙ shifted_down n fits
