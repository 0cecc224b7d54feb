use Rattle.std.proofs.Common.{◌++◌, ap₂, ◌∙◌}
use lib.Lanes.{pick_l}
use Rattle.gcm.proofs.VectorFacts.{AFTER_FIRST, carried_down}
use Rattle.gcm.proofs.vectors.carry_of.Goals as goal

pub returns : goal.returns
returns c h l fits high_is low_is = ap₂ (λ v w. pick_l 0 (w ++ v) AFTER_FIRST) high_is low_is ∙ carried_down h l fits
