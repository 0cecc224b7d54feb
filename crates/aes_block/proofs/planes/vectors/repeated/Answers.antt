use Rattle.std.proofs.Common.{arith, ◌∙◌}
use Rattle.aes_block.proofs.LinearSteps.{same_eight}
use Rattle.aes_block.proofs.PlaneParts.{eight_whole}
use Rattle.aes_block.proofs.planes.vectors.repeated.Goals as goal

pub returns : goal.returns
returns g c p = same_eight _ _ _ _ _ _ _ _ _ _ _ _ _ _ _ _ (c.repeated.ensures p) (c.repeated-2.ensures p) (c.repeated-3.ensures p) (c.repeated-4.ensures p) (c.repeated-5.ensures p) (c.repeated-6.ensures p) (c.repeated-7.ensures p) (c.repeated-8.ensures p) ∙ eight_whole c.args.arrays.now (omega arith) _ _ _ _ _ _ _ _
