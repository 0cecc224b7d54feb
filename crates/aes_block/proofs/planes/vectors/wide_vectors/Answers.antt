use Rattle.std.proofs.Common.{◌∙◌}
use Rattle.aes_block.proofs.Halves.{first_eight, last_eight}
use Rattle.aes_block.proofs.LinearSteps.{same_eight}
use Rattle.aes_block.proofs.planes.vectors.wide_vectors.Goals as goal

pub returns-clause-first : goal.returns-clause-first
returns-clause-first c = same_eight _ _ _ _ _ _ _ _ _ _ _ _ _ _ _ _ c.pair.ensures.first c.pair-2.ensures.first c.pair-3.ensures.first c.pair-4.ensures.first c.pair-5.ensures.first c.pair-6.ensures.first c.pair-7.ensures.first c.pair-8.ensures.first ∙ first_eight c.args.arrays.now c.requires

pub returns-clause-second : goal.returns-clause-second
returns-clause-second c = same_eight _ _ _ _ _ _ _ _ _ _ _ _ _ _ _ _ c.pair.ensures.second c.pair-2.ensures.second c.pair-3.ensures.second c.pair-4.ensures.second c.pair-5.ensures.second c.pair-6.ensures.second c.pair-7.ensures.second c.pair-8.ensures.second ∙ last_eight c.args.arrays.now c.requires
