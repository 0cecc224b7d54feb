use Rattle.aes_block.proofs.PlaneParts.{key_of_vectors}
use Rattle.aes_block.proofs.planes.key_planes.Goals as goal

pub returns : goal.returns
returns c = key_of_vectors c.args.key.now c.transpose.result c.arrays.result (c.transpose.ensures 0) c.arrays.ensures
