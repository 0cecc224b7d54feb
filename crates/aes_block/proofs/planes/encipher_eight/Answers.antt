use Rattle.standards.specs.Aes.{cipher}
use Rattle.aes_block.proofs.PlaneParts.{of_vectors}
use Rattle.aes_block.proofs.planes.encipher_eight.Goals as goal

pub returns : goal.returns
returns c ks k = of_vectors (cipher c.args.rounds ks) c.vectors.result c.encipher_vectors.result c.arrays.result c.args.blocks.now (c.encipher_vectors.ensures 0 ks k) c.arrays.ensures c.vectors.ensures
