use Rattle.standards.specs.AesInverse.{inv_cipher}
use Rattle.aes_block.proofs.PlaneParts.{of_vectors}
use Rattle.aes_block.proofs.planes.decipher_eight.Goals as goal

pub returns : goal.returns
returns c ks k = of_vectors (inv_cipher c.args.rounds ks) c.vectors.result c.decipher_vectors.result c.arrays.result c.args.blocks.now (c.decipher_vectors.ensures 0 ks k) c.arrays.ensures c.vectors.ensures
