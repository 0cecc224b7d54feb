use Rattle.std.proofs.Common.{map}
use Rattle.aes_block.specs.BitPlanes.{spread}
use Rattle.aes_block.proofs.InverseColumns.{inverse_blocks}
use Rattle.aes_block.proofs.planes.inverse_rounds.inv_mix_planes.Goals as goal

pub returns : goal.returns
returns g c p b h = inverse_blocks b _ _ h (c.mix_planes.ensures p (map spread b) (c.spread_planes.ensures p b h))
