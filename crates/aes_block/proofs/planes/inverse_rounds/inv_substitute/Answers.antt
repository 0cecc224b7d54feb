use Rattle.standards.specs.AesInverse.{inv_sub_byte}
use Rattle.aes_block.specs.BitPlanes.{byte_of}
use Rattle.aes_block.proofs.LinearSteps.{substituted}
use Rattle.aes_block.proofs.planes.inverse_rounds.inv_substitute.Goals as goal

pub returns : goal.returns
returns g c p b h = substituted inv_sub_byte b _ _ h (c.inv_sub_planes.ensures p (byte_of b) h.planes)
