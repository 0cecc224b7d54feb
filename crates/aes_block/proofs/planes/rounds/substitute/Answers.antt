use Rattle.standards.specs.Aes.{sub_byte}
use Rattle.aes_block.specs.BitPlanes.{byte_of}
use Rattle.aes_block.proofs.LinearSteps.{substituted}
use Rattle.aes_block.proofs.planes.rounds.substitute.Goals as goal

pub returns : goal.returns
returns g c p b h = substituted sub_byte b _ _ h (c.sub_planes.ensures p (byte_of b) h.planes)
