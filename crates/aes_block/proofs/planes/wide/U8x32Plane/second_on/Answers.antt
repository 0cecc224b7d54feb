use Rattle.aes_block.proofs.Halves.{half-second}
use Rattle.aes_block.proofs.planes.wide.U8x32Plane.second_on.Goals as goal

pub returns : goal.returns
returns c h = half-second h c.args.self c.fits-self.0
