use Rattle.aes_block.proofs.Halves.{half-first}
use Rattle.aes_block.proofs.planes.wide.U8x32Plane.first_on.Goals as goal

pub returns : goal.returns
returns c h = half-first h c.args.self c.fits-self.0
