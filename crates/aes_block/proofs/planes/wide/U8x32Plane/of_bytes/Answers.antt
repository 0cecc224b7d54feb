use Rattle.aes_block.proofs.Halves.{half-vector}
use Rattle.aes_block.proofs.planes.wide.U8x32Plane.of_bytes.Goals as goal

pub returns-clause-bytes : goal.returns-clause-bytes
returns-clause-bytes c h = half-vector h c.args.self c.fits-self.0 c.fits-self.1
