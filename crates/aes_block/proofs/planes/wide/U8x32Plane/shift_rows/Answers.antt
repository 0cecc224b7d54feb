use Rattle.aes_block.proofs.Halves.{half-shift}
use Rattle.aes_block.proofs.planes.wide.U8x32Plane.shift_rows.Goals as goal

pub returns : goal.returns
returns c h = half-shift h c.args.self c.fits-self.0
