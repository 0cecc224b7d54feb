use Rattle.aes_block.proofs.Halves.{half-inv_shift}
use Rattle.aes_block.proofs.planes.wide.U8x32Plane.inv_shift_rows.Goals as goal

pub returns : goal.returns
returns c h = half-inv_shift h c.args.self c.fits-self.0
