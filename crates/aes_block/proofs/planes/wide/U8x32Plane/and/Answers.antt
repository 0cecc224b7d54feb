use Rattle.std.proofs.Common.{bit_and}
use Rattle.aes_block.proofs.Halves.{half-zip2}
use Rattle.aes_block.proofs.planes.wide.U8x32Plane.and.Goals as goal

pub returns : goal.returns
returns c h = half-zip2 bit_and h c.args.self c.args.other
