use Rattle.std.proofs.Common.{◌*◌, ◌%◌, ◌^◌}
use Rattle.aes_block.proofs.Halves.{half-with}
use Rattle.aes_block.proofs.planes.wide.U8x32Plane.up.Goals as goal

pub returns : goal.returns
returns c h = half-with (λ x y. x * 2 ^ y % 256) h c.args.count c.args.self
