use Rattle.std.proofs.Common.{arith, ap, ◌∙◌}
use Rattle.aes_block.specs.Parts.{half}
use Rattle.aes_block.proofs.Halves.{half-twice}
use Rattle.aes_block.proofs.planes.wide.U8x32Plane.repeated.Goals as goal

pub returns : goal.returns
returns c h = ap (half h) c.joined.ensures ∙ half-twice h c.args.bytes.now (omega arith)
