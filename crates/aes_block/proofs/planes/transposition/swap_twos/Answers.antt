use Rattle.std.proofs.Common.{lit<}
use Rattle.aes_block.proofs.PlaneParts.{swapped_parts}
use Rattle.aes_block.proofs.planes.transposition.swap_twos.Goals as goal

pub returns : goal.returns
returns g c p =
    swapped_parts (g.P.Plane.part p) 2 51 c.args.a c.args.b c.of_bytes.result c.of_bytes-b.result c.down.result c.xor.result c.splat.result c.and-t.result c.up.result c.xor-2.result c.xor-3.result
    tt tt (lit< tt) c.of_bytes.ensures.same c.of_bytes-b.ensures.same (c.of_bytes.ensures.bytes p) (c.of_bytes-b.ensures.bytes p)
    (c.down.ensures p) (c.xor.ensures p) (c.splat.ensures p) (c.and-t.ensures p) (c.up.ensures p) (c.xor-2.ensures p) (c.xor-3.ensures p)
