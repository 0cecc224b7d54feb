use Rattle.std.proofs.Common.{arith, ap₂, ◌++◌}
use Rattle.aes_block.proofs.Halves.{eight_halves}
use Rattle.aes_block.proofs.planes.vectors.wide_arrays.Goals as goal

pub returns : goal.returns
returns c =
    ap₂ (λ x y. x ++ y)
    (eight_halves 0 c.args.v (omega arith) _ _ _ _ _ _ _ _ _ _ _ _ _ _ _ _ c.first.ensures c.first-2.ensures c.first-3.ensures c.first-4.ensures c.first-5.ensures c.first-6.ensures c.first-7.ensures c.first-8.ensures)
    (eight_halves 1 c.args.v (omega arith) _ _ _ _ _ _ _ _ _ _ _ _ _ _ _ _ c.second.ensures c.second-2.ensures c.second-3.ensures c.second-4.ensures c.second-5.ensures c.second-6.ensures c.second-7.ensures c.second-8.ensures)
