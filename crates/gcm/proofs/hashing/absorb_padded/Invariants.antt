use Rattle.std.proofs.Common.{◌≡◌, ◌*◌}
use Rattle.standards.specs.Blocks.{over_blocks, zero_padded}
use Rattle.gcm.specs.Orders.{absorb}
use Rattle.gcm.proofs.hashing.absorb_padded.Given as goal

-- the state after four blocks for each pass so far
abbrev pub invariant-fours : goal.invariant-fours
invariant-fours g l = l.state ≡ over_blocks (absorb l.order (g.K.Products.element l.key)) l.y (zero_padded l.bytes) (4 * l.i)

-- the state after the blocks so far
abbrev pub invariant-rest : goal.invariant-rest
invariant-rest g l = l.state ≡ over_blocks (absorb l.order (g.K.Products.element l.key)) l.y (zero_padded l.bytes) l.i
