use Rattle.std.proofs.Common.{◌≡◌, ◌+◌, ◌*◌, ◌/◌, length, min}
use Rattle.standards.specs.Blocks.{over_blocks, zero_padded}
use Rattle.standards.specs.Counter.{ctr}
use Rattle.gcm.specs.declared.order.ByteOrder.TheVariants.{LittleEndian}
use Rattle.gcm.specs.Orders.{absorb, counted}
use Rattle.gcm.proofs.opened.absorb_opened.Given as goal

-- the state after the parts so far
abbrev pub invariant-loop-i : goal.invariant-loop-i
invariant-loop-i g l =
    l.state ≡ over_blocks (absorb LittleEndian (g.K.Products.element l.key)) l.y (zero_padded (ctr (g.C.BlockCipherEncrypt.encrypts l.c) (counted LittleEndian) l.block l.ciphertext)) (min (8 * l.i) ((length l.ciphertext + 15) / 16))
