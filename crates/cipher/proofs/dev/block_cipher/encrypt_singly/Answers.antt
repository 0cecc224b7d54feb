use Rattle.std.proofs.Common.{arith}
use Rattle.cipher.proofs.Parts.{one_more}
use Rattle.cipher.proofs.dev.block_cipher.encrypt_singly.Goals as goal

pub loop-i-preserved : goal.loop-i-preserved
loop-i-preserved g c = one_more _ c.args.blocks.now c.loop-i.blocks _ _ c.loop-i.i (omega arith) c.loop-i.invariant c.encrypt_block.ensures.value
