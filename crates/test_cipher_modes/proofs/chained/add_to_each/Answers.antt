use Rattle.std.proofs.Common.{◌+◌, ◌%◌, arith, refl}
use Rattle.cipher.proofs.Parts.{one_more}
use Rattle.test_cipher_modes.proofs.chained.add_to_each.Goals as goal

pub loop-i-preserved : goal.loop-i-preserved
loop-i-preserved c = one_more (λ x. (x + c.args.key) % 256) c.args.output.now c.loop-i.output _ 0 c.loop-i.i (omega arith) c.loop-i.invariant refl
