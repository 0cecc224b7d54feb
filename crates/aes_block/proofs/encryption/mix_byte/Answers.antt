use Rattle.std.proofs.Common.{arith}
use Rattle.aes_block.proofs.TableRules.{entry-SUB_TIMES_THREE, entry-SUB_TIMES_TWO}
use Rattle.aes_block.proofs.encryption.mix_byte.Goals as goal

pub returns : goal.returns
returns c =
    let a = entry-SUB_TIMES_TWO c.args.a (omega arith) in
    let b = entry-SUB_TIMES_THREE c.args.b (omega arith) in
    cc (a, b)
