use Rattle.std.proofs.Common.{arith}
use Rattle.aes_block.proofs.TableRules.{entry-TIMES_ELEVEN, entry-TIMES_FOURTEEN, entry-TIMES_NINE, entry-TIMES_THIRTEEN}
use Rattle.aes_block.proofs.decryption.inv_mix_byte.Goals as goal

pub returns : goal.returns
returns c =
    let a = entry-TIMES_FOURTEEN c.args.a (omega arith) in
    let b = entry-TIMES_ELEVEN c.args.b (omega arith) in
    let d = entry-TIMES_THIRTEEN c.args.c (omega arith) in
    let e = entry-TIMES_NINE c.args.d (omega arith) in
    cc (a, b, d, e)
