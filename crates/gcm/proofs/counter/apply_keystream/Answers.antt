use Rattle.std.proofs.Common.{◌≡◌, ◌*◌, arith}
use Rattle.gcm.proofs.Counting.{in_one, in_two}
use Rattle.gcm.proofs.counter.apply_keystream.Goals as goal

pub returns-then-n-bytes : goal.returns-then-n-bytes
returns-then-n-bytes g c = in_one (g.C.BlockCipherEncrypt.encrypts c.args.c.now) c.args.order c.args.block.now c.args.bytes.now c.apply_counted.new.bytes c.min-n.result (omega arith) c.apply_counted.ensures

pub returns : goal.returns
returns g c =
    let n = c.min-n.result in
    let n_is : n ≡ 16 * 4294967295 = omega arith in
    in_two (g.C.BlockCipherEncrypt.encrypts c.args.c.now) c.args.order c.args.block.now c.counter_after-last.result c.args.bytes.now c.apply_counted.new.bytes c.apply_counted-2.new.bytes n 4294967295
    (g.met.C.BlockCipherEncrypt.sized c.args.c.now) c.told-block n_is (omega arith) c.apply_counted.ensures c.counter_after-last.ensures c.apply_counted-2.ensures
