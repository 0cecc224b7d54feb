use Rattle.std.proofs.Common.{arith}
use Rattle.cipher_stream.specs.Keystream.{IsFed}
use Rattle.ctr.specs.Counter.{counter_stream}
use Rattle.ctr.proofs.Counted.{fed}
use Rattle.ctr.proofs.ctr_core.backend.process.Goals as goal

pub returns-clause-fed : goal.returns-clause-fed
returns-clause-fed g c =
    let F = g.F.CtrFlavor in
    let L = g.G.StreamCipherClosure.leads in
    let E = g.C.BlockCipherEncrypt.encrypts c.args.cipher.now in
    let l = c.encrypt_with_backend.ensures.led in
    let old = c.args.ctr_nonce.now in
    let new = c.encrypt_with_backend.new.f in
    let fed : IsFed L c.args.f.now new.f.now (counter_stream E F.plus (F.nonce old) F.period (F.counter old)) (counter_stream E F.plus (F.nonce new.ctr_nonce.now) F.period (F.counter new.ctr_nonce.now)) =
    fed L E F.plus F.period c.args.f.now new.f.now (F.nonce old) (F.nonce new.ctr_nonce.now) (F.counter old) (F.counter new.ctr_nonce.now) l.pairs l.of_map l.goes in
    grind arith
