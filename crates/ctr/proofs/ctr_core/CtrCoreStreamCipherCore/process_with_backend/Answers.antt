use Rattle.ctr.specs.Counter.{counter_stream}
use Rattle.ctr.proofs.Counting.{served}
use Rattle.ctr.proofs.ctr_core.CtrCoreStreamCipherCore.process_with_backend.Goals as goal

pub returns-clause-fed : goal.returns-clause-fed
returns-clause-fed g c =
    let F = g.F.CtrFlavor in
    let E = g.C.BlockCipherEncrypt.encrypts c.args.self.now.cipher in
    let old = c.args.self.now.ctr_nonce in
    let new = c.process.new.ctr_nonce in
    served g.G.StreamCipherClosure.leads c.args.f.now c.process.new.f (counter_stream E F.plus (F.nonce old) F.period (F.counter old)) (counter_stream E F.plus (F.nonce new) F.period (F.counter new))
    (g.met.F.CtrFlavor.within old) (g.met.F.CtrFlavor.within new) c.process.ensures.fed
