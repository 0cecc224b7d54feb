use Rattle.ctr.proofs.Counted.{led}
use Rattle.ctr.proofs.ctr_core.backend.ClosureBlockCipherEncClosure.call.Goals as goal

pub returns-clause-led : goal.returns-clause-led
returns-clause-led g c =
    let F = g.F.CtrFlavor in
    let old = c.args.self.now.ctr_nonce.now in
    let new = c.call.new.backend.ctr_nonce.now in
    let kept = c.call.ensures.backend_kept in
    let h = rw kept.2 at c.call.ensures.fed in
    let r = led g.G.StreamCipherClosure.leads (g.K.BlockCipherEncBackend.encrypts c.args.backend.now) F.plus F.period c.args.self.now.f.now c.call.new.self (F.nonce old) (F.nonce new) (F.counter old) (F.counter new) h kept.1 in
    record { pairs = r.0; of_map = r.1.0; goes = r.1.1 }
