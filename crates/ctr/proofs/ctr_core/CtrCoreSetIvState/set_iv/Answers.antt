use Rattle.std.proofs.Common.{ap, ◌∙◌}
use Rattle.ctr.proofs.Resuming.{resumed}
use Rattle.ctr.proofs.ctr_core.CtrCoreSetIvState.set_iv.Goals as goal

pub returns-clause-resumes : goal.returns-clause-resumes
returns-clause-resumes g c other same at blocks =
    let F = g.F.CtrFlavor in
    let laws = g.met.F.CtrFlavor in
    let E = g.C.BlockCipherEncrypt.encrypts in
    let started = c.from_nonce.ensures.value in
    resumed F.plus F.period laws.repeats laws.adds (E c.args.self.now.cipher) (E other.cipher) (F.nonce c.from_nonce.result) (F.nonce other.ctr_nonce) (F.counter c.from_nonce.result) (F.counter other.ctr_nonce) same
    (ap F.nonce started ∙ laws.starts_at c.args.iv.now ∙ at) (ap F.counter started ∙ laws.starts_at_0 c.args.iv.now) blocks
