use Rattle.std.proofs.Common.{length}
use Rattle.ctr.proofs.Counted.{enciphered}
use Rattle.ctr.proofs.ctr_core.backend.BackendStreamCipherBackend.gen_par_ks_blocks.Goals as goal

pub returns-clause-value : goal.returns-clause-value
returns-clause-value g c =
    let F = g.F.CtrFlavor in
    let E = g.K.BlockCipherEncBackend.encrypts c.args.self.now.backend.now in
    let old = c.args.self.now.ctr_nonce.now in
    enciphered E F.plus (F.nonce old) F.period (F.counter old) (length c.args.blocks.now) c.write_counters.new.blocks c.encrypt_par_blocks_inplace.new.blocks c.write_counters.ensures.value c.encrypt_par_blocks_inplace.ensures.value
