use Rattle.std.proofs.Common.{◌≡◌, ◌+◌, ◌%◌, ◌++◌, drop}
use Rattle.cipher_stream.specs.Keystream.{next}
use Rattle.ctr.specs.Counter.{counters}
use Rattle.ctr.proofs.ctr_core.backend.write_counters.Given as goal

abbrev pub invariant-each : goal.invariant-each
invariant-each g l =
    let F = g.F.CtrFlavor in
    let p = F.counter l.initial.ctr_nonce in
    record {
      so_far : l.blocks ≡ next l.i (counters F.plus (F.nonce l.initial.ctr_nonce) F.period p) ++ drop l.i l.initial.blocks;
      counted : F.counter l.ctr_nonce ≡ (p + l.i) % F.period;
      same : F.nonce l.ctr_nonce ≡ F.nonce l.initial.ctr_nonce;
    }
