use Rattle.std.proofs.Common.{◌∙◌, refl, arith}
use Rattle.cipher_stream.specs.Keystream.{stream_of}
use Rattle.ctr.specs.Counter.{counters}
use Rattle.ctr.proofs.Counting.{block_after, counted_more, counted_none, fill_more}
use Rattle.ctr.proofs.ctr_core.backend.write_counters.Goals as goal

pub each-init : goal.each-init
each-init g c =
    let F = g.F.CtrFlavor in
    record { so_far = refl; counted = counted_none (F.counter c.args.ctr_nonce.now) F.period (g.met.F.CtrFlavor.within c.args.ctr_nonce.now); same = refl }

pub each-preserved : goal.each-preserved
each-preserved g c =
    let F = g.F.CtrFlavor in
    let nonce = F.nonce c.args.ctr_nonce.now in
    let p = F.counter c.args.ctr_nonce.now in
    let now = c.each.ctr_nonce in
    let i = c.each.i in
    let y = c.next_block.result in
    let before = c.each.invariant in
    let written = c.next_block.ensures in
    record {
      so_far = fill_more (stream_of (counters F.plus nonce F.period p)) c.args.blocks.now c.each.blocks y i (omega arith) before.so_far
          (block_after F.plus F.period nonce (F.nonce now) y p (F.counter now) i before.same before.counted written.value);
      counted = written.counter ∙ counted_more p (F.counter now) F.period i before.counted;
      same = written.same ∙ before.same;
    }
