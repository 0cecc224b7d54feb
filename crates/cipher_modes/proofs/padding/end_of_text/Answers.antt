use Rattle.std.proofs.Common.{arith}
use Rattle.cipher_modes.proofs.EndLemmas.{zeros_more, text_ends-at_front, text_ends-at_other}
use Rattle.cipher_modes.proofs.padding.end_of_text.Goals as goal

pub loop-end-preserved : goal.loop-end-preserved
loop-end-preserved c =
    record {
      from = omega arith;
      within = omega arith;
      zeros = zeros_more c.args.bytes.now c.loop-end.end (omega arith) c.loop-end.invariant.within c.if-bytes-end-eq0.true c.loop-end.invariant.zeros;
    }

pub returns-else-bytes-end-eq0-clause-value : goal.returns-else-bytes-end-eq0-clause-value
returns-else-bytes-end-eq0-clause-value c =
    text_ends-at_other c.args.bytes.now c.args.front c.loop-end.end c.loop-end-test.true c.loop-end.invariant.within c.if-bytes-end-eq0.false c.loop-end.invariant.zeros

pub returns-after-loop-end-clause-value : goal.returns-after-loop-end-clause-value
returns-after-loop-end-clause-value c =
    text_ends-at_front c.args.bytes.now c.args.front c.loop-end.end (omega arith) c.loop-end.invariant.within c.loop-end.invariant.zeros
