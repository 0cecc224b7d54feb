use Rattle.std.proofs.Common.{◌≤◌, ◌-◌, ℕ, length, arith, length-drop}
use Rattle.std.proofs.lemmas.List.{length-take}
use Rattle.tink_streaming_segment.proofs.HeldFacts.{held_more, held_still, front_read, front_still, kept_consumes, loses_more}
use Rattle.tink_streaming_segment.proofs.held.fill.Goals as goal

pub loop-filled-preserved : goal.loop-filled-preserved
loop-filled-preserved g c =
    let n : ℕ = c.loop-filled.filled in
    let here : n ≤ length c.loop-filled.buffer = omega (arith, c.loop-filled.auto.buffer) in
    let read : c.in-Ok.count ≤ length c.read.new.buf = omega (arith, c.in-Ok.ensures.bound.0) in
    record {
      more = omega arith;
      within = omega (arith, c.in-Ok.ensures.bound.0, c.read.auto.buf, length-take {A = ℕ}, length-drop {A = ℕ});
      rest = rw (front_read n (c.args.want - n) c.in-Ok.count c.loop-filled.buffer c.read.new.buf here read)
          (held_more _ _ _ _ _ c.loop-filled.invariant.rest c.in-Ok.ensures.bytes.0);
      read = loses_more (n - c.args.filled.now) c.in-Ok.count _ _ _ _ _ c.loop-filled.invariant.read c.in-Ok.ensures.bytes.0 (omega (arith, length-take c.in-Ok.count c.read.new.buf)) (omega arith);
      later = omega (arith, c.in-Ok.ensures.cause.later);
      same = g.met.S.Source.same_trans _ _ _ c.loop-filled.invariant.same c.in-Ok.ensures.same;
    }

pub returns-in-Err-clause-read : goal.returns-in-Err-clause-read
returns-in-Err-clause-read g c =
    loses_more (c.loop-filled.filled - c.args.filled.now) 0 _ _ _ _ _ c.loop-filled.invariant.read (kept_consumes _ _ c.in-Err.ensures.bytes) (omega arith) (omega arith)

pub returns-in-Err-clause-rest : goal.returns-in-Err-clause-rest
returns-in-Err-clause-rest g c =
    let n : ℕ = c.loop-filled.filled in
    rw (front_still n (c.args.want - n) c.loop-filled.buffer c.read.new.buf (omega (arith, c.loop-filled.auto.buffer)))
    (held_still _ _ _ _ c.loop-filled.invariant.rest c.in-Err.ensures.bytes)

pub returns-in-Err-clause-short : goal.returns-in-Err-clause-short
returns-in-Err-clause-short g c = c.loop-filled-test.true
