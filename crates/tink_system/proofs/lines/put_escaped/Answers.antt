use Rattle.std.proofs.Common.{ℕ, arith, length-drop}
use Rattle.tink_io.proofs.GatheringLemmas.{grows_then}
use Rattle.tink_system.proofs.lines.put_escaped.Goals as goal

pub loop-at-preserved : goal.loop-at-preserved
loop-at-preserved g c = record {
  within = omega (arith, c.put_next-at.ensures.bound, c.loop-at.invariant.within, length-drop {A = ℕ});
  grows = grows_then _ _ _ c.loop-at.invariant.grows c.put_next-at.ensures.grows;
  same = g.met.E.Sink.same_trans _ _ _ c.loop-at.invariant.same c.put_next-at.ensures.same;
}
