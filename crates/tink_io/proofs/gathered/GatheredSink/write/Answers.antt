use Rattle.std.proofs.Common.{le_of_eq, refl, sym}
use Rattle.tink_io.proofs.GatheringLemmas.{grows_then, grows_written}
use Rattle.tink_io.proofs.gathered.GatheredSink.write.Goals as goal

pub returns-clause-same : goal.returns-clause-same
returns-clause-same g c =
    let drained = c.in_ok-drain.ensures in (
      refl,
      refl,
      g.met.K.Sink.same_trans _ _ _ drained.same c.write.ensures.same,
      grows_then _ _ _ drained.grows (grows_written _ _ c.write.result c.args.buf.now c.write.ensures.bytes),
      le_of_eq (sym drained.capacity),
    )
