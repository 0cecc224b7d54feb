use Rattle.std.proofs.Common.{Err, le_refl}
use Rattle.tink_io.specs.Outside.{outside_of}
use Rattle.tink_run.proofs.RunSteps.{leaves_same, leaves_sink_same}
use Rattle.tink_rewrap.specs.Rewrapping.{Sides}
use Rattle.tink_rewrap.proofs.RewrapSteps.{from_not_loaded, sink_left}
use Rattle.tink_rewrap.proofs.rewrap.rewrapping.answer.Goals as goal

pub returns-in-Ok : goal.returns-in-Ok
returns-in-Ok g c = record {
  answer = c.answer_by.ensures.answer c.args.from.now c.in-Ok.ensures.answer;
  early = c.answer_by.ensures.early;
  unwritten = c.answer_by.ensures.unwritten;
  begun = c.answer_by.ensures.begun c.args.from.now c.in-Ok.ensures.answer;
  later = c.answer_by.ensures.later;
  source = c.answer_by.ensures.source;
  sink = c.answer_by.ensures.sink;
}

pub returns-in-Err : goal.returns-in-Err
returns-in-Err g c =
    let s : Sides = record { from = c.args.from.now; from_aad = c.args.from_aad.now; to = c.args.to.now; to_aad = c.args.to_aad.now } in
    record {
      answer = from_not_loaded s c.args.draws.now _ c.in-Err.error c.in-Err.ensures.answer;
      early = leaves_same (Err c.in-Err.error) c.args.source.now c.args.sink.now;
      unwritten = leaves_sink_same (Err c.in-Err.error) c.args.sink.now;
      begun = sink_left s (outside_of g.S.Source.left g.S.Source.faults g.K.Sink.got g.K.Sink.faults c.args.source.now c.args.sink.now) (Err c.in-Err.error) c.args.sink.now;
      later = record { reads = le_refl _; writes = le_refl _ };
      source = g.met.S.Source.same_refl _;
      sink = g.met.K.Sink.same_refl _;
    }
