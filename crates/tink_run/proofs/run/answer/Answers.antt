use Rattle.std.proofs.Common.{Err, le_refl}
use Rattle.tink_run.proofs.ReadEndings.{reads_unloaded}
use Rattle.tink_run.proofs.RunSteps.{leaves_same, not_loaded, untouched, leaves_sink_same}
use Rattle.tink_run.proofs.run.answer.Goals as goal

pub returns-in-Ok : goal.returns-in-Ok
returns-in-Ok g c = record {
  answer = c.answer_by.ensures.answer c.args.keyset.now c.in-Ok.ensures.answer;
  read = c.answer_by.ensures.read c.args.keyset.now c.in-Ok.ensures.answer;
  early = c.answer_by.ensures.early;
  unwritten = c.answer_by.ensures.unwritten;
  later = c.answer_by.ensures.later;
  source = c.answer_by.ensures.source;
  sink = c.answer_by.ensures.sink;
}

pub returns-in-Err : goal.returns-in-Err
returns-in-Err g c = record {
  answer = not_loaded c.args.command c.args.keyset.now c.args.aad.now c.args.draws.now _ _ c.in-Err.error (untouched _) c.in-Err.ensures.answer;
  read = reads_unloaded c.args.command c.args.keyset.now c.args.aad.now _ _ c.in-Err.error c.in-Err.ensures.answer;
  early = leaves_same (Err c.in-Err.error) c.args.source.now c.args.sink.now;
  unwritten = leaves_sink_same (Err c.in-Err.error) c.args.sink.now;
  later = record { reads = le_refl _; writes = le_refl _ };
  source = g.met.S.Source.same_refl _;
  sink = g.met.K.Sink.same_refl _;
}

pub answer_by-requires : goal.answer_by-requires
answer_by-requires g c = c.in-Ok.ensures.primary
