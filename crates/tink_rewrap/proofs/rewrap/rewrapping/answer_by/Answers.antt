use Rattle.std.proofs.Common.{Err, ap, le_refl}
use Rattle.std.proofs.lemmas.Result.{err_from_is_err_and}
use Rattle.tink_io.specs.Outside.{outside_of}
use Rattle.tink_run.proofs.RunSteps.{leaves_same, leaves_sink_same}
use Rattle.tink_rewrap.specs.Rewrapping.{sides}
use Rattle.tink_rewrap.proofs.RewrapSteps.{begun_keyset, rewraps_keysets, sink_left, to_not_loaded, wants_memory}
use Rattle.tink_rewrap.proofs.rewrap.rewrapping.answer_by.Goals as goal

pub returns-in_err-waiting : goal.returns-in_err-waiting
returns-in_err-waiting g c =
    let p = err_from_is_err_and c.from_residual.result c.from_residual.ensures.1 in
    record {
      answer = λ from loads. rw (p.1, p.2)
          (wants_memory (sides from c.args.from_aad.now c.args.to.now c.args.to_aad.now) c.args.draws.now _ c.in_err-waiting.field-0.0 (ap (λ x. x.kind) c.in_err-waiting.ensures.refused));
      early = leaves_same c.from_residual.result c.args.source.now c.args.sink.now;
      unwritten = leaves_sink_same c.from_residual.result c.args.sink.now;
      begun = λ from loads. sink_left (sides from c.args.from_aad.now c.args.to.now c.args.to_aad.now)
          (outside_of g.S.Source.left g.S.Source.faults g.K.Sink.got g.K.Sink.faults c.args.source.now c.args.sink.now) c.from_residual.result c.args.sink.now;
      later = record { reads = le_refl _; writes = le_refl _ };
      source = g.met.S.Source.same_refl _;
      sink = g.met.K.Sink.same_refl _;
    }

pub returns-in-Ok : goal.returns-in-Ok
returns-in-Ok g c = record {
  answer = λ from loads.
      rewraps_keysets (sides from c.args.from_aad.now c.args.to.now c.args.to_aad.now) c.args.draws.now c.rewrap_together.new.draws c.args.keys.now c.in-Ok.new_keys _ _ _ c.rewrap_together.result loads c.in-Ok.ensures.answer
      c.primary_key.ensures c.rewrap_together.ensures.order c.rewrap_together.ensures.answer;
  early = c.rewrap_together.ensures.early;
  unwritten = c.rewrap_together.ensures.unwritten;
  begun = λ from loads. begun_keyset (sides from c.args.from_aad.now c.args.to.now c.args.to_aad.now) c.args.keys.now
      (outside_of g.S.Source.left g.S.Source.faults g.K.Sink.got g.K.Sink.faults c.args.source.now c.args.sink.now) c.rewrap_together.result c.args.sink.now c.rewrap_together.new.sink loads
      c.rewrap_together.ensures.order c.rewrap_together.ensures.begun;
  later = c.rewrap_together.ensures.later;
  source = c.rewrap_together.ensures.source;
  sink = c.rewrap_together.ensures.sink;
}

pub returns : goal.returns
returns g c = record {
  answer = λ from loads. to_not_loaded (sides from c.args.from_aad.now c.args.to.now c.args.to_aad.now) c.args.draws.now c.args.keys.now _ c.in-Err.error loads c.in-Err.ensures.answer;
  early = leaves_same (Err c.in-Err.error) c.args.source.now c.args.sink.now;
  unwritten = leaves_sink_same (Err c.in-Err.error) c.args.sink.now;
  begun = λ from loads. sink_left (sides from c.args.from_aad.now c.args.to.now c.args.to_aad.now)
      (outside_of g.S.Source.left g.S.Source.faults g.K.Sink.got g.K.Sink.faults c.args.source.now c.args.sink.now) (Err c.in-Err.error) c.args.sink.now;
  later = record { reads = le_refl _; writes = le_refl _ };
  source = g.met.S.Source.same_refl _;
  sink = g.met.K.Sink.same_refl _;
}
