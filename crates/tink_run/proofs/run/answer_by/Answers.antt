use Rattle.std.proofs.Common.{le_refl}
use Rattle.std.proofs.lemmas.Result.{err_from_is_err_and}
use Rattle.tink_run.proofs.ReadEndings.{reads_keyset, reads_no_room}
use Rattle.tink_run.proofs.RunSteps.{leaves_same, no_room, opens_keyset, seal_unwritten, seals_keyset, leaves_sink_same}
use Rattle.tink_run.proofs.run.answer_by.Goals as goal

pub returns-in_err-waiting : goal.returns-in_err-waiting
returns-in_err-waiting g c =
    let returned = err_from_is_err_and c.from_residual.result c.from_residual.ensures.1 in
    record {
      answer = λ keyset loads. rw (returned.1, returned.2) (no_room c.args.command keyset c.args.aad.now c.args.draws.now _ c.in_err-waiting.field-0.0 c.in_err-waiting.ensures.refused);
      read = λ keyset loads. rw (returned.1, returned.2) (reads_no_room c.args.command keyset c.args.aad.now _ _ c.in_err-waiting.field-0.0 c.in_err-waiting.ensures.refused);
      early = leaves_same c.from_residual.result c.args.source.now c.args.sink.now;
      unwritten = leaves_sink_same c.from_residual.result c.args.sink.now;
      later = record { reads = le_refl _; writes = le_refl _ };
      source = g.met.S.Source.same_refl _;
      sink = g.met.K.Sink.same_refl _;
    }

pub returns-in-Seal : goal.returns-in-Seal
returns-in-Seal g c = record {
  answer = λ keyset loads. rw c.in-Seal.is
      (seals_keyset keyset c.args.aad.now c.args.draws.now c.seal_together.new.draws _ _ _ _ c.seal_together.result loads c.primary_key.ensures c.seal_together.ensures.answer);
  read = λ keyset loads. rw c.in-Seal.is tt;
  early = c.seal_together.ensures.early;
  unwritten = seal_unwritten _ _ _ _ _ _ c.seal_together.result _ _ _ _ c.seal_together.ensures.answer c.seal_together.ensures.early;
  later = c.seal_together.ensures.later;
  source = c.seal_together.ensures.source;
  sink = c.seal_together.ensures.sink;
}

pub returns : goal.returns
returns g c = record {
  answer = λ keyset loads. rw c.in-Open.is
      (opens_keyset keyset c.args.aad.now c.args.draws.now c.args.keys.now _ _ c.open_together.result loads c.open_together.ensures.order c.open_together.ensures.answer);
  read = λ keyset loads. rw c.in-Open.is
      (reads_keyset keyset c.args.aad.now c.args.keys.now _ _ c.open_together.result loads c.open_together.ensures.order c.open_together.ensures.answer);
  early = c.open_together.ensures.early;
  unwritten = c.open_together.ensures.unwritten;
  later = c.open_together.ensures.later;
  source = c.open_together.ensures.source;
  sink = c.open_together.ensures.sink;
}
