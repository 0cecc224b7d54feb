use Rattle.std.proofs.Common.{refl, le_refl, le_trans}
use Rattle.std.proofs.lemmas.Result.{err_from_is_err_and}
use Rattle.tink_run.proofs.SealSteps.{begin_leaves, begin_refusal, leaves_late}
use Rattle.tink_run.proofs.RunSteps.{leaves_same}
use Rattle.tink_streaming_keys.specs.StreamKinds.{key_in_set}
use Rattle.tink_run.proofs.seal.seal.Goals as goal

pub returns-in_err-piece : goal.returns-in_err-piece
returns-in_err-piece g c =
    let p = err_from_is_err_and c.from_residual.result c.from_residual.ensures.1 in
    record {
      answer = rw (p.1, p.2, c.in_err-piece.ensures.refused) (record { untouched = refl; undrawn = refl });
      early = leaves_same c.from_residual.result c.args.source.now c.args.sink.now;
      later = record { reads = le_refl _; writes = le_refl _ };
      source = g.met.S.Source.same_refl _;
      sink = g.met.K.Sink.same_refl _;
    }

pub returns-in-Ok : goal.returns-in-Ok
returns-in-Ok g c =
    let begun = c.in-Ok.ensures in
    let sealed = c.seal_begun.ensures in
    record {
      answer = sealed.answer (key_in_set c.args.key.now) c.args.aad.now c.args.draws.now c.begin_stream.new.draws (g.K.Sink.got c.args.sink.now) (g.K.Sink.faults c.args.sink.now) begun.answer begun.later;
      early = leaves_late c.seal_begun.result c.args.source.now c.seal_begun.new.source c.args.sink.now c.seal_begun.new.sink sealed.early;
      later = record { reads = sealed.later.reads; writes = le_trans begun.later sealed.later.writes };
      source = sealed.source;
      sink = g.met.K.Sink.same_trans _ _ _ begun.same sealed.sink;
    }

pub returns : goal.returns
returns g c = record {
  answer = begin_refusal g.K.Sink.got g.K.Sink.faults (key_in_set c.args.key.now) c.args.aad.now c.args.draws.now c.begin_stream.new.draws c.args.sink.now c.begin_stream.new.sink
      (g.S.Source.left c.args.source.now) (g.S.Source.faults c.args.source.now) c.in-Err.error.kind c.not_begun.result c.not_begun.ensures c.in-Err.ensures.answer;
  early = begin_leaves g.K.Sink.got g.K.Sink.faults (key_in_set c.args.key.now) c.args.aad.now c.args.draws.now c.begin_stream.new.draws c.args.sink.now c.begin_stream.new.sink
      (g.S.Source.left c.args.source.now) (g.S.Source.faults c.args.source.now) c.args.source.now c.in-Err.error.kind c.not_begun.result c.not_begun.ensures c.in-Err.ensures.answer;
  later = record { reads = le_refl _; writes = c.in-Err.ensures.later };
  source = g.met.S.Source.same_refl c.args.source.now;
  sink = c.in-Err.ensures.same;
}

pub seal_begun-requires-clause-open : goal.seal_begun-requires-clause-open
seal_begun-requires-clause-open g c = c.in-Ok.ensures.answer.is_open

pub seal_begun-requires-clause-fresh : goal.seal_begun-requires-clause-fresh
seal_begun-requires-clause-fresh g c = c.in-Ok.ensures.answer.number

pub seal_begun-requires-clause-empty : goal.seal_begun-requires-clause-empty
seal_begun-requires-clause-empty g c = c.in-Ok.ensures.answer.held
