use Rattle.std.proofs.Common.{refl, le_trans}
use Rattle.std.proofs.lemmas.Result.{err_from_is_err_and}
use Rattle.tink_run.proofs.SealSteps.{close_late, closed, not_closed, not_poured, pour_late}
use Rattle.tink_streaming_io.specs.Sealers.{held_text}
use Rattle.tink_run.proofs.seal.seal_begun.Goals as goal

pub returns-in_err-bytes : goal.returns-in_err-bytes
returns-in_err-bytes g c =
    let p = err_from_is_err_and c.from_residual.result c.from_residual.ensures.1 in
    record {
      answer = λ k aad draws left_draws got writes begun later. rw (p.1, p.2) (not_poured _ _ _ _ _ _ _ _ _ begun _ _ _ _ _ _ c.in_err-bytes.field-0.0 later c.in_err-bytes.ensures.answer);
      early = rw (p.1, p.2) (pour_late _ _ _ _ _ _ _ _ _ c.in_err-bytes.field-0.0.kind c.in_err-bytes.ensures.answer);
      later = record { reads = c.pour.ensures.read_count; writes = c.pour.ensures.write_count };
      source = c.pour.ensures.source;
      sink = c.pour.ensures.sink;
    }

pub returns-in_err-close : goal.returns-in_err-close
returns-in_err-close g c =
    let p = err_from_is_err_and c.from_residual-in_err-close.result c.from_residual-in_err-close.ensures.1 in
    let poured = c.in_ok-bytes.ensures in
    let r = rw poured.sealer at c.in_err-close.ensures.answer in
    record {
      answer = λ k aad draws left_draws got writes begun later. rw (p.1, p.2) (not_closed _ _ _ _ _ _ _ _ _ begun _ _ _ _ _ _
          (record { mode = c.close.new.self.mode; number = c.close.new.self.segments; held = held_text c.close.new.self; got = g.K.Sink.got c.close.new.sink; faults = g.K.Sink.faults c.close.new.sink })
          c.in_ok-bytes.bytes poured.answer.0 poured.answer.1 (le_trans later poured.write_count) c.in_err-close.field-0.0 r);
      early = rw (p.1, p.2) (close_late _ _ _ c.in_err-close.field-0.0.kind c.in_err-close.ensures.answer);
      later = record { reads = poured.read_count; writes = le_trans poured.write_count c.close.ensures.later };
      source = poured.source;
      sink = g.met.K.Sink.same_trans _ _ _ poured.sink c.close.ensures.same;
    }

pub returns : goal.returns
returns g c =
    let poured = c.in_ok-bytes.ensures in
    record {
      answer = λ k aad draws left_draws got writes begun later. closed _ _ _ _ _ _ _ _ _ begun _ _ _ _ _ _ _ _ poured.answer.0 poured.answer.1 (le_trans later poured.write_count)
          (rw poured.sealer at c.in_ok-close.ensures.answer) _ c.segments.ensures refl;
      early = tt;
      later = record { reads = poured.read_count; writes = le_trans poured.write_count c.close.ensures.later };
      source = poured.source;
      sink = g.met.K.Sink.same_trans _ _ _ poured.sink c.close.ensures.same;
    }
