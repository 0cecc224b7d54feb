use Rattle.std.proofs.Common.{[], ◌∷◌, take, rules, refl, sym, ap, length, length-append, ◌∙◌, arith, le_refl, le_trans, le_of_eq, lt_of_lt_of_le}
use Rattle.std.proofs.KnownBytes.{Keeps-refl}
use Rattle.std.proofs.lemmas.Result.{err_from_is_err_and}
use Rattle.std.specs.Io.KnownBytes.{prepend_known}
use Rattle.tink_streaming_io.specs.Reading.{ReaderMoment}
use Rattle.tink_streaming_io.specs.Sealers.{held_text}
use Rattle.tink_streaming_io.specs.Writing.{WriterMoment}
use Rattle.tink_streaming_aead.proofs.DecryptSteps.{reads_held}
use Rattle.tink_run.proofs.ReadOut.{next_wrote, some_first}
use Rattle.tink_rewrap.proofs.PassSteps.{finish_wrote, finished, first_failed, front_failed, next_failed, one_more, text_refused, text_wrote, under_way}
use Rattle.tink_run.proofs.RunSteps.{leaves_sink_same}
use Rattle.tink_rewrap.proofs.rewrap.passing.pass.Goals as goal

pub returns-in_err-open_first : goal.returns-in_err-open_first
returns-in_err-open_first g c = record {
  answer = (let p = err_from_is_err_and c.from_residual.result c.from_residual.ensures.1 in
      let before = c.args.reader.now in
      let after = c.open_first.new.reader in
      let m : ReaderMoment = record { progress = before.progress; number = before.segments; opened = before.opened.items; rest = prepend_known (take before.filled before.buffer.items) (g.S.Source.left c.args.source.now); faults = g.S.Source.faults c.args.source.now } in
      let n : ReaderMoment = record { progress = after.progress; number = after.segments; opened = after.opened.items; rest = prepend_known (take after.filled after.buffer.items) (g.S.Source.left c.open_first.new.source); faults = g.S.Source.faults c.open_first.new.source } in
      let opener = before.opener in
      rw (p.1, p.2)
      (first_failed _ _ _ _ _ _ _ _ _ (some_first opener.some) (lt_of_lt_of_le (some_first opener.some) opener.first_fits) _ _ m n _ c.requires.first refl (le_refl _) (le_refl _) (Keeps-refl _) c.in_err-open_first.ensures.read
      c.in_err-open_first.ensures.answer));
  unwritten = leaves_sink_same c.from_residual.result c.args.sink.now;
  later = record { reads = c.open_first.ensures.later; writes = le_refl _ };
  source = c.open_first.ensures.same;
  sink = g.met.K.Sink.same_refl _;
}

pub returns-in_err-write : goal.returns-in_err-write
returns-in_err-write g c = record {
  answer = (let p = err_from_is_err_and c.from_residual-in_err-write.result c.from_residual-in_err-write.ensures.1 in
      let before = c.args.reader.now in
      let after = c.open_first.new.reader in
      let opener = before.opener in
      let m : ReaderMoment = record { progress = before.progress; number = before.segments; opened = before.opened.items; rest = prepend_known (take before.filled before.buffer.items) (g.S.Source.left c.args.source.now); faults = g.S.Source.faults c.args.source.now } in
      let n : ReaderMoment = record { progress = after.progress; number = after.segments; opened = after.opened.items; rest = prepend_known (take after.filled after.buffer.items) (g.S.Source.left c.open_first.new.source); faults = g.S.Source.faults c.open_first.new.source } in
      rw (p.1, p.2, c.in_err-write.ensures.refused)
      (front_failed _ _ _ _ _ _ _ _ _ (some_first opener.some) (lt_of_lt_of_le (some_first opener.some) opener.first_fits) _ _ m n c.requires.first refl c.in_ok-open_first.ensures.answer (omega (arith, c.open_first.ensures.small, after.opened.ok.0))
      (reads_held _ after.filled _ _ after.buffer.items (Keeps-refl _) (le_trans after.filled_in (le_of_eq c.open_first.ensures.room))) c.in_err-write.ensures.prefix c.in_err-write.ensures.cause));
  unwritten = search rules;
  later = record { reads = c.open_first.ensures.later; writes = c.write.ensures.later };
  source = c.open_first.ensures.same;
  sink = c.write.ensures.same;
}

pub loop-bytes-init : goal.loop-bytes-init
loop-bytes-init g c =
    let before = c.args.reader.now in
    let m : ReaderMoment = record { progress = before.progress; number = before.segments; opened = before.opened.items; rest = prepend_known (take before.filled before.buffer.items) (g.S.Source.left c.args.source.now); faults = g.S.Source.faults c.args.source.now } in
    record {
      under_way = under_way 0 _ _ _ 0 _ _ _ _ (some_first before.opener.some) (lt_of_lt_of_le (some_first before.opener.some) before.opener.first_fits) _ m _ _ c.requires.first refl c.in_ok-open_first.ensures.answer (omega (arith, c.open_first.ensures.small, c.open_first.new.reader.opened.ok.0))
          (record { mode = c.requires.open; number = c.requires.fresh; held = c.requires.empty }) c.in_ok-write.ensures.written c.write.ensures.later;
      opener = c.open_first.ensures.opener;
      room = c.open_first.ensures.room;
      sealer = refl;
      reads = c.open_first.ensures.later;
      writes = c.write.ensures.later;
      same_source = c.open_first.ensures.same;
      same_sink = c.write.ensures.same;
    }

pub returns-in_err-write-2 : goal.returns-in_err-write-2
returns-in_err-write-2 g c = record {
  answer = (let p = err_from_is_err_and c.from_residual-in_err-write-2.result c.from_residual-in_err-write-2.ensures.1 in
      let sealer = c.args.writer.now.sealer in
      let r = rw (c.loop-bytes.invariant.sealer, c.plaintext-text.ensures) at c.in_err-write-2.ensures.answer in
      let opener = c.args.reader.now.opener in
      let reader = c.loop-bytes.reader in
      rw (p.1, p.2)
      (text_refused _ _ _ _ _ _ _ _ _ (some_first opener.some) (lt_of_lt_of_le (some_first opener.some) opener.first_fits) _ _ _ _ c.loop-bytes.invariant.under_way sealer.some (lt_of_lt_of_le sealer.some sealer.first_fits) _ _ _ refl (le_refl _)
      (reads_held _ reader.filled _ _ reader.buffer.items (Keeps-refl _) (le_trans reader.filled_in (le_of_eq c.loop-bytes.invariant.room))) r));
  unwritten = (let p = err_from_is_err_and c.from_residual-in_err-write-2.result c.from_residual-in_err-write-2.ensures.1 in
      rw (p.1, p.2) (text_wrote _ _ _ _ _ _ _ _ _ c.in_err-write-2.ensures.answer));
  later = record { reads = c.loop-bytes.invariant.reads; writes = le_trans c.loop-bytes.invariant.writes c.write-in-loop-bytes.ensures.later };
  source = c.loop-bytes.invariant.same_source;
  sink = g.met.K.Sink.same_trans _ _ _ c.loop-bytes.invariant.same_sink c.write-in-loop-bytes.ensures.same;
}

pub overflow_add-bytes : goal.overflow_add-bytes
overflow_add-bytes g c =
    let reading = c.loop-bytes.invariant.under_way.reading in
    omega (arith, reading.few, reading.small, reading.opened.number, length-append reading.texts (c.loop-bytes.reader.opened.items ∷ []), c.loop-bytes.reader.few, ap length c.plaintext-text.ensures)

pub returns-in-Ended : goal.returns-in-Ended
returns-in-Ended g c = record {
  answer = (let sealer = c.args.writer.now.sealer in
      let reader = c.loop-bytes.reader in
      let written = c.write-in-loop-bytes.new.self in
      let v : WriterMoment = record { mode = written.mode; number = written.segments; held = held_text written; got = g.K.Sink.got c.write-in-loop-bytes.new.sink; faults = g.K.Sink.faults c.write-in-loop-bytes.new.sink } in
      let ended = c.finish.new.writer in
      let o : WriterMoment = record { mode = ended.mode; number = ended.segments; held = held_text ended; got = g.K.Sink.got c.finish.new.sink; faults = g.K.Sink.faults c.finish.new.sink } in
      let w = rw (c.loop-bytes.invariant.sealer, c.plaintext-text.ensures) at c.in_ok-write-2.ensures.answer in
      let r = rw (c.write-in-loop-bytes.ensures.sealer ∙ c.loop-bytes.invariant.sealer) at c.finish.ensures.answer in
      let opener = c.args.reader.now.opener in
      finished _ _ _ _ opener.overhead _ _ _ _ (some_first opener.some) (lt_of_lt_of_le (some_first opener.some) opener.first_fits) _ _ _ _ c.loop-bytes.invariant.under_way sealer.some (lt_of_lt_of_le sealer.some sealer.first_fits) v w.0 _
      (take reader.filled reader.buffer.items) (sym c.in-Ended.ensures) refl (reads_held _ reader.filled _ _ reader.buffer.items (Keeps-refl _) (le_trans reader.filled_in (le_of_eq c.loop-bytes.invariant.room))) o refl
      _ c.finish.result (omega (arith, ap length c.plaintext-text.ensures)) c.finish.ensures.later c.write-in-loop-bytes.ensures.later (le_refl _) r);
  unwritten = finish_wrote _ _ _ _ c.finish.result _ _ c.finish.ensures.answer;
  later = record { reads = c.loop-bytes.invariant.reads; writes = le_trans c.loop-bytes.invariant.writes (le_trans c.write-in-loop-bytes.ensures.later c.finish.ensures.later) };
  source = c.loop-bytes.invariant.same_source;
  sink = g.met.K.Sink.same_trans _ _ _ (g.met.K.Sink.same_trans _ _ _ c.loop-bytes.invariant.same_sink c.write-in-loop-bytes.ensures.same) c.finish.ensures.same;
}

pub loop-bytes-preserved : goal.loop-bytes-preserved
loop-bytes-preserved g c =
    let sealer = c.args.writer.now.sealer in
    let opener = c.args.reader.now.opener in
    let w = rw (c.loop-bytes.invariant.sealer, c.plaintext-text.ensures) at c.in_ok-write-2.ensures.answer in
    let next = rw c.loop-bytes.invariant.opener at c.in-Ok.ensures.answer in
    record {
      under_way = rw c.plaintext-text.ensures
          (one_more 0 _ _ _ 0 _ _ _ _ (some_first opener.some) (lt_of_lt_of_le (some_first opener.some) opener.first_fits) _ _ _ _ c.loop-bytes.invariant.under_way sealer.some (lt_of_lt_of_le sealer.some sealer.first_fits) _ _ w.0 c.write-in-loop-bytes.ensures.later next
          (omega (arith, c.open_next.ensures.small, c.open_next.new.self.opened.ok.0)));
      opener = c.open_next.ensures.opener ∙ c.loop-bytes.invariant.opener;
      room = c.open_next.ensures.room ∙ c.loop-bytes.invariant.room;
      sealer = c.write-in-loop-bytes.ensures.sealer ∙ c.loop-bytes.invariant.sealer;
      reads = le_trans c.loop-bytes.invariant.reads c.open_next.ensures.later;
      writes = le_trans c.loop-bytes.invariant.writes c.write-in-loop-bytes.ensures.later;
      same_source = g.met.S.Source.same_trans _ _ _ c.loop-bytes.invariant.same_source c.open_next.ensures.same;
      same_sink = g.met.K.Sink.same_trans _ _ _ c.loop-bytes.invariant.same_sink c.write-in-loop-bytes.ensures.same;
    }

pub returns-in-Err : goal.returns-in-Err
returns-in-Err g c = record {
  answer = (let sealer = c.args.writer.now.sealer in
      let opener = c.args.reader.now.opener in
      let w = rw (c.loop-bytes.invariant.sealer, c.plaintext-text.ensures) at c.in_ok-write-2.ensures.answer in
      let refused = rw c.loop-bytes.invariant.opener at c.in-Err.ensures.answer in
      let after = c.open_next.new.self in
      next_failed _ _ _ _ _ _ _ _ _ (some_first opener.some) (lt_of_lt_of_le (some_first opener.some) opener.first_fits) _ _ _ _ c.loop-bytes.invariant.under_way sealer.some (lt_of_lt_of_le sealer.some sealer.first_fits) _ _ _ _ refl
      c.loop-bytes.invariant.reads (le_refl _) after.filled after.buffer.items (Keeps-refl _) (le_trans after.filled_in (le_of_eq (c.open_next.ensures.room ∙ c.loop-bytes.invariant.room))) (rw c.loop-bytes.invariant.opener at c.in-Err.ensures.short) w.0 refused);
  unwritten = next_wrote _ _ _ _ _ _ _ _ _ c.in-Err.ensures.answer;
  later = record { reads = le_trans c.loop-bytes.invariant.reads c.open_next.ensures.later; writes = le_trans c.loop-bytes.invariant.writes c.write-in-loop-bytes.ensures.later };
  source = g.met.S.Source.same_trans _ _ _ c.loop-bytes.invariant.same_source (search (rules, g.met.S.Source.same_trans));
  sink = g.met.K.Sink.same_trans _ _ _ c.loop-bytes.invariant.same_sink c.write-in-loop-bytes.ensures.same;
}

pub loop-bytes-smaller : goal.loop-bytes-smaller
loop-bytes-smaller g c = omega (arith, c.in-Ok.ensures.answer.number, c.open_next.new.self.few)
