use Rattle.std.proofs.Common.{rules, take, length, refl, sym, ap, ◌∙◌, arith, [], ◌∷◌, length-append, le_refl, le_trans, le_of_eq, lt_of_lt_of_le}
use Rattle.std.proofs.KnownBytes.{Keeps-refl}
use Rattle.std.proofs.lemmas.Result.{err_from_is_err_and}
use Rattle.std.specs.Io.KnownBytes.{prepend_known}
use Rattle.tink_streaming_io.specs.Reading.{ReaderMoment}
use Rattle.tink_run.proofs.ReadOut.{reading_first, reading_next, read_out, write_failed, next_refused, next_wrote, first_refused, still_running, some_first}
use Rattle.tink_streaming_aead.proofs.DecryptSteps.{reads_held}
use Rattle.tink_run.proofs.ReadsSteps.{first_reads, next_reads, write_reads}
use Rattle.tink_run.proofs.RunSteps.{leaves_sink_same}
use Rattle.tink_io.specs.Outside.{Outside}
use Rattle.tink_run.proofs.open.open_stream.Goals as goal

pub returns-in_err-open_first : goal.returns-in_err-open_first
returns-in_err-open_first g c = record {
  answer = (let p = err_from_is_err_and c.from_residual.result c.from_residual.ensures.1 in
      let before = c.args.reader.now in
      let after = c.open_first.new.reader in
      let m : ReaderMoment = record { progress = before.progress; number = before.segments; opened = before.opened.items; rest = prepend_known (take before.filled before.buffer.items) (g.S.Source.left c.args.source.now); faults = g.S.Source.faults c.args.source.now } in
      let n : ReaderMoment = record { progress = after.progress; number = after.segments; opened = after.opened.items; rest = prepend_known (take after.filled after.buffer.items) (g.S.Source.left c.open_first.new.source); faults = g.S.Source.faults c.open_first.new.source } in
      rw (p.1, p.2) (first_refused _ _ _ _ _ _ m n _ c.requires.fresh refl (le_refl _) (le_refl _) (Keeps-refl _) c.in_err-open_first.ensures.answer));
  read = (let p = err_from_is_err_and c.from_residual.result c.from_residual.ensures.1 in
      let before = c.args.reader.now in
      let after = c.open_first.new.reader in
      let m : ReaderMoment = record { progress = before.progress; number = before.segments; opened = before.opened.items; rest = prepend_known (take before.filled before.buffer.items) (g.S.Source.left c.args.source.now); faults = g.S.Source.faults c.args.source.now } in
      let n : ReaderMoment = record { progress = after.progress; number = after.segments; opened = after.opened.items; rest = prepend_known (take after.filled after.buffer.items) (g.S.Source.left c.open_first.new.source); faults = g.S.Source.faults c.open_first.new.source } in
      rw (p.1, p.2) (first_reads _ _ _ _ _ _ m n _ (some_first before.opener.some) (lt_of_lt_of_le (some_first before.opener.some) before.opener.first_fits) (Keeps-refl _) c.in_err-open_first.ensures.read c.in_err-open_first.ensures.answer));
  unwritten = leaves_sink_same c.from_residual.result c.args.sink.now;
  later = record { reads = c.in_err-open_first.ensures.later; writes = le_refl _ };
  source = c.in_err-open_first.ensures.same;
  sink = g.met.K.Sink.same_refl _;
}

pub returns-in_err-write_all : goal.returns-in_err-write_all
returns-in_err-write_all g c = record {
  answer = (let p = err_from_is_err_and c.from_residual-in_err-write_all.result c.from_residual-in_err-write_all.ensures.1 in
      rw (p.1, p.2, c.in_err-write_all.ensures.refused)
      (write_failed _ _ _ _ _ _ _ _ _ c.loop-bytes.invariant.reading (rw c.plaintext-text.ensures at c.in_err-write_all.ensures.prefix) c.loop-bytes.invariant.writes c.in_err-write_all.ensures.cause));
  read = (let p = err_from_is_err_and c.from_residual-in_err-write_all.result c.from_residual-in_err-write_all.ensures.1 in
      let opener = c.args.reader.now.opener in
      let reader = c.loop-bytes.reader in
      rw (p.1, p.2, c.in_err-write_all.ensures.refused)
      (write_reads _ _ _ _ _ _ _ _ _ (some_first opener.some) (lt_of_lt_of_le (some_first opener.some) opener.first_fits) c.loop-bytes.invariant.reading (rw c.plaintext-text.ensures at c.in_err-write_all.ensures.prefix)
      (reads_held _ reader.filled _ _ reader.buffer.items (Keeps-refl _) (le_trans reader.filled_in (le_of_eq c.loop-bytes.invariant.room)))));
  unwritten = search rules;
  later = record { reads = c.loop-bytes.invariant.reads; writes = le_trans c.loop-bytes.invariant.writes c.in_err-write_all.ensures.later };
  source = c.loop-bytes.invariant.same_source;
  sink = g.met.K.Sink.same_trans _ _ _ c.loop-bytes.invariant.same_sink c.in_err-write_all.ensures.same;
}

pub loop-bytes-init : goal.loop-bytes-init
loop-bytes-init g c = record {
  reading = reading_first _ _ _ _ _ _ c.requires.fresh c.in_ok-open_first.ensures.answer (omega (arith, c.open_first.ensures.small, c.open_first.new.reader.opened.ok.0));
  opener = c.open_first.ensures.opener;
  room = c.open_first.ensures.room;
  reads = c.open_first.ensures.later;
  writes = le_refl _;
  same_source = c.open_first.ensures.same;
  same_sink = g.met.K.Sink.same_refl c.args.sink.now;
}

pub returns-in-Ended : goal.returns-in-Ended
returns-in-Ended g c = record {
  answer = (let reader = c.loop-bytes.reader in
      read_out _ _ _ _ _ _ _ _ (take reader.filled reader.buffer.items) _ c.loop-bytes.invariant.reading (rw c.plaintext-text.ensures at c.in_ok-write_all.ensures.written)
      (sym c.in-Ended.ensures) refl c.segments.ensures (omega (arith, ap length c.plaintext-text.ensures)));
  read = tt;
  unwritten = tt;
  later = record { reads = c.loop-bytes.invariant.reads; writes = le_trans c.loop-bytes.invariant.writes c.in_ok-write_all.ensures.later };
  source = c.loop-bytes.invariant.same_source;
  sink = g.met.K.Sink.same_trans _ _ _ c.loop-bytes.invariant.same_sink c.in_ok-write_all.ensures.same;
}

pub loop-bytes-preserved : goal.loop-bytes-preserved
loop-bytes-preserved g c =
    let next = rw c.loop-bytes.invariant.opener at c.in_ok-open_next-in_default.ensures.answer in
    record {
      reading = rw c.plaintext-text.ensures (reading_next _ _ _ _ _ _ _ _ _ _ c.loop-bytes.invariant.reading (rw c.plaintext-text.ensures at c.in_ok-write_all.ensures.written) next
          (omega (arith, c.open_next.ensures.small, c.open_next.new.self.opened.ok.0)));
      opener = c.open_next.ensures.opener ∙ c.loop-bytes.invariant.opener;
      room = c.open_next.ensures.room ∙ c.loop-bytes.invariant.room;
      reads = le_trans c.loop-bytes.invariant.reads c.open_next.ensures.later;
      writes = le_trans c.loop-bytes.invariant.writes c.write_all.ensures.later;
      same_source = g.met.S.Source.same_trans _ _ _ c.loop-bytes.invariant.same_source c.open_next.ensures.same;
      same_sink = g.met.K.Sink.same_trans _ _ _ c.loop-bytes.invariant.same_sink c.write_all.ensures.same;
    }

pub returns-in_err-open_next-in_default : goal.returns-in_err-open_next-in_default
returns-in_err-open_next-in_default g c =
    let p = err_from_is_err_and c.from_residual-in_err-open_next-in_default.result c.from_residual-in_err-open_next-in_default.ensures.1 in
    let opener = c.args.reader.now.opener in
    let refused = rw c.loop-bytes.invariant.opener at c.in_err-open_next-in_default.ensures.answer in
    let reader = c.open_next.new.self in
    let before = c.loop-bytes.reader in
    let entry = c.args.reader.now in
    let m : ReaderMoment = record { progress = before.progress; number = before.segments; opened = before.opened.items; rest = prepend_known (take before.filled before.buffer.items) (g.S.Source.left c.loop-bytes.source); faults = g.S.Source.faults c.loop-bytes.source } in
    let n : ReaderMoment = record { progress = reader.progress; number = reader.segments; opened = reader.opened.items; rest = prepend_known (take reader.filled reader.buffer.items) (g.S.Source.left c.open_next.new.source); faults = g.S.Source.faults c.open_next.new.source } in
    let old : Outside = record { left = prepend_known (take entry.filled entry.buffer.items) (g.S.Source.left c.args.source.now); read_faults = g.S.Source.faults c.args.source.now; got = g.K.Sink.got c.args.sink.now; write_faults = g.K.Sink.faults c.args.sink.now } in
    let new : Outside = record { left = g.S.Source.left c.open_next.new.source; read_faults = g.S.Source.faults c.open_next.new.source; got = g.K.Sink.got c.write_all.new.sink; write_faults = g.K.Sink.faults c.write_all.new.sink } in
    let kind = c.in_err-open_next-in_default.field-0.0.kind in
    record {
      answer = rw (p.1, p.2) (next_refused _ _ _ _ old new _ m n _ kind (some_first opener.some) (lt_of_lt_of_le (some_first opener.some) opener.first_fits) c.loop-bytes.invariant.reading (rw c.plaintext-text.ensures at c.in_ok-write_all.ensures.written)
          c.loop-bytes.invariant.reads (le_refl _) refused);
      read = rw (p.1, p.2) (next_reads _ _ _ _ _ old new _ m n _ kind (some_first opener.some) (lt_of_lt_of_le (some_first opener.some) opener.first_fits) c.loop-bytes.invariant.reading (rw c.plaintext-text.ensures at c.in_ok-write_all.ensures.written)
          reader.filled reader.buffer.items (Keeps-refl _) (le_trans reader.filled_in (le_of_eq (c.open_next.ensures.room ∙ c.loop-bytes.invariant.room))) (rw c.loop-bytes.invariant.opener at c.in_err-open_next-in_default.ensures.short) refused);
      unwritten = rw (p.1, p.2) (next_wrote _ _ _ _ m n _ _ _ c.in_err-open_next-in_default.ensures.answer);
      later = record { reads = le_trans c.loop-bytes.invariant.reads c.open_next.ensures.later; writes = le_trans c.loop-bytes.invariant.writes c.write_all.ensures.later };
      source = g.met.S.Source.same_trans _ _ _ c.loop-bytes.invariant.same_source c.open_next.ensures.same;
      sink = g.met.K.Sink.same_trans _ _ _ c.loop-bytes.invariant.same_sink c.write_all.ensures.same;
    }

pub overflow_add-bytes : goal.overflow_add-bytes
overflow_add-bytes g c =
    let reading = c.loop-bytes.invariant.reading in
    omega (arith, reading.few, reading.small, reading.opened.number, length-append reading.texts (c.loop-bytes.reader.opened.items ∷ []), c.loop-bytes.reader.few, ap length c.plaintext-text.ensures)

pub open_next-requires : goal.open_next-requires
open_next-requires g c = record { running = still_running c.loop-bytes.reader.progress c.loop-bytes.invariant.reading.lives (λ ended. c.in_default.not-Ended (c.progress.ensures ∙ ended)) }

pub loop-bytes-smaller : goal.loop-bytes-smaller
loop-bytes-smaller g c = omega (arith, c.in_ok-open_next-in_default.ensures.answer.number, c.open_next.new.self.few)
