use Rattle.std.proofs.Common.{rules, refl, arith, vec_len}
use Rattle.tink_streaming_io.specs.Openers.{reader_moment, segment_map}
use Rattle.tink_streaming_io.specs.Reading.{ReaderMoment}
use Rattle.tink_run.proofs.ReadsSteps.{failed_by_source, first_failed, held_first, refused_reads}
use Rattle.tink_run.proofs.open.open_first.Goals as goal

pub returns-in-Err-ReadFault-clause-read : goal.returns-in-Err-ReadFault-clause-read
returns-in-Err-ReadFault-clause-read g c =
    let self = c.args.reader.now in
    let reader = c.open_next.new.self in
    let o = self.opener in
    let m : ReaderMoment = reader_moment g.S.Source.left g.S.Source.faults self c.args.source.now in
    let n : ReaderMoment = reader_moment g.S.Source.left g.S.Source.faults reader c.open_next.new.source in
    rw c.new.ensures
    (refused_reads o.first reader.filled (segment_map o) o.first o.size o.overhead m n c.in-Err-ReadFault.field-0.kind reader.buffer.items (g.S.Source.left c.open_next.new.source) refl
    (held_first o.first o.size self.segments reader.filled c.in-Err-ReadFault.field-0.kind c.requires.fresh (search rules) c.in-Err-ReadFault.ensures.short) c.in-Err-ReadFault.ensures.answer)

pub returns-in-Err-ReadFault-clause-failed : goal.returns-in-Err-ReadFault-clause-failed
returns-in-Err-ReadFault-clause-failed g c =
    rw c.new.ensures (failed_by_source _ _ _ _ _ _ c.in-Err-ReadFault.field-0.kind (search rules) c.in-Err-ReadFault.ensures.answer)

pub returns-in-Err-ReadFault-clause-opener : goal.returns-in-Err-ReadFault-clause-opener
returns-in-Err-ReadFault-clause-opener g c = c.open_next.ensures.opener

pub returns-in-Err-ReadFault-clause-memory : goal.returns-in-Err-ReadFault-clause-memory
returns-in-Err-ReadFault-clause-memory g c = c.open_next.ensures.memory

pub returns-in-Err-ReadFault-clause-small : goal.returns-in-Err-ReadFault-clause-small
returns-in-Err-ReadFault-clause-small g c = c.open_next.ensures.small

pub returns-in-Err-ReadFault-clause-room : goal.returns-in-Err-ReadFault-clause-room
returns-in-Err-ReadFault-clause-room g c = c.open_next.ensures.room

pub returns-in-Err-ReadFault-clause-later : goal.returns-in-Err-ReadFault-clause-later
returns-in-Err-ReadFault-clause-later g c = c.open_next.ensures.later

pub returns-in-Err-ReadFault-clause-same : goal.returns-in-Err-ReadFault-clause-same
returns-in-Err-ReadFault-clause-same g c = c.open_next.ensures.same

pub returns-in-Err-clause-read : goal.returns-in-Err-clause-read
returns-in-Err-clause-read g c =
    let self = c.args.reader.now in
    let reader = c.open_next.new.self in
    let o = self.opener in
    let m : ReaderMoment = reader_moment g.S.Source.left g.S.Source.faults self c.args.source.now in
    let n : ReaderMoment = reader_moment g.S.Source.left g.S.Source.faults reader c.open_next.new.source in
    rw c.new-in-Err.ensures
    (refused_reads (vec_len self.buffer) reader.filled (segment_map o) o.first o.size o.overhead m n c.in-Err.field-0.kind reader.buffer.items (g.S.Source.left c.open_next.new.source) refl
    (omega (arith, reader.filled_in, c.open_next.ensures.room)) c.in-Err.ensures.answer)

pub returns-in-Err-clause-failed : goal.returns-in-Err-clause-failed
returns-in-Err-clause-failed g c =
    let self = c.args.reader.now in
    let reader = c.open_next.new.self in
    let o = self.opener in
    let m : ReaderMoment = reader_moment g.S.Source.left g.S.Source.faults self c.args.source.now in
    let n : ReaderMoment = reader_moment g.S.Source.left g.S.Source.faults reader c.open_next.new.source in
    rw c.new-in-Err.ensures (first_failed (segment_map o) o.first o.size o.overhead m n c.in-Err.field-0.kind c.requires.fresh (search rules) c.in-Err.ensures.answer)

pub returns-in-Err-clause-opener : goal.returns-in-Err-clause-opener
returns-in-Err-clause-opener g c = c.open_next.ensures.opener

pub returns-in-Err-clause-memory : goal.returns-in-Err-clause-memory
returns-in-Err-clause-memory g c = c.open_next.ensures.memory

pub returns-in-Err-clause-small : goal.returns-in-Err-clause-small
returns-in-Err-clause-small g c = c.open_next.ensures.small

pub returns-in-Err-clause-room : goal.returns-in-Err-clause-room
returns-in-Err-clause-room g c = c.open_next.ensures.room

pub returns-in-Err-clause-later : goal.returns-in-Err-clause-later
returns-in-Err-clause-later g c = c.open_next.ensures.later

pub returns-in-Err-clause-same : goal.returns-in-Err-clause-same
returns-in-Err-clause-same g c = c.open_next.ensures.same

pub returns-in-Ok : goal.returns-in-Ok
returns-in-Ok g c = record {
  answer = c.in-Ok.ensures.answer;
  failed = tt;
  opener = c.open_next.ensures.opener;
  memory = c.open_next.ensures.memory;
  small = c.open_next.ensures.small;
  read = tt;
  room = c.open_next.ensures.room;
  later = c.open_next.ensures.later;
  same = c.open_next.ensures.same;
}
