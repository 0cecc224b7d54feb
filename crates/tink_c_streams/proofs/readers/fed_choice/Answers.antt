use Rattle.std.proofs.Common.{◌∙◌, arith, inl, inr, subst, sym}
use Rattle.tink_streaming_segment.specs.Keeping.{kept_bytes}
use Rattle.tink_streaming_segment.specs.Openers.{segment_map}
use Rattle.tink_c_pieces.specs.Readings.{piece_reading}
use Rattle.tink_c_streams.specs.Choices.{keys_of_choice}
use Rattle.tink_c_streams.specs.Readers.{ReadsOn}
use Rattle.tink_c_streams.proofs.ReaderSteps.{choice_begins, chose_for_good, chose_none, held_all, held_on}
use Rattle.tink_c_streams.proofs.readers.fed_choice.Goals as goal

pub returns-then-not-is_full : goal.returns-then-not-is_full
returns-then-not-is_full c =
    let old = c.args.choice in
    let new = c.hold-n.new.self in
    let h = c.hold-n.ensures in
    record {
      was_open = tt;
      is_open = tt;
      within = omega (arith, h.count);
      takes = λ keys came given r. record {
        reads = held_on old new c.args.piece.now c.hold-n.result h.keys h.data h.held keys came given r;
        moves = inl (held_all _ _ _ _ _ _ h.count (omega (arith, old.trial.kept.filled_in)) h.room h.filled (sym c.is_full.ensures ∙ c.if-not-is_full.true));
      };
    }

pub returns-in-Ok : goal.returns-in-Ok
returns-in-Ok c =
    let old = c.args.choice in
    let new = c.hold-n.new.self in
    let h = c.hold-n.ensures in
    let n = c.hold-n.result in
    let piece = c.args.piece.now in
    let t = c.in-Ok.text in
    let o = t.reader.opener in
    let b = c.in-Ok.ensures in
    let all = choice_begins new _ (sym c.is_full.ensures ∙ c.if-not-is_full.false) new.trial.kept.buffer.ok.0 new.room.sealed_room new.first in
    record {
      was_open = tt;
      is_open = b.progress;
      within = omega (arith, h.count);
      takes = λ keys came given r.
          let q = held_on old new piece n h.keys h.data h.held keys came given r in
          record {
            reads = (
              b.progress,
              subst (λ S. ReadsOn keys S given (segment_map o) o.first o.size o.overhead (piece_reading t)) q.1
                  (chose_for_good (keys_of_choice new) keys q.0 (kept_bytes new.trial.kept) given (segment_map o) o.first o.size o.overhead (piece_reading t) q.2 all b),
            );
            moves = inr (omega arith);
          };
    }

pub returns-in-Err : goal.returns-in-Err
returns-in-Err c =
    let old = c.args.choice in
    let new = c.hold-n.new.self in
    let h = c.hold-n.ensures in
    let all = choice_begins new _ (sym c.is_full.ensures ∙ c.if-not-is_full.false) new.trial.kept.buffer.ok.0 new.room.sealed_room new.first in
    λ keys came given r.
    let q = held_on old new c.args.piece.now c.hold-n.result h.keys h.data h.held keys came given r in
    chose_none (keys_of_choice new) keys came (kept_bytes new.trial.kept) c.args.piece.now c.hold-n.result c.in-Err.e.kind q.0 q.1 all c.in-Err.ensures
