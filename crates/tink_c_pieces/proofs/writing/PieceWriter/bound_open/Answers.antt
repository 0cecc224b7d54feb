use Rattle.std.proofs.Common.{◌≤◌, ◌+◌, ◌++◌, ℕ, zero, suc, true, inl, inr, length, ap, refl, ◌∙◌, arith, length-append}
use Rattle.stream_model.specs.Cut.{room_at}
use Rattle.tink_streaming_segment.specs.Sealers.{segment_map}
use Rattle.tink_io.specs.declared.error.Kind.TheVariants.{TooManySegments}
use Rattle.tink_io.specs.declared.error.TinkError.{TinkError}
use Rattle.tink_streaming_io.specs.Sealers.{held_text}
use Rattle.tink_streaming_io.proofs.WriterSteps.{room_some}
use Rattle.tink_c_bytes.specs.Statuses.{c_status}
use Rattle.tink_c_pieces.specs.Moments.{piece_moment}
use Rattle.tink_c_pieces.specs.Pieces.{filled, given, rest}
use Rattle.tink_c_pieces.proofs.DueFacts.{open_most}
use Rattle.tink_c_pieces.proofs.PutSteps.{segment_length}
use Rattle.tink_c_pieces.proofs.writing.PieceWriter.bound_open.Goals as goal

room_fits : (a b i : ℕ) → a ≤ b → room_at a b i ≤ b
room_fits a b zero p = p
room_fits a b (suc i) p = omega arith

pub returns-in-Err : goal.returns-in-Err
returns-in-Err g c =
    inr (record {
      kind = TooManySegments;
      refuses = (c.requires, c.in-Err.ensures.many);
      status_err = c.refuse.ensures.status ∙ ap (λ (e : TinkError). c_status e.kind) c.in-Err.ensures.kind;
      none = c.refuse.ensures.written;
    })

pub returns-in-Ok : goal.returns-in-Ok
returns-in-Ok g c =
    let self = c.args.self.now in
    let w = self.writer in
    let size : ℕ = w.sealer.room + w.sealer.overhead in
    let m = piece_moment self in
    let all = filled (segment_map w.sealer) w.sealer.first w.sealer.room m in
    let end = rest (segment_map w.sealer) w.sealer.first w.sealer.room m in
    inl (record {
      is_open = c.requires;
      status_ok = refl;
      length_is = λ piece long. let is = c.in-Ok.ensures.ok piece long in record { long = omega (arith, is.long); few = is.few };
      enough = λ piece long.
          let is = c.in-Ok.ensures.ok piece long in
          let some = room_some w.sealer.first w.sealer.room w.segments w.sealer.some w.sealer.first_fits in
          let last = open_most (room_at w.sealer.first w.sealer.room w.segments) w.sealer.room (held_text w ++ piece) some (room_fits w.sealer.first w.sealer.room w.segments w.sealer.first_fits) in
          let longer = segment_length w.sealer g.met.E.SegmentEncrypter.longer (w.segments + length (all piece)) true (end piece) in
          omega (arith, is.long, last, longer, length-append (given (segment_map w.sealer) w.sealer.first w.sealer.room m piece) (segment_map w.sealer (w.segments + length (all piece)) true (end piece)));
    })
