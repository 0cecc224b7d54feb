use Rattle.std.proofs.Common.{◌≡◌, ◌<◌, ◌+◌, ◌++◌, ℕ, List, Bool, false, length, ap, sym, ◌∙◌, arith, length-append}
use Rattle.stream_model.specs.Cut.{full_chunks, room_at, unmarked}
use Rattle.tink_streaming_segment.specs.Sealers.{segment_map}
use Rattle.tink_streaming_io.specs.Sealers.{held_text}
use Rattle.tink_streaming_io.proofs.FullFacts.{are_full}
use Rattle.tink_streaming_io.proofs.WriterSteps.{room_most, room_some, text_length}
use Rattle.tink_c_pieces.specs.Due.{bytes_due, chunks_due}
use Rattle.tink_c_pieces.proofs.DueFacts.{bytes_counted, chunks_counted}
use Rattle.tink_c_pieces.proofs.PutSteps.{segment_length}
use Rattle.tink_c_pieces.proofs.writing.PieceWriter.length_of.Goals as goal

-- the chunks of the text that is held and a piece
counted : (now room filled more count : ℕ) (held piece : List ℕ) → 0 < now → 0 < room → length held ≡ filled → length piece ≡ more → count ≡ chunks_due now room (filled + more)
    → length (full_chunks now room (held ++ piece)) ≡ count
counted now room filled more count held piece p q h l is =
    let all : length (held ++ piece) ≡ filled + more = length-append held piece ∙ omega (arith, h, l) in
    chunks_counted now room (held ++ piece) p q ∙ ap (chunks_due now room) all ∙ sym is

pub returns-then-count-self-clause-kind : goal.returns-then-count-self-clause-kind
returns-then-count-self-clause-kind g c = c.new.ensures

pub returns-then-count-self-clause-many : goal.returns-then-count-self-clause-many
returns-then-count-self-clause-many g c = λ piece long.
    let w = c.args.self.now.writer in
    let some = room_some w.sealer.first w.sealer.room w.segments w.sealer.some w.sealer.first_fits in
    let is : c.chunks_due-count.result ≡ chunks_due (room_at w.sealer.first w.sealer.room w.segments) w.sealer.room (w.filled + c.args.more) =
    c.chunks_due-count.ensures ∙ ap (λ x. chunks_due x w.sealer.room (w.filled + c.args.more)) c.room_of-first.ensures in
    let count = counted (room_at w.sealer.first w.sealer.room w.segments) w.sealer.room w.filled c.args.more c.chunks_due-count.result (held_text w) piece some (room_most _ _ w.sealer.some w.sealer.first_fits) (text_length w) long is in
    omega (arith, count, c.if-count-self.true, w.open_few c.requires)

pub returns-clause-ok : goal.returns-clause-ok
returns-clause-ok g c = λ piece long.
    let w = c.args.self.now.writer in
    let now : ℕ = room_at w.sealer.first w.sealer.room w.segments in
    let seg : ℕ → Bool → List ℕ → List ℕ = segment_map w.sealer in
    let some : 0 < now = room_some w.sealer.first w.sealer.room w.segments w.sealer.some w.sealer.first_fits in
    let later = room_most _ _ w.sealer.some w.sealer.first_fits in
    let is : c.chunks_due-count.result ≡ chunks_due now w.sealer.room (w.filled + c.args.more) =
    c.chunks_due-count.ensures ∙ ap (λ x. chunks_due x w.sealer.room (w.filled + c.args.more)) c.room_of-first.ensures in
    let count = counted now w.sealer.room w.filled c.args.more c.chunks_due-count.result (held_text w) piece some later (text_length w) long is in
    let chunks : List (List ℕ) = full_chunks now w.sealer.room (held_text w ++ piece) in
    let longer : (i : ℕ) (t : List ℕ) → length (seg i false t) ≡ length t + w.sealer.overhead = λ i t. segment_length w.sealer g.met.E.SegmentEncrypter.longer i false t in
    let bytes : length (unmarked seg w.segments chunks) ≡ bytes_due (now + w.sealer.overhead) (w.sealer.room + w.sealer.overhead) (length chunks) =
    bytes_counted seg w.sealer.overhead longer now w.sealer.room w.segments chunks (are_full now w.sealer.room (held_text w ++ piece) some later) in
    let value : c.bytes_due.result ≡ bytes_due (now + w.sealer.overhead) (w.sealer.room + w.sealer.overhead) (length chunks) =
    c.bytes_due.ensures.value ∙ ap (λ x. bytes_due (x + w.sealer.overhead) (w.sealer.room + w.sealer.overhead) c.chunks_due-count.result) c.room_of-first.ensures
    ∙ ap (bytes_due (now + w.sealer.overhead) (w.sealer.room + w.sealer.overhead)) (sym count) in
    record {
      long = omega (arith, bytes, value, c.len.ensures, length-append c.args.self.now.front.items (unmarked seg w.segments chunks));
      few = omega (arith, count, c.if-count-self.false, w.open_few c.requires);
    }
