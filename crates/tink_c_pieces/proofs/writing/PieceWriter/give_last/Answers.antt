use Rattle.std.proofs.Common.{◌≡◌, ◌+◌, ◌++◌, ℕ, List, true, inl, inr, length, drop, ap, refl, sym, ◌∙◌, arith, length-append}
use Rattle.tink_streaming_segment.specs.Sealers.{segment_map}
use Rattle.tink_streaming_io.specs.Sealers.{held_text}
use Rattle.tink_streaming_io.proofs.WriterSteps.{text_length}
use Rattle.tink_c_pieces.proofs.PutSteps.{one_more_put, segment_length}
use Rattle.tink_c_pieces.proofs.writing.PieceWriter.give_last.Goals as goal

pub returns-then-out-n-clause-answer : goal.returns-then-out-n-clause-answer
returns-then-out-n-clause-answer g c =
    let self = c.args.self.now in
    let w = self.writer in
    let one : List ℕ = segment_map w.sealer w.segments true (held_text w) in
    let size : length one ≡ w.filled + w.sealer.overhead = omega (arith, segment_length w.sealer g.met.E.SegmentEncrypter.longer w.segments true (held_text w), text_length w) in
    let all : c.len-at.result + (w.filled + w.sealer.overhead) ≡ length (self.front.items ++ one) = omega (arith, size, c.len-at.ensures, length-append self.front.items one) in
    inr (inl (record { bytes = self.front.items ++ one; gives = (refl, c.requires); status = refl; longer = omega (arith, all, c.if-out-n.true); unchanged = refl; counted = all }))

pub returns-clause-answer : goal.returns-clause-answer
returns-clause-answer g c =
    let self = c.args.self.now in
    let w = self.writer in
    let put = c.put.ensures in
    let one : List ℕ = segment_map w.sealer w.segments true (held_text w) in
    let size : length one ≡ w.filled + w.sealer.overhead = omega (arith, segment_length w.sealer g.met.E.SegmentEncrypter.longer w.segments true (held_text w), text_length w) in
    let at : c.len-at.result ≡ length self.front.items = omega (arith, c.len-at.ensures) in
    let all : c.len-at.result + (w.filled + w.sealer.overhead) ≡ length (self.front.items ++ one) = omega (arith, size, at, length-append self.front.items one) in
    let front : c.copy_from_slice.new.self ≡ self.front.items = c.copy_from_slice.ensures.after ∙ c.deref.ensures.value in
    inl (record {
      bytes = self.front.items ++ one;
      gives = (refl, record { was_open = c.requires; is_closed = put.mode; front = c.clear.ensures.items; held = put.held; counted = put.counted });
      status = refl;
      fits = omega (arith, all, c.if-out-n.false);
      filled = one_more_put self.front.items one (self.front.items ++ one) c.args.out.now _ c.put.new.out c.len-at.result c.put.result at (put.count ∙ sym size) refl
          (ap (λ x. x ++ drop c.len-at.result c.args.out.now) front ∙ ap (λ k. self.front.items ++ drop k c.args.out.now) at) put.put;
      counted = all;
    })
