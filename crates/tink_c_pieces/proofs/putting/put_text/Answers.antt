use Rattle.std.proofs.Common.{◌≡◌, ◌+◌, ◌-◌, ◌<◌, ◌≤◌, ◌^◌, ℕ, false, List, [], ◌∷◌, ◌++◌, length, take, drop, ap, sym, refl, ◌∙◌, arith, length-append, length-drop}
use Rattle.std.proofs.Math.ListN.{drop_of_length-le}
use Rattle.stream_model.specs.Cut.{room_at, unmarked}
use Rattle.tink_streaming_segment.specs.Sealers.{segment_map}
use Rattle.tink_streaming_io.specs.Sealers.{held_text}
use Rattle.tink_streaming_io.proofs.WriterSteps.{goes_on, is_full, more_rest, proceeds_at, proceeds_end, proceeds_start, proceeds_step, room_most, room_some, some_rest, stands, text_length, went_on, whole_rest, within_rest}
use Rattle.tink_c_pieces.proofs.PutSteps.{few_done, one_more_is, one_more_put, room_for, segment_length}
use Rattle.tink_c_pieces.proofs.putting.put_text.Goals as goal

pub loop-at-init : goal.loop-at-init
loop-at-init g c =
    let first = c.args.writer.now in
    let h = c.hold-at in
    let room : ℕ → ℕ = room_at first.sealer.first first.sealer.room in
    record {
      within = omega (arith, h.ensures.count);
      full = λ more. is_full (room first.segments) h.result first.filled h.new.writer.filled c.args.piece.now h.ensures.filled h.ensures.count first.held_fits more ∙ ap room (sym h.ensures.segments);
      is_open = h.ensures.mode ∙ c.requires.open;
      sealer = h.ensures.sealer;
      memory = h.ensures.memory;
      done = [];
      count = refl;
      put = refl;
      proceeds = proceeds_at first.sealer.first first.sealer.room first.segments _ [] first.segments _ _ _
          (proceeds_start first.sealer.first first.sealer.room first.segments (held_text first) c.args.piece.now h.result)
          h.ensures.segments (ap (λ x. x ++ drop h.result c.args.piece.now) h.ensures.held);
    }

pub put-to-requires-clause-more : goal.put-to-requires-clause-more
put-to-requires-clause-more g c = λ _.
    let first = c.args.writer.now in
    let w = c.loop-at.writer in
    let inv = c.loop-at.invariant in
    let some = room_some first.sealer.first first.sealer.room w.segments first.sealer.some first.sealer.first_fits in
    few_done first.segments w.segments inv.done (held_text w) _ _ (2 ^ 32) inv.proceeds.number
    (stands first.sealer.first first.sealer.room first.segments _ inv.done w.segments (held_text w) (drop c.loop-at.at c.args.piece.now) inv.proceeds
    (text_length w ∙ inv.full c.loop-at-test.true) (some_rest c.loop-at.at c.args.piece.now c.loop-at-test.true) some (room_most _ _ first.sealer.some first.sealer.first_fits)) c.requires.few

pub put-to-requires-clause-room : goal.put-to-requires-clause-room
put-to-requires-clause-room g c =
    let first = c.args.writer.now in
    let w = c.loop-at.writer in
    let inv = c.loop-at.invariant in
    let some = room_some first.sealer.first first.sealer.room w.segments first.sealer.some first.sealer.first_fits in
    let long = segment_length w.sealer g.met.E.SegmentEncrypter.longer w.segments false (held_text w) in
    let size : w.filled + w.sealer.overhead ≡ length (segment_map w.sealer w.segments false (held_text w)) = omega (arith, long, text_length w) in
    room_for (segment_map first.sealer) first.segments w.segments inv.done (held_text w) _ _ c.loop-at.to (w.filled + w.sealer.overhead) (length c.loop-at.out) inv.proceeds.number
    (stands first.sealer.first first.sealer.room first.segments _ inv.done w.segments (held_text w) (drop c.loop-at.at c.args.piece.now) inv.proceeds
    (text_length w ∙ inv.full c.loop-at-test.true) (some_rest c.loop-at.at c.args.piece.now c.loop-at-test.true) some (room_most _ _ first.sealer.some first.sealer.first_fits))
    inv.count (size ∙ ap (λ s. length (segment_map s w.segments false (held_text w))) inv.sealer) (omega (arith, c.requires.room, c.loop-at.auto.out))

pub loop-at-preserved : goal.loop-at-preserved
loop-at-preserved g c =
    let first = c.args.writer.now in
    let w = c.loop-at.writer in
    let inv = c.loop-at.invariant in
    let put = c.put-to.ensures in
    let then = c.put-to.new.writer in
    let h = c.hold-at-in-loop-at in
    let room : ℕ → ℕ = room_at first.sealer.first first.sealer.room in
    let rest : List ℕ = drop c.loop-at.at c.args.piece.now in
    let part : List ℕ = take (length c.args.piece.now - c.loop-at.at) rest in
    let part_is : part ≡ rest = whole_rest c.loop-at.at c.args.piece.now in
    let part_len : length part ≡ length c.args.piece.now - c.loop-at.at = ap length part_is ∙ length-drop c.loop-at.at c.args.piece.now in
    let held_full : length (held_text w) ≡ room w.segments = text_length w ∙ inv.full c.loop-at-test.true in
    let some : 0 < room w.segments = room_some first.sealer.first first.sealer.room w.segments first.sealer.some first.sealer.first_fits in
    let long = segment_length w.sealer g.met.E.SegmentEncrypter.longer w.segments false (held_text w) in
    let one : List ℕ = segment_map w.sealer w.segments false (held_text w) in
    let same : one ≡ segment_map first.sealer w.segments false (held_text w) = ap (λ s. segment_map s w.segments false (held_text w)) inv.sealer in
    let size : c.put-to.result ≡ length one = put.count ∙ omega (arith, long, text_length w) in
    let done : List ℕ = unmarked (segment_map first.sealer) first.segments inv.done in
    let all : unmarked (segment_map first.sealer) first.segments (inv.done ++ (held_text w) ∷ []) ≡ done ++ one =
    one_more_is (segment_map first.sealer) first.segments w.segments inv.done (held_text w) inv.proceeds.number ∙ ap (λ x. done ++ x) (sym same) in
    record {
      within = within_rest _ _ _ _ _ _ h.ensures.count part_len c.loop-at-test.true;
      full = λ more. is_full (room_at then.sealer.first then.sealer.room then.segments) h.result then.filled h.new.writer.filled part h.ensures.filled h.ensures.count then.held_fits
          (more_rest _ _ _ _ part_len more)
          ∙ ap (λ s. room_at s.first s.room then.segments) (put.sealer ∙ inv.sealer) ∙ ap room (sym h.ensures.segments);
      is_open = h.ensures.mode ∙ put.mode;
      sealer = h.ensures.sealer ∙ put.sealer ∙ inv.sealer;
      memory = h.ensures.memory ∙ put.memory ∙ inv.memory;
      done = inv.done ++ (held_text w) ∷ [];
      count = omega (arith, inv.count, size, ap length all, length-append done one);
      put = one_more_put done one _ c.args.out.now c.loop-at.out c.put-to.new.out c.loop-at.to c.put-to.result inv.count size all inv.put put.put;
      proceeds = proceeds_at first.sealer.first first.sealer.room first.segments _ (inv.done ++ (held_text w) ∷ []) (w.segments + 1) _ rest _
          (proceeds_step first.sealer.first first.sealer.room first.segments _ inv.done w.segments (held_text w) rest inv.proceeds held_full (some_rest c.loop-at.at c.args.piece.now c.loop-at-test.true) some (room_most _ _ first.sealer.some first.sealer.first_fits))
          (h.ensures.segments ∙ put.counted) (went_on c.loop-at.at h.result c.args.piece.now (held_text then) (held_text h.new.writer) part put.held h.ensures.held part_is);
    }

pub loop-at-smaller : goal.loop-at-smaller
loop-at-smaller g c =
    let piece = c.args.piece.now in
    let then = c.put-to.new.writer in
    let h = c.hold-at-in-loop-at in
    goes_on (length piece) c.loop-at.at h.result (room_at then.sealer.first then.sealer.room then.segments) then.filled (length (take (length piece - c.loop-at.at) (drop c.loop-at.at piece)))
    h.ensures.count (room_some then.sealer.first then.sealer.room then.segments then.sealer.some then.sealer.first_fits) c.put-to.ensures.filled
    (ap length (whole_rest c.loop-at.at piece) ∙ length-drop c.loop-at.at piece) c.loop-at-test.true

pub returns-clause-put : goal.returns-clause-put
returns-clause-put g c =
    let first = c.args.writer.now in
    let w = c.loop-at.writer in
    let inv = c.loop-at.invariant in
    let fits : length (held_text w) ≤ room_at first.sealer.first first.sealer.room w.segments =
    rw inv.sealer at (let f : length (held_text w) ≤ room_at w.sealer.first w.sealer.room w.segments = omega (arith, text_length w, w.held_fits) in f) in
    let done = proceeds_end first.sealer.first first.sealer.room first.segments _ inv.done w.segments (held_text w) (drop c.loop-at.at c.args.piece.now) inv.proceeds
    (drop_of_length-le c.args.piece.now {i = c.loop-at.at} (omega (arith, c.loop-at-test.false))) fits in
    inv.put ∙ ap (λ cs. unmarked (segment_map first.sealer) first.segments cs ++ drop (length (unmarked (segment_map first.sealer) first.segments cs)) c.args.out.now) done.0

pub returns-clause-took : goal.returns-clause-took
returns-clause-took g c =
    let first = c.args.writer.now in
    let w = c.loop-at.writer in
    let inv = c.loop-at.invariant in
    let fits : length (held_text w) ≤ room_at first.sealer.first first.sealer.room w.segments =
    rw inv.sealer at (let f : length (held_text w) ≤ room_at w.sealer.first w.sealer.room w.segments = omega (arith, text_length w, w.held_fits) in f) in
    let done = proceeds_end first.sealer.first first.sealer.room first.segments _ inv.done w.segments (held_text w) (drop c.loop-at.at c.args.piece.now) inv.proceeds
    (drop_of_length-le c.args.piece.now {i = c.loop-at.at} (omega (arith, c.loop-at-test.false))) fits in
    record { was_open = c.requires.open; is_open = inv.is_open; front = refl; held = done.1; counted = inv.proceeds.number ∙ ap (λ cs. first.segments + length cs) done.0; few = c.requires.few }
