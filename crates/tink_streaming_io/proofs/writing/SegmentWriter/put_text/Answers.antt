use Rattle.std.proofs.Common.{◌≡◌, ◌+◌, ◌-◌, ◌<◌, ◌≤◌, ℕ, List, [], ◌∷◌, ◌++◌, length, take, drop, ap, sym, refl, ◌∙◌, arith, length-drop}
use Rattle.std.proofs.lemmas.Result.{err_from_is_err_and}
use Rattle.std.proofs.KnownBytes.{Appends-nil}
use Rattle.std.proofs.Math.ListN.{drop_of_length-le}
use Rattle.stream_model.specs.Cut.{room_at}
use Rattle.tink_streaming_io.specs.Sealers.{held_text, segment_map}
use Rattle.tink_streaming_io.proofs.WriterSteps.{proceeds_start, proceeds_step, proceeds_end, proceeds_at, stands, one_more, is_full, whole_rest, went_on, is_due, all_done, room_some, text_length, goes_on, later_on, more_rest, room_most, some_done, some_rest, within_rest}
use Rattle.tink_streaming_io.proofs.writing.SegmentWriter.put_text.Goals as goal

pub loop-at-init : goal.loop-at-init
loop-at-init g c =
    let self = c.args.self.now in
    let h = c.hold-at in
    let room : ℕ → ℕ = room_at self.sealer.first self.sealer.room in
    record {
      within = omega (arith, h.ensures.count);
      full = λ more. is_full (room self.segments) h.result self.filled h.new.self.filled c.args.buf.now h.ensures.filled h.ensures.count self.held_fits more ∙ ap room (sym h.ensures.segments);
      is_open = h.ensures.mode ∙ c.requires;
      sealer = h.ensures.sealer;
      memory = h.ensures.memory;
      done = [];
      written = Appends-nil _;
      proceeds = proceeds_at self.sealer.first self.sealer.room self.segments _ [] self.segments _ _ _
          (proceeds_start self.sealer.first self.sealer.room self.segments (held_text self) c.args.buf.now h.result)
          h.ensures.segments (ap (λ x. x ++ drop h.result c.args.buf.now) h.ensures.held);
      still = λ e. refl;
      later = omega arith;
      same = g.met.K.Sink.same_refl _;
    }

pub returns-then-self-eq-LAST_NUMBER-clause-answer : goal.returns-then-self-eq-LAST_NUMBER-clause-answer
returns-then-self-eq-LAST_NUMBER-clause-answer g c =
    let first = c.args.self.now in
    let self = c.loop-at.self in
    let inv = c.loop-at.invariant in
    let some = room_some first.sealer.first first.sealer.room self.segments first.sealer.some first.sealer.first_fits in
    let all = all_done first.segments self.segments inv.done (held_text self) _ _ inv.proceeds.number c.if-self-eq-LAST_NUMBER.true
    (stands first.sealer.first first.sealer.room first.segments _ inv.done self.segments (held_text self) (drop c.loop-at.at c.args.buf.now) inv.proceeds
    (text_length self ∙ inv.full c.loop-at-test.true) (some_rest c.loop-at.at c.args.buf.now c.loop-at-test.true) some (room_most _ _ first.sealer.some first.sealer.first_fits)) in
    rw c.new.ensures (record {
      was_open = c.requires;
      failed = refl;
      held = refl;
      many = all.0;
      counted = c.if-self-eq-LAST_NUMBER.true;
      appended = rw all.1 inv.written;
    })

pub returns-then-self-eq-LAST_NUMBER-clause-still : goal.returns-then-self-eq-LAST_NUMBER-clause-still
returns-then-self-eq-LAST_NUMBER-clause-still g c none =
    let first = c.args.self.now in
    let self = c.loop-at.self in
    let inv = c.loop-at.invariant in
    let some = room_some first.sealer.first first.sealer.room self.segments first.sealer.some first.sealer.first_fits in
    absurd (is_due first.sealer.first first.sealer.room first.segments _ inv.done self.segments (held_text self) (drop c.loop-at.at c.args.buf.now) inv.proceeds
    (text_length self ∙ inv.full c.loop-at-test.true) (some_rest c.loop-at.at c.args.buf.now c.loop-at-test.true) some (room_most _ _ first.sealer.some first.sealer.first_fits) none)

pub returns-in_err-put-clause-answer : goal.returns-in_err-put-clause-answer
returns-in_err-put-clause-answer g c =
    let p = err_from_is_err_and c.from_residual.result c.from_residual.ensures.1 in
    let first = c.args.self.now in
    let self = c.loop-at.self in
    let inv = c.loop-at.invariant in
    let put = c.in_err-put.ensures.answer in
    let some = room_some first.sealer.first first.sealer.room self.segments first.sealer.some first.sealer.first_fits in
    rw (p.1, p.2, put.kind) (record {
      was_open = c.requires;
      failed = put.failed;
      held = put.held;
      stops = record {
        done = inv.done;
        next = held_text self;
        more = _;
        split = stands first.sealer.first first.sealer.room first.segments _ inv.done self.segments (held_text self) (drop c.loop-at.at c.args.buf.now) inv.proceeds
            (text_length self ∙ inv.full c.loop-at-test.true) (some_rest c.loop-at.at c.args.buf.now c.loop-at-test.true) some (room_most _ _ first.sealer.some first.sealer.first_fits);
        counted = put.counted ∙ inv.proceeds.number;
        between = _;
        whole = inv.written;
        prefix = rw (inv.sealer, sym put.counted) at put.begun;
      };
      rose = omega (arith, put.rose);
    })

pub returns-in_err-put-clause-still : goal.returns-in_err-put-clause-still
returns-in_err-put-clause-still g c none =
    let first = c.args.self.now in
    let self = c.loop-at.self in
    let inv = c.loop-at.invariant in
    let some = room_some first.sealer.first first.sealer.room self.segments first.sealer.some first.sealer.first_fits in
    absurd (is_due first.sealer.first first.sealer.room first.segments _ inv.done self.segments (held_text self) (drop c.loop-at.at c.args.buf.now) inv.proceeds
    (text_length self ∙ inv.full c.loop-at-test.true) (some_rest c.loop-at.at c.args.buf.now c.loop-at-test.true) some (room_most _ _ first.sealer.some first.sealer.first_fits) none)

pub loop-at-preserved : goal.loop-at-preserved
loop-at-preserved g c =
    let first = c.args.self.now in
    let self = c.loop-at.self in
    let inv = c.loop-at.invariant in
    let put = c.in_ok-put.ensures in
    let done = put.answer in
    let then = c.put.new.self in
    let h = c.hold-at-in-loop-at in
    let room : ℕ → ℕ = room_at first.sealer.first first.sealer.room in
    let rest : List ℕ = drop c.loop-at.at c.args.buf.now in
    let part : List ℕ = take (length c.args.buf.now - c.loop-at.at) rest in
    let part_is : part ≡ rest = whole_rest c.loop-at.at c.args.buf.now in
    let part_len : length part ≡ length c.args.buf.now - c.loop-at.at = ap length part_is ∙ length-drop c.loop-at.at c.args.buf.now in
    let held_full : length (held_text self) ≡ room self.segments = text_length self ∙ inv.full c.loop-at-test.true in
    let some : 0 < room self.segments = room_some first.sealer.first first.sealer.room self.segments first.sealer.some first.sealer.first_fits in
    record {
      within = within_rest _ _ _ _ _ _ h.ensures.count part_len c.loop-at-test.true;
      full = λ more. is_full (room_at then.sealer.first then.sealer.room then.segments) h.result then.filled h.new.self.filled part h.ensures.filled h.ensures.count then.held_fits
          (more_rest _ _ _ _ part_len more)
          ∙ ap (λ s. room_at s.first s.room then.segments) (put.sealer ∙ inv.sealer) ∙ ap room (sym h.ensures.segments);
      is_open = h.ensures.mode ∙ done.mode;
      sealer = h.ensures.sealer ∙ put.sealer ∙ inv.sealer;
      memory = h.ensures.memory ∙ put.memory ∙ inv.memory;
      done = inv.done ++ (held_text self) ∷ [];
      written = one_more (segment_map first.sealer) _ _ _ first.segments self.segments inv.done (held_text self) inv.proceeds.number inv.written (rw inv.sealer at done.appended);
      proceeds = proceeds_at first.sealer.first first.sealer.room first.segments _ (inv.done ++ (held_text self) ∷ []) (self.segments + 1) _ rest _
          (proceeds_step first.sealer.first first.sealer.room first.segments _ inv.done self.segments (held_text self) rest inv.proceeds held_full (some_rest c.loop-at.at c.args.buf.now c.loop-at-test.true) some (room_most _ _ first.sealer.some first.sealer.first_fits))
          (h.ensures.segments ∙ done.counted) (went_on c.loop-at.at h.result c.args.buf.now (held_text then) (held_text h.new.self) part done.held h.ensures.held part_is);
      still = λ e. absurd (some_done inv.done (held_text self) e);
      later = later_on _ _ _ inv.later put.later;
      same = g.met.K.Sink.same_trans _ _ _ inv.same put.same;
    }

pub returns-clause-answer : goal.returns-clause-answer
returns-clause-answer g c =
    let first = c.args.self.now in
    let self = c.loop-at.self in
    let inv = c.loop-at.invariant in
    let fits : length (held_text self) ≤ room_at first.sealer.first first.sealer.room self.segments =
    rw inv.sealer at (let f : length (held_text self) ≤ room_at self.sealer.first self.sealer.room self.segments = omega (arith, text_length self, self.held_fits) in f) in
    let done = proceeds_end first.sealer.first first.sealer.room first.segments _ inv.done self.segments (held_text self) (drop c.loop-at.at c.args.buf.now) inv.proceeds
    (drop_of_length-le c.args.buf.now {i = c.loop-at.at} (omega arith)) fits in (
      record {
        was_open = c.requires;
        is_open = inv.is_open;
        appended = rw (← done.0) inv.written;
        held = done.1;
        counted = rw (← done.0) inv.proceeds.number;
        few = self.open_few inv.is_open;
      },
      refl,
    )

pub returns-clause-still : goal.returns-clause-still
returns-clause-still g c none =
    let first = c.args.self.now in
    let self = c.loop-at.self in
    let inv = c.loop-at.invariant in
    let fits : length (held_text self) ≤ room_at first.sealer.first first.sealer.room self.segments =
    rw inv.sealer at (let f : length (held_text self) ≤ room_at self.sealer.first self.sealer.room self.segments = omega (arith, text_length self, self.held_fits) in f) in
    let done = proceeds_end first.sealer.first first.sealer.room first.segments _ inv.done self.segments (held_text self) (drop c.loop-at.at c.args.buf.now) inv.proceeds
    (drop_of_length-le c.args.buf.now {i = c.loop-at.at} (omega arith)) fits in
    inv.still (ap length (done.0 ∙ none))

pub put-requires-clause-open : goal.put-requires-clause-open
put-requires-clause-open g c = c.loop-at.invariant.is_open

pub put-requires-clause-more : goal.put-requires-clause-more
put-requires-clause-more g c = λ _. omega (arith, c.loop-at.self.open_few c.loop-at.invariant.is_open, c.if-self-eq-LAST_NUMBER.false)

pub returns-then-self-eq-LAST_NUMBER-clause-sealer : goal.returns-then-self-eq-LAST_NUMBER-clause-sealer
returns-then-self-eq-LAST_NUMBER-clause-sealer g c = c.loop-at.invariant.sealer

pub returns-then-self-eq-LAST_NUMBER-clause-memory : goal.returns-then-self-eq-LAST_NUMBER-clause-memory
returns-then-self-eq-LAST_NUMBER-clause-memory g c = c.loop-at.invariant.memory

pub returns-then-self-eq-LAST_NUMBER-clause-later : goal.returns-then-self-eq-LAST_NUMBER-clause-later
returns-then-self-eq-LAST_NUMBER-clause-later g c = c.loop-at.invariant.later

pub returns-then-self-eq-LAST_NUMBER-clause-same : goal.returns-then-self-eq-LAST_NUMBER-clause-same
returns-then-self-eq-LAST_NUMBER-clause-same g c = c.loop-at.invariant.same

pub returns-clause-sealer : goal.returns-clause-sealer
returns-clause-sealer g c = c.loop-at.invariant.sealer

pub returns-clause-memory : goal.returns-clause-memory
returns-clause-memory g c = c.loop-at.invariant.memory

pub returns-clause-later : goal.returns-clause-later
returns-clause-later g c = c.loop-at.invariant.later

pub returns-clause-same : goal.returns-clause-same
returns-clause-same g c = c.loop-at.invariant.same

pub returns-in_err-put-clause-sealer : goal.returns-in_err-put-clause-sealer
returns-in_err-put-clause-sealer g c = c.in_err-put.ensures.sealer ∙ c.loop-at.invariant.sealer

pub returns-in_err-put-clause-memory : goal.returns-in_err-put-clause-memory
returns-in_err-put-clause-memory g c = c.in_err-put.ensures.memory ∙ c.loop-at.invariant.memory

pub returns-in_err-put-clause-later : goal.returns-in_err-put-clause-later
returns-in_err-put-clause-later g c = omega (arith, c.in_err-put.ensures.later, c.loop-at.invariant.later)

pub returns-in_err-put-clause-same : goal.returns-in_err-put-clause-same
returns-in_err-put-clause-same g c = g.met.K.Sink.same_trans _ _ _ c.loop-at.invariant.same c.in_err-put.ensures.same

pub loop-at-smaller : goal.loop-at-smaller
loop-at-smaller g c =
    let buf = c.args.buf.now in
    let then = c.put.new.self in
    let h = c.hold-at-in-loop-at in
    goes_on (length buf) c.loop-at.at h.result (room_at then.sealer.first then.sealer.room then.segments) then.filled (length (take (length buf - c.loop-at.at) (drop c.loop-at.at buf)))
    h.ensures.count (room_some then.sealer.first then.sealer.room then.segments then.sealer.some then.sealer.first_fits) (sym (text_length then) ∙ ap length c.in_ok-put.ensures.answer.held)
    (ap length (whole_rest c.loop-at.at buf) ∙ length-drop c.loop-at.at buf) c.loop-at-test.true
