use Rattle.std.proofs.Common.{rules, ◌+◌, ℕ, Some, length, refl, sym, ap, subst, ◌∙◌, arith}
use Rattle.stream_model.specs.Sealing.{chunk_count}
use Rattle.tink_streaming_io.specs.Openers.{reader_moment, segment_map}
use Rattle.tink_streaming_io.specs.Reading.{ReaderMoment}
use Rattle.tink_streaming_io.proofs.ReadingFacts.{not_running}
use Rattle.tink_large.specs.Large.{large_key, large_text}
use Rattle.tink_large.specs.Opening.{AllRemains}
use Rattle.tink_large.specs.Passing.{Passed-trans}
use Rattle.tink_large.specs.SealedText.{stream_left}
use Rattle.tink_large.proofs.LargeFacts.{length-large_text}
use Rattle.tink_large.proofs.OpeningSteps.{all_opened, not_refused, remains_next}
use Rattle.tink_large.proofs.SealedSteps.{cipher_longer}
use Rattle.tink_large.proofs.opening.open_all.Goals as goal

pub overflow_add-bytes : goal.overflow_add-bytes
overflow_add-bytes c =
    let o = c.args.reader.now.opener in
    let n : ℕ = c.args.source.now.n in
    let inv = c.segments.invariant in
    let before : ReaderMoment = reader_moment (λ s. Some (stream_left s)) (λ _. 0) c.segments.reader c.segments.source in
    let after : ReaderMoment = reader_moment (λ s. Some (stream_left s)) (λ _. 0) c.open_next.new.self c.open_next.new.source in
    let next = rw inv.opener at c.in-Ok.ensures.answer in
    let r = remains_next (segment_map o) o.first o.size o.overhead before after c.segments.bytes (length (large_text n)) (chunk_count large_key (large_text n)) (cipher_longer o.decrypter o.prefix.items o.nonce_size o.overhead o.overhead_is) inv.remains next in
    omega (arith, r.bytes_are, ap length c.plaintext.ensures, length-large_text n, c.requires.number)

pub segments-preserved : goal.segments-preserved
segments-preserved c =
    let o = c.args.reader.now.opener in
    let n : ℕ = c.args.source.now.n in
    let inv = c.segments.invariant in
    let before : ReaderMoment = reader_moment (λ s. Some (stream_left s)) (λ _. 0) c.segments.reader c.segments.source in
    let after : ReaderMoment = reader_moment (λ s. Some (stream_left s)) (λ _. 0) c.open_next.new.self c.open_next.new.source in
    let next = rw inv.opener at c.in-Ok.ensures.answer in
    let r = remains_next (segment_map o) o.first o.size o.overhead before after c.segments.bytes (length (large_text n)) (chunk_count large_key (large_text n)) (cipher_longer o.decrypter o.prefix.items o.nonce_size o.overhead o.overhead_is) inv.remains next in
    record {
      remains = subst (λ (k : ℕ). AllRemains (segment_map o) o.first o.size after.number after.rest (c.segments.bytes + k) n) (ap length (sym c.plaintext.ensures)) r;
      opener = c.open_next.ensures.opener ∙ inv.opener;
      lives = next.lives;
      ends = next.ends;
      passed = Passed-trans _ _ _ inv.passed c.open_next.ensures.same;
    }

pub unreachable-requires : goal.unreachable-requires
unreachable-requires c =
    let o = c.args.reader.now.opener in
    let n : ℕ = c.args.source.now.n in
    let inv = c.segments.invariant in
    let before : ReaderMoment = reader_moment (λ s. Some (stream_left s)) (λ _. 0) c.segments.reader c.segments.source in
    let after : ReaderMoment = reader_moment (λ s. Some (stream_left s)) (λ _. 0) c.open_next.new.self c.open_next.new.source in
    not_refused (segment_map o) o.first o.size o.overhead before after c.segments.bytes (length (large_text n)) (chunk_count large_key (large_text n)) _ (omega (arith, c.requires.overhead)) refl refl inv.remains (rw inv.opener at c.in-Err.ensures.answer)

pub returns-clause-bytes : goal.returns-clause-bytes
returns-clause-bytes c =
    let o = c.args.reader.now.opener in
    let inv = c.segments.invariant in
    let ended = not_running c.segments.reader.progress inv.lives (λ e. absurd (let t = c.segments-test.false in search rules)) in
    (all_opened (segment_map o) o.first o.size _ _ _ _ _ inv.remains (inv.ends ended)).0

pub returns-clause-segments : goal.returns-clause-segments
returns-clause-segments c =
    let o = c.args.reader.now.opener in
    let inv = c.segments.invariant in
    let ended = not_running c.segments.reader.progress inv.lives (λ e. absurd (let t = c.segments-test.false in search rules)) in
    (all_opened (segment_map o) o.first o.size _ _ _ _ _ inv.remains (inv.ends ended)).1
