use Rattle.std.proofs.Common.{length, ap, ◌∙◌, arith}
use Rattle.stream_model.specs.Sealing.{chunk_count}
use Rattle.tink_large.specs.Large.{large_key, large_stream, large_text}
use Rattle.tink_large.specs.Passing.{Passed-trans}
use Rattle.tink_large.proofs.LargeFacts.{large_small}
use Rattle.tink_large.proofs.StartSteps.{read_whole}
use Rattle.tink_large.proofs.measuring.measure.Goals as goal

pub new-source-requires-clause-bounded : goal.new-source-requires-clause-bounded
new-source-requires-clause-bounded c =
    omega (arith, ap length (c.in_ok-writer.ensures.begun.stream c.args.n), large_small c.args.n c.args.draws.now (omega (arith, c.ranges.n.fits)))

pub returns-clause-measured : goal.returns-clause-measured
returns-clause-measured c =
    let b = c.in_ok-writer.ensures.begun in
    let made = c.new-source.ensures in
    let started = c.start_reading-reader.ensures in
    let opened = c.open_all-text.ensures in
    let done = c.into_measures.ensures in
    let number = started.same.number ∙ made.number in
    let whole = read_whole c.args.n c.args.draws.now c.new-source.result c.open_all-text.new.source (Passed-trans _ _ _ started.same opened.same) (made.left ∙ b.stream c.args.n) opened.end made.count made.hash in
    record {
      enough = b.enough;
      rest = b.rest;
      text = done.text ∙ opened.bytes ∙ ap (λ n. length (large_text n)) number;
      stream = done.stream ∙ whole.count;
      segments = done.segments ∙ c.segments.ensures ∙ opened.segments ∙ ap (λ n. chunk_count large_key (large_text n)) number;
      sha256 = done.sha256 (large_stream c.args.n c.args.draws.now) whole.hashed;
    }
