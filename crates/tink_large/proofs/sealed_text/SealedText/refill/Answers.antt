use Rattle.std.proofs.Common.{length, ap, ◌∙◌, arith}
use Rattle.tink_large.proofs.SealedSteps.{last_left, piece_left}
use Rattle.tink_large.proofs.TextFacts.{length-text_from}
use Rattle.tink_large.proofs.sealed_text.SealedText.refill.Goals as goal

pub returns-then-rest-eq0-clause-left : goal.returns-then-rest-eq0-clause-left
returns-then-rest-eq0-clause-left c =
    let s = c.args.self.now in
    last_left s.n s.at s.writer c.seal_last.new.writer s.pending c.seal_last.new.pending c.requires.given (c.seal_last.ensures.kept.1 ∙ c.clear.ensures.given)
    c.seal_last.ensures.left (omega (arith, c.if-rest-eq0.true, c.text_length.ensures))

pub invariant_of-self-clause-bounded : goal.invariant_of-self-clause-bounded
invariant_of-self-clause-bounded c =
    let s = c.args.self.now in
    let left = last_left s.n s.at s.writer c.seal_last.new.writer s.pending c.seal_last.new.pending c.requires.given (c.seal_last.ensures.kept.1 ∙ c.clear.ensures.given)
    c.seal_last.ensures.left (omega (arith, c.if-rest-eq0.true, c.text_length.ensures)) in
    omega (arith, ap length left, s.bounded)

pub returns-clause-left : goal.returns-clause-left
returns-clause-left c =
    let s = c.args.self.now in
    piece_left s.n s.at s.writer c.seal_piece.new.writer s.pending c.seal_piece.new.pending c.requires.given (c.seal_piece.ensures.kept.1 ∙ c.clear.ensures.given)
    c.min-count.result c.deref.result.now c.seal_piece.ensures.left (c.deref.ensures.value ∙ c.fill_piece.ensures.text) (omega (arith, c.min-count.ensures, c.text_length.ensures, s.at_in))

pub invariant_of-self-2-clause-bounded : goal.invariant_of-self-2-clause-bounded
invariant_of-self-2-clause-bounded c =
    let s = c.args.self.now in
    let left = piece_left s.n s.at s.writer c.seal_piece.new.writer s.pending c.seal_piece.new.pending c.requires.given (c.seal_piece.ensures.kept.1 ∙ c.clear.ensures.given)
    c.min-count.result c.deref.result.now c.seal_piece.ensures.left (c.deref.ensures.value ∙ c.fill_piece.ensures.text) (omega (arith, c.min-count.ensures, c.text_length.ensures, s.at_in)) in
    omega (arith, ap length left, s.bounded)

pub invariant_of-self-2-clause-few : goal.invariant_of-self-2-clause-few
invariant_of-self-2-clause-few c is_open =
    let s = c.args.self.now in
    omega (arith, s.few c.requires.open, c.seal_piece.ensures.few, ap length c.deref.ensures.value, ap length c.fill_piece.ensures.text, length-text_from s.n s.at c.min-count.result)

pub seal_piece-requires-clause-piece : goal.seal_piece-requires-clause-piece
seal_piece-requires-clause-piece c =
    let s = c.args.self.now in
    omega (arith, s.wide, c.min-count.ensures, ap length c.deref.ensures.value, ap length c.fill_piece.ensures.text, length-text_from s.n s.at c.min-count.result)
