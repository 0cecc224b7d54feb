use Rattle.std.proofs.Common.{◌≡◌, inl, inr, sym, ap, decimal, refl}
use Rattle.tink_io.specs.Texts.{cause_number}
use Rattle.tink_io.proofs.ShownLemmas.{written_then}
use Rattle.tink_io.proofs.error.CauseDisplay.fmt.Goals as goal

pub returns-in-BadSegment-clause-writes : goal.returns-in-BadSegment-clause-writes
returns-in-BadSegment-clause-writes g c = λ plain ok.
    let words = c.in_ok-write_str.ensures.writes plain refl in
    let number : cause_number c.args.self.now ≡ decimal c.in-BadSegment.number =
    elim c.in-BadSegment.is [ inl is ↦ ap cause_number is | inr is ↦ ap cause_number is ] in
    written_then _ _ _ _ _ _ _ _ c.words.ensures (sym number) words (c.write.ensures.writes words.plain ok)
