use Rattle.std.proofs.Common.{◌≡◌, inl, inr, sym, ap, decimal, refl}
use Rattle.tink_io.specs.Texts.{kind_rest}
use Rattle.tink_io.proofs.ShownLemmas.{written_then}
use Rattle.tink_io.proofs.error.KindDisplay.fmt.Goals as goal

pub returns-in-WrongStatus-clause-writes : goal.returns-in-WrongStatus-clause-writes
returns-in-WrongStatus-clause-writes g c = λ plain ok.
    let words = c.in_ok-write_str.ensures.writes plain refl in
    written_then _ _ _ _ _ _ _ _ c.words.ensures (sym (ap kind_rest c.in-WrongStatus.is)) words (c.write.ensures.writes words.plain ok)

pub returns-in-FailedBefore-clause-writes : goal.returns-in-FailedBefore-clause-writes
returns-in-FailedBefore-clause-writes g c = λ plain ok.
    let words = c.in_ok-write_str.ensures.writes plain refl in
    written_then _ _ _ _ _ _ _ _ c.words.ensures (sym (ap kind_rest c.in-FailedBefore.is)) words (c.write-in-FailedBefore.ensures.writes words.plain ok)

pub returns-in-BadSegment-clause-writes : goal.returns-in-BadSegment-clause-writes
returns-in-BadSegment-clause-writes g c = λ plain ok.
    let words = c.in_ok-write_str.ensures.writes plain refl in
    let number : kind_rest c.args.self.now ≡ decimal c.in-BadSegment.number =
    elim c.in-BadSegment.is [ inl is ↦ ap kind_rest is | inr is ↦ ap kind_rest is ] in
    written_then _ _ _ _ _ _ _ _ c.words.ensures (sym number) words (c.write-in-BadSegment.ensures.writes words.plain ok)
