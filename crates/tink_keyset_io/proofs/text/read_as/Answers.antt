use Rattle.tink_keyset_io.proofs.ReadingLemmas.{told_of, whole}
use Rattle.tink_keyset_io.proofs.text.read_as.Goals as goal

pub returns-clause-answer : goal.returns-clause-answer
returns-clause-answer g c =
    let all = whole _ _ _ c.in_ok-text.ensures.text c.in_ok-text.ensures.end in
    c.decode.ensures.answer _ (told_of _ _ _ _ _ c.deref.ensures.value all c.in_ok-text.ensures.fits) _ _
