use Rattle.keyset_model.proofs.FirstPlaces.{Passed}
use Rattle.keyset_model.proofs.places.place_of.Given as goal

abbrev pub invariant-loop-i : goal.invariant-loop-i
invariant-loop-i l = Passed l.keys l.id l.i
