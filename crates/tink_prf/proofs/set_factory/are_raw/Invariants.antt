use Rattle.tink_prf.proofs.RawEntries.{HasLeft}
use Rattle.tink_prf.proofs.set_factory.are_raw.Given as goal

abbrev pub invariant-loop-prefix : goal.invariant-loop-prefix
invariant-loop-prefix g l = HasLeft l.groups l.prefix-iterator
