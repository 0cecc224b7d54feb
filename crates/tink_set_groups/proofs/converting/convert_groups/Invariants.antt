use Rattle.tink_set_groups.proofs.ConvertingFacts.{IsConverting}
use Rattle.tink_set_groups.proofs.converting.convert_groups.Given as goal

abbrev pub invariant-loop-prefix : goal.invariant-loop-prefix
invariant-loop-prefix g l = IsConverting g.C.Convert.gives l.groups l.prefix-iterator l.out
