use Rattle.std.proofs.Common.{◌≡◌, ◌++◌, drop}
use Rattle.tink_io.specs.Answering.{made_of}
use Rattle.tink_set_groups.specs.Converting.{converted}
use Rattle.tink_set_groups.proofs.converting.convert_list.Given as goal

-- what was converted stands before what is left
abbrev pub invariant-loop-entry : goal.invariant-loop-entry
invariant-loop-entry g l = converted g.C.Convert.gives l.entries ≡ made_of (λ vs. l.out ++ vs) (converted g.C.Convert.gives (drop l.entry-index l.entries))
