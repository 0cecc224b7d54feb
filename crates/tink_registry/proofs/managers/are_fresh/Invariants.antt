use Rattle.std.proofs.Common.{◌≡◌, ◌++◌, take, drop}
use Rattle.tink_registry.specs.Listed.{are_all_fresh}
use Rattle.tink_registry.proofs.managers.are_fresh.Given as goal

-- what is left decides, the managers passed so far being old ones
abbrev pub invariant-loop-i : goal.invariant-loop-i
invariant-loop-i g l = are_all_fresh g.M.KeyManager.url l.old l.new ≡ are_all_fresh g.M.KeyManager.url (l.old ++ take l.i l.new) (drop l.i l.new)
