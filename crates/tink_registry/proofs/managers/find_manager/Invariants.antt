use Rattle.std.proofs.Common.{◌≡◌, drop}
use Rattle.tink_registry.specs.Listed.{manager_of}
use Rattle.tink_registry.proofs.managers.find_manager.Given as goal

-- the managers passed so far have other URLs
abbrev pub invariant-loop-m : goal.invariant-loop-m
invariant-loop-m g l = manager_of g.M.KeyManager.url l.url l.managers ≡ manager_of g.M.KeyManager.url l.url (drop l.m-index l.managers)
