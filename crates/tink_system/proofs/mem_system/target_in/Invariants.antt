use Rattle.std.proofs.Common.{◌≡◌, drop}
use Rattle.tink_system.specs.Memory.{target_of}
use Rattle.tink_system.proofs.mem_system.target_in.Given as goal

-- the link is in what is left, if there is one
abbrev pub invariant-links : goal.invariant-links
invariant-links l = target_of (drop l.link-index l.links) l.name ≡ target_of l.links l.name
