use Rattle.std.proofs.Common.{◌≡◌, map, take}
use Rattle.tink_registry.proofs.registry.Registry.template_names.Given as goal

-- the names so far
abbrev pub invariant-loop-t : goal.invariant-loop-t
invariant-loop-t g l = l.names.items ≡ map (λ t. t.0) (take l.t-index l.self.templates)
