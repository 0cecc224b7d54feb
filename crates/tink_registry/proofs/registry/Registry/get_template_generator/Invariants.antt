use Rattle.std.proofs.Common.{◌≡◌, drop}
use Rattle.tink_registry.specs.Listed.{template_of}
use Rattle.tink_registry.proofs.registry.Registry.get_template_generator.Given as goal

-- the templates passed so far have other names
abbrev pub invariant-loop-t : goal.invariant-loop-t
invariant-loop-t g l = template_of l.name l.self.templates ≡ template_of l.name (drop l.t-index l.self.templates)
