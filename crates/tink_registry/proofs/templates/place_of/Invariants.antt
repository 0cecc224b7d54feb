use Rattle.std.proofs.Common.{◌≡◌, ◌++◌, take, drop}
use Rattle.tink_proto.specs.declared.messages.keys.KeyTemplate.{KeyTemplate}
use Rattle.tink_registry.specs.Listed.{with_template}
use Rattle.tink_registry.proofs.templates.place_of.Given as goal

-- the names passed so far come before
abbrev pub invariant-loop-i : goal.invariant-loop-i
invariant-loop-i l = (kt : KeyTemplate) → with_template l.templates (l.name, kt) ≡ take l.i l.templates ++ with_template (drop l.i l.templates) (l.name, kt)
