use Rattle.std.proofs.Common.{◌≡◌, ◌+◌, ◌≤◌, fold, vec_len, vec_capacity}
use Rattle.std.specs.Vec.Iter.{into_iter_items, into_iter_len}
use Rattle.tink_registry.specs.Listed.{with_template}
use Rattle.tink_registry.proofs.templates.put_templates.Given as goal

-- what is left to put gives the whole, and there is room for it
abbrev pub invariant-loop-name : goal.invariant-loop-name
invariant-loop-name l =
    (fold with_template l.templates.items (into_iter_items l.name-iterator) ≡ fold with_template l.initial.templates.items l.fn.kts.items) ×
    (vec_len l.templates + into_iter_len l.name-iterator ≤ vec_capacity l.templates)
