use Rattle.std.proofs.Common.{◌≡◌, fold, subst, sym, rules}
use Rattle.tink_registry.specs.Listed.{names_of, AreRising, with_template}
use Rattle.tink_registry.proofs.Rising.{rising_with_all}
use Rattle.tink_registry.proofs.registry.Registry.register_all.Goals as goal

pub invariant_of-self-2 : goal.invariant_of-self-2
invariant_of-self-2 g c =
    let put : c.put_templates.new.templates.items ≡ fold with_template c.self.inside.templates.items c.args.kts.items = search rules in
    subst (λ l. AreRising (names_of l)) (sym put) (rising_with_all c.args.kts.items c.self.inside.templates.items c.self.invariant)
