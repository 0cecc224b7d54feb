use Rattle.std.proofs.Common.{◌≡◌, ◌∙◌, ap, subst, sym, rules}
use Rattle.tink_registry.specs.Listed.{names_of, AreRising, template_of, with_template}
use Rattle.tink_registry.proofs.Rising.{rising_with, template_of-with}
use Rattle.tink_registry.proofs.registry.Registry.register_template_generator.Goals as goal

pub invariant_of-self-2 : goal.invariant_of-self-2
invariant_of-self-2 g c =
    let put : c.put_template.new.templates.items ≡ with_template c.self.inside.templates.items (c.in_ok-name.name, c.args.kt) = search rules in
    subst (λ l. AreRising (names_of l)) (sym put) (rising_with c.in_ok-name.name c.args.kt c.self.inside.templates.items c.self.invariant)

pub returns-clause-found : goal.returns-clause-found
returns-clause-found g c =
    let put : c.put_template.new.templates.items ≡ with_template c.args.self.now.templates (c.args.name.now, c.args.kt) = search rules in
    λ n. ap (template_of n) put ∙ template_of-with c.args.name.now n c.args.kt c.args.self.now.templates
