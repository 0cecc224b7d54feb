use Rattle.std.proofs.Common.{sym, ◌∙◌, rules}
use Rattle.tink_keygen.proofs.RotatingSteps.{named_by_all}
use Rattle.tink_keygen.proofs.template_by_name.Goals as goal

pub returns-in-Some : goal.returns-in-Some
returns-in-Some c = sym (named_by_all c.args.registry.now c.args.name.now c.requires) ∙ c.in-Some.ensures.value

pub returns-in-None : goal.returns-in-None
returns-in-None c = (search rules, sym (named_by_all c.args.registry.now c.args.name.now c.requires) ∙ c.in-None.ensures.value)
