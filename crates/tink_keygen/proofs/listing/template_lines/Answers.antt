use Rattle.std.proofs.Common.{Ok, ap, subst, ◌∙◌}
use Rattle.tink_io.specs.Answering.{Answers}
use Rattle.tink.specs.declared.managers.Managers.{Managers}
use Rattle.tink_registry.specs.Listed.{names_of, Registered}
use Rattle.tink_keygen.specs.TemplateLines.{lines_of, template_lines}
use Rattle.tink_keygen.proofs.listing.template_lines.Goals as goal

pub returns : goal.returns
unfolding template_lines
returns c =
    subst (λ names. Answers c.lines_of.result (Ok (lines_of names)))
    (c.deref.ensures.value ∙ c.in_ok-names.ensures.names ∙ ap (λ (r : Registered Managers). names_of r.templates) c.in_ok-registry.ensures.ok) c.lines_of.ensures
