use Rattle.std.proofs.Common.{Some, sym, ap, ◌∙◌}
use Rattle.tink_set_groups.proofs.groups.group_at.Goals as goal

pub returns-in-None : goal.returns-in-None
returns-in-None g c = record { value = sym c.in-None.ensures.value }

pub returns-in-Some : goal.returns-in-Some
returns-in-Some g c = record { value = sym c.in-Some.ensures.value ∙ ap Some (sym c.as_slice.ensures) }
