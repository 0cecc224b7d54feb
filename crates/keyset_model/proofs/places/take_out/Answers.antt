use Rattle.std.proofs.Common.{sym, ◌∙◌}
use Rattle.keyset_model.proofs.places.take_out.Goals as goal

pub returns : goal.returns
returns c = c.remove-key.ensures.items ∙ sym c.requires.left
