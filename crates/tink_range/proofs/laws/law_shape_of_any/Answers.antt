use Rattle.tink_range.proofs.ShapeFacts.{shape_of_any}
use Rattle.tink_range.proofs.laws.law_shape_of_any.Goals as goal

pub returns : goal.returns
returns c = shape_of_any
