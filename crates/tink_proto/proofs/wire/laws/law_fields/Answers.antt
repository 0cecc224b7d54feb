use Rattle.wire_format.specs.GrammarLaws.{fields_are, are_fields}
use Rattle.tink_proto.proofs.wire.laws.law_fields.Goals as goal

pub returns : goal.returns
returns c = λ bytes fs. (are_fields bytes fs, fields_are bytes fs)
