-- Templates of keys.
use Rattle.std.specs.Prelude.{ℕ, List}
use Rattle.tink_proto.specs.declared.enums.OutputPrefixType.{OutputPrefixType}
use Rattle.tink_proto.specs.declared.messages.keys.KeyTemplate.{KeyTemplate}
use Rattle.tink_proto.specs.Enums.{prefix_number}
use Rattle.wire_format.specs.Columns.{Column}
use Rattle.wire_format.specs.Message.{encoded}

-- the template of keys of a URL by an encoded format
abbrev pub template_of : {F : Type 0} → List ℕ → Column F → F → OutputPrefixType → KeyTemplate
template_of url table format prefix = record { type_url = url; value = encoded table.write format; output_prefix_type = prefix_number prefix }
