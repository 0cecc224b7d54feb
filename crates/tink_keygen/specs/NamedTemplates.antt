-- The registered templates under their names, and the data that they make.
use Rattle.std.specs.Prelude.{ℕ, List, Option, Result}
use Rattle.tink_io.specs.declared.error.Kind.{Kind}
use Rattle.tink_proto.specs.declared.messages.keys.KeyData.{KeyData}
use Rattle.tink_proto.specs.declared.messages.keys.KeyTemplate.{KeyTemplate}
use Rattle.tink_registry.specs.Listed.{template_of}
use Rattle.tink_keysets.specs.Managed.{data_by}
use Rattle.tink.specs.Managers.{row_of}
use Rattle.tink.specs.Registered.{with_everything}

-- the registered template of a name
unfoldable pub template_named : List ℕ → Option KeyTemplate
template_named name = template_of name with_everything.templates

-- the data of a new key by a template and the eleven managers, and the draws that are left
unfoldable pub data_by_all : KeyTemplate → List ℕ → Result KeyData Kind × List ℕ
data_by_all kt draws = data_by (λ m. (row_of m).url) (λ m. (row_of m).made_data) with_everything.managers kt draws
