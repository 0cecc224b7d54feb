-- Why a text is refused.
use Rattle.serde_json.specs.Errors.{IsMemory}
use Rattle.serde_json.specs.declared.error.Error.{Error}
use Rattle.tink_proto.specs.declared.error.ProtoError.{ProtoError}
use Rattle.tink_proto.specs.declared.error.ProtoError.TheVariants.{BadMessage, BadJson, OutOfMemory}

-- why a text is no value: no memory, or the text
abbrev pub IsRefusal : Error → ProtoError → Type 0
IsRefusal error BadMessage = ⊥
IsRefusal error BadJson = ¬ IsMemory error
IsRefusal error OutOfMemory = IsMemory error
