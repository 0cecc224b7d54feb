-- What is told of the prefix of a key.
use Rattle.std.specs.Prelude.{ℤ, ℕ, List, Option, Some, None, Result, Ok, Err, if◌then◌else◌}
use Rattle.std.specs.Ordering.{int_eq}
use Rattle.tink_io.specs.declared.error.Kind.{Kind}
use Rattle.tink_io.specs.declared.error.Kind.TheVariants.{UnknownPrefix}
use Rattle.tink_proto.specs.declared.enums.OutputPrefixType.{OutputPrefixType}
use Rattle.tink_proto.specs.declared.enums.OutputPrefixType.TheVariants.{Tink, Legacy, Raw, Crunchy}
use Rattle.tink_proto.specs.declared.messages.keys.Key.{Key}
use Rattle.tink_proto.specs.Enums.{prefix_number}
use Rattle.keyset_model.specs.Entries.{output_prefix}

-- the prefix type of a number from 1 to 4
abbrev pub known_type : ℤ → Option OutputPrefixType
known_type number =
    if int_eq number (prefix_number Tink) then Some Tink
    else (if int_eq number (prefix_number Legacy) then Some Legacy
    else (if int_eq number (prefix_number Crunchy) then Some Crunchy
    else (if int_eq number (prefix_number Raw) then Some Raw else None)))

-- what is there, or `UnknownPrefix`
abbrev pub or_unknown : {T : Type 0} → Option T → Result T Kind
or_unknown None = Err UnknownPrefix
or_unknown (Some v) = Ok v

-- the prefix of a key, or `UnknownPrefix`
abbrev pub told_prefix : Key → Result (List ℕ) Kind
told_prefix k = or_unknown (output_prefix k)
