-- What stands before what a key makes, and the entries of a set: the enabled keys in order, each with its prefix.
use Rattle.std.specs.Prelude.{ℕ, ℤ, pos, List, [], ◌∷◌, map, filter, Bool, Option, Some, None, unwrap_or, if◌then◌else◌}
use Rattle.std.specs.Int.{w32, to_be_bytes}
use Rattle.std.specs.Ordering.{int_eq}
use Rattle.std.specs.Str.{bytes_eq}
use Rattle.tink_proto.specs.declared.enums.OutputPrefixType.TheVariants.{Tink, Legacy, Raw, Crunchy}
use Rattle.tink_proto.specs.declared.messages.keys.Key.{Key}
use Rattle.tink_proto.specs.declared.messages.keys.Keyset.{Keyset}
use Rattle.tink_proto.specs.Enums.{prefix_number}
use Rattle.keyset_model.specs.Keys.{enabled}
use Rattle.keyset_model.specs.Validity.{is_from_to}

abbrev pub is_known_prefix : ℤ → Bool
is_known_prefix prefix = is_from_to (pos 1) (pos 4) prefix

-- one byte and an id in four bytes, the greatest place first
abbrev pub byte_and_id : ℕ → ℕ → List ℕ
byte_and_id byte id = byte ∷ to_be_bytes w32 id

-- the prefix of a type and an id; none where the type is unknown
abbrev pub prefix_of : ℤ → ℕ → Option (List ℕ)
prefix_of prefix id =
    if int_eq prefix (prefix_number Tink) then Some (byte_and_id 1 id)
    else (if int_eq prefix (prefix_number Legacy) then Some (byte_and_id 0 id)
    else (if int_eq prefix (prefix_number Crunchy) then Some (byte_and_id 0 id)
    else (if int_eq prefix (prefix_number Raw) then Some [] else None)))

abbrev pub output_prefix : Key → Option (List ℕ)
output_prefix k = prefix_of k.output_prefix_type k.key_id

-- an enabled key and its prefix, which a key of a validated keyset has
pub record Entry : Type 0 where
  pub prefix : List ℕ
  pub key : Key

abbrev pub entry_of : Key → Entry
entry_of k = record { prefix = unwrap_or (output_prefix k) []; key = k }

abbrev pub entries : Keyset → List Entry
entries ks = map entry_of (enabled ks)

-- the entries of a prefix, in order
abbrev pub entries_for_prefix : List ℕ → Keyset → List Entry
entries_for_prefix prefix ks = filter (λ e. bytes_eq e.prefix prefix) (entries ks)
