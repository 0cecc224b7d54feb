-- Words on the keys of a keyset. A status, a prefix type and a material are signed numbers, as the messages hold them.
use Rattle.std.specs.Prelude.{ℕ, List, map, filter, Bool, false, Option, Some, None, nat_eq, ◌&&◌}
use Rattle.std.specs.Ordering.{int_eq}
use Rattle.tink_proto.specs.declared.enums.KeyStatusType.{KeyStatusType}
use Rattle.tink_proto.specs.declared.enums.KeyStatusType.TheVariants.{Enabled, Destroyed}
use Rattle.tink_proto.specs.declared.enums.OutputPrefixType.TheVariants.{Raw}
use Rattle.tink_proto.specs.declared.enums.KeyMaterialType.TheVariants.{AsymmetricPublic}
use Rattle.tink_proto.specs.declared.messages.keys.Key.{Key}
use Rattle.tink_proto.specs.declared.messages.keys.KeyData.{KeyData}
use Rattle.tink_proto.specs.declared.messages.keys.Keyset.{Keyset}
use Rattle.tink_proto.specs.Enums.{status_number, prefix_number, material_number}

abbrev pub has_status : KeyStatusType → Key → Bool
has_status status k = int_eq k.status (status_number status)

abbrev pub is_enabled : Key → Bool
is_enabled k = has_status Enabled k

abbrev pub is_destroyed : Key → Bool
is_destroyed k = has_status Destroyed k

-- nothing stands before what the key makes
abbrev pub is_raw : Key → Bool
is_raw k = int_eq k.output_prefix_type (prefix_number Raw)

abbrev pub has_id : ℕ → Key → Bool
has_id id k = nat_eq k.key_id id

-- the key is enabled and has the id
abbrev pub is_enabled_with : ℕ → Key → Bool
is_enabled_with id k = is_enabled k && has_id id k

-- the ids of keys, in order
abbrev pub ids_of : List Key → List ℕ
ids_of keys = map (λ k. k.key_id) keys

abbrev pub is_public_data : Option KeyData → Bool
is_public_data None = false
is_public_data (Some d) = int_eq d.key_material_type (material_number AsymmetricPublic)

-- the key has data, and its material is public
abbrev pub is_public : Key → Bool
is_public k = is_public_data k.key_data

-- the enabled keys, in order
abbrev pub enabled : Keyset → List Key
enabled ks = filter is_enabled ks.key
