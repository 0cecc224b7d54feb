-- Which keysets are valid.
use Rattle.std.specs.Prelude.{length, Bool, true, not, ◌&&◌, ◌||◌, nat_eq, nat_le, ℤ, pos, int_le, Option, Some, None, is_some, count_by, IsTrue}
use Rattle.std.specs.List.{list_any, list_all}
use Rattle.tink_proto.specs.declared.messages.keys.Key.{Key}
use Rattle.tink_proto.specs.declared.messages.keys.KeyData.{KeyData}
use Rattle.tink_proto.specs.declared.messages.keys.Keyset.{Keyset}
use Rattle.keyset_model.specs.Keys.{is_enabled, is_destroyed, is_public, is_enabled_with, enabled}

-- from the first number to the second, both included
abbrev pub is_from_to : ℤ → ℤ → ℤ → Bool
is_from_to low high n = int_le low n && int_le n high

abbrev pub is_known_material : Option KeyData → Bool
is_known_material None = true
is_known_material (Some d) = is_from_to (pos 0) (pos 4) d.key_material_type

-- The key has data unless it is destroyed.
abbrev pub has_its_data : Key → Bool
has_its_data k = is_some k.key_data || is_destroyed k

-- A key that a handle holds: it has data unless it is destroyed, and data has a material from 0 to 4.
abbrev pub fits_handle : Key → Bool
fits_handle k = has_its_data k && is_known_material k.key_data

-- The key has data unless it is destroyed, its id isn't 0, its prefix type is from 1 to 4, its status from 1 to 3.
abbrev pub is_well_formed : Key → Bool
is_well_formed k =
    has_its_data k && not (nat_eq k.key_id 0) && is_from_to (pos 1) (pos 4) k.output_prefix_type && is_from_to (pos 1) (pos 3) k.status

-- There is a key.
abbrev pub has_a_key : Keyset → Bool
has_a_key ks = not (nat_eq (length ks.key) 0)

-- Each key is well formed.
abbrev pub are_well_formed : Keyset → Bool
are_well_formed ks = list_all is_well_formed ks.key

-- At most one enabled key has the primary id.
abbrev pub has_at_most_one_primary : Keyset → Bool
has_at_most_one_primary ks = nat_le (count_by (is_enabled_with ks.primary_key_id) ks.key) 1

-- Some key is enabled.
abbrev pub has_an_enabled_key : Keyset → Bool
has_an_enabled_key ks = list_any is_enabled ks.key

-- An enabled key has the primary id.
abbrev pub has_a_primary : Keyset → Bool
has_a_primary ks = list_any (is_enabled_with ks.primary_key_id) ks.key

-- Every enabled key is public.
abbrev pub is_all_public : Keyset → Bool
is_all_public ks = list_all is_public (enabled ks)

-- The rule of a handle: each key may be held.
abbrev pub is_held_keyset : Keyset → Bool
is_held_keyset ks = list_all fits_handle ks.key

-- What validating a handle's keyset adds: there is a key, each is well formed, at most one enabled key has the primary
-- id, some key is enabled, and one enabled key has the primary id or every enabled key is public.
abbrev pub is_validated : Keyset → Bool
is_validated ks =
    has_a_key ks && are_well_formed ks && has_at_most_one_primary ks && has_an_enabled_key ks && (has_a_primary ks || is_all_public ks)

-- A valid keyset meets both.
abbrev pub is_valid : Keyset → Bool
is_valid ks = is_held_keyset ks && is_validated ks

abbrev pub FitsHandle : Keyset → Type 0
FitsHandle ks = IsTrue (is_held_keyset ks)

abbrev pub IsValidated : Keyset → Type 0
IsValidated ks = IsTrue (is_validated ks)

abbrev pub IsValid : Keyset → Type 0
IsValid ks = IsTrue (is_valid ks)
