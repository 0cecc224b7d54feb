-- Small keysets, valid and not, by computing.
use Rattle.std.proofs.Common.{◌≡◌, ℕ, pos, List, [], ◌∷◌, None, true, false, refl}
use Rattle.tink_proto.specs.declared.messages.keys.Key.{Key}
use Rattle.tink_proto.specs.declared.messages.keys.Keyset.{Keyset}
use Rattle.keyset_model.specs.Validity.{is_valid, is_held_keyset, is_validated}
use Rattle.keyset_model.proofs.SmallKeys.{data_of, key, key_of}

abbrev keyset_of : ℕ → List Key → Keyset
keyset_of primary keys = record { primary_key_id = primary; key = keys }

one_key : is_valid (keyset_of 7 (key (pos 1) 7 ∷ [])) ≡ true
one_key = refl

no_key : is_valid (keyset_of 7 []) ≡ false
no_key = refl

id_zero : is_valid (keyset_of 7 (key (pos 1) 7 ∷ key (pos 2) 0 ∷ [])) ≡ false
id_zero = refl

prefix_zero : is_valid (keyset_of 7 (key (pos 1) 7 ∷ key_of (data_of (pos 1)) (pos 3) 8 (pos 0) ∷ [])) ≡ false
prefix_zero = refl

status_four : is_valid (keyset_of 7 (key (pos 1) 7 ∷ key (pos 4) 8 ∷ [])) ≡ false
status_four = refl

destroyed_without_data : is_valid (keyset_of 7 (key (pos 1) 7 ∷ key_of None (pos 3) 8 (pos 1) ∷ [])) ≡ true
destroyed_without_data = refl

disabled_without_data : is_valid (keyset_of 7 (key (pos 1) 7 ∷ key_of None (pos 2) 8 (pos 1) ∷ [])) ≡ false
disabled_without_data = refl

-- material 0 is known, 5 is not, and that is the handle's rule
material_zero : is_valid (keyset_of 7 (key_of (data_of (pos 0)) (pos 1) 7 (pos 3) ∷ [])) ≡ true
material_zero = refl

material_five : is_held_keyset (keyset_of 7 (key (pos 1) 7 ∷ key_of (data_of (pos 5)) (pos 3) 8 (pos 3) ∷ [])) ≡ false
material_five = refl

material_five_validated : is_validated (keyset_of 7 (key (pos 1) 7 ∷ key_of (data_of (pos 5)) (pos 3) 8 (pos 3) ∷ [])) ≡ true
material_five_validated = refl

two_primaries : is_valid (keyset_of 7 (key (pos 1) 7 ∷ key (pos 1) 7 ∷ [])) ≡ false
two_primaries = refl

-- equal ids otherwise are fine
equal_ids : is_valid (keyset_of 7 (key (pos 1) 7 ∷ key (pos 2) 7 ∷ key (pos 1) 8 ∷ key (pos 1) 8 ∷ [])) ≡ true
equal_ids = refl

none_enabled : is_valid (keyset_of 7 (key (pos 2) 7 ∷ [])) ≡ false
none_enabled = refl

no_primary : is_valid (keyset_of 7 (key (pos 1) 8 ∷ [])) ≡ false
no_primary = refl

-- all enabled keys are public; the disabled one need not be
all_public : is_valid (keyset_of 7 (key_of (data_of (pos 3)) (pos 1) 8 (pos 3) ∷ key (pos 2) 9 ∷ [])) ≡ true
all_public = refl
