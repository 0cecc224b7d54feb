-- Small edits, by computing.
use Rattle.std.proofs.Common.{◌≡◌, pos, List, [], ◌∷◌, Some, None, true, false, Ok, Err, refl}
use Rattle.tink_io.specs.declared.error.Kind.TheVariants.{KeyNotFound, IsPrimary, WrongStatus, NotEnabled, RandomFault, NoFreshId}
use Rattle.tink_proto.specs.declared.messages.keys.Key.{Key}
use Rattle.tink_proto.specs.declared.messages.keys.KeyData.{KeyData}
use Rattle.tink_proto.specs.declared.messages.keys.KeyTemplate.{KeyTemplate}
use Rattle.tink_proto.specs.declared.messages.keys.Keyset.{Keyset}
use Rattle.keyset_model.specs.Operations.{Add, Destroy, Disable, SetPrimary, after_all}
use Rattle.keyset_model.specs.Edits.{enable, disable, destroy, delete, set_primary}
use Rattle.keyset_model.specs.Adding.{fresh_id}
use Rattle.keyset_model.specs.Entries.{output_prefix}
use Rattle.keyset_model.specs.Secrets.{has_secrets}
use Rattle.keyset_model.proofs.SmallKeys.{data_of, key, key_of}

abbrev keyset_of : List Key → Keyset
keyset_of keys = record { primary_key_id = 7; key = keys }

-- two keys have the id: the first is edited, the second stays
disabled_first : disable (keyset_of (key (pos 1) 7 ∷ key (pos 1) 8 ∷ key (pos 1) 8 ∷ [])) 8 ≡ Ok (keyset_of (key (pos 1) 7 ∷ key (pos 2) 8 ∷ key (pos 1) 8 ∷ []))
disabled_first = refl

deleted_first : delete (keyset_of (key (pos 1) 7 ∷ key (pos 1) 8 ∷ key (pos 2) 8 ∷ [])) 8 ≡ Ok (keyset_of (key (pos 1) 7 ∷ key (pos 2) 8 ∷ []))
deleted_first = refl

destroyed_loses_data : destroy (keyset_of (key (pos 2) 8 ∷ [])) 8 ≡ Ok (keyset_of (key_of None (pos 3) 8 (pos 3) ∷ []))
destroyed_loses_data = refl

destroyed_again : destroy (keyset_of (key (pos 3) 8 ∷ [])) 8 ≡ Ok (keyset_of (key_of None (pos 3) 8 (pos 3) ∷ []))
destroyed_again = refl

destroyed_stays : enable (keyset_of (key (pos 3) 8 ∷ [])) 8 ≡ Err (WrongStatus (pos 3))
destroyed_stays = refl

primary_first : disable (keyset_of []) 7 ≡ Err IsPrimary
primary_first = refl

none_there : delete (keyset_of (key (pos 1) 7 ∷ [])) 8 ≡ Err KeyNotFound
none_there = refl

not_enabled : set_primary (keyset_of (key (pos 2) 8 ∷ key (pos 1) 8 ∷ [])) 8 ≡ Err NotEnabled
not_enabled = refl

-- an id that is 0 or used is passed over
third_id : fresh_id (key (pos 3) 0x01020304 ∷ []) 128 (0 ∷ 0 ∷ 0 ∷ 0 ∷ 1 ∷ 2 ∷ 3 ∷ 4 ∷ 10 ∷ 11 ∷ 12 ∷ 13 ∷ 9 ∷ []) ≡ (Ok 0x0a0b0c0d, 9 ∷ [])
unfolding fresh_id
third_id = refl

too_few : fresh_id (key (pos 3) 0x01020304 ∷ []) 128 (1 ∷ 2 ∷ 3 ∷ 4 ∷ 5 ∷ 6 ∷ 7 ∷ []) ≡ (Err RandomFault, 5 ∷ 6 ∷ 7 ∷ [])
unfolding fresh_id
too_few = refl

no_more_takes : fresh_id [] 2 (0 ∷ 0 ∷ 0 ∷ 0 ∷ 0 ∷ 0 ∷ 0 ∷ 0 ∷ 1 ∷ 1 ∷ 1 ∷ 1 ∷ []) ≡ (Err NoFreshId, 1 ∷ 1 ∷ 1 ∷ 1 ∷ [])
unfolding fresh_id
no_more_takes = refl

-- ---- commands in order

abbrev one_data : KeyData
one_data = record { type_url = []; value = []; key_material_type = pos 1 }

abbrev raw_template : KeyTemplate
raw_template = record { type_url = []; value = []; output_prefix_type = pos 3 }

-- a key of id 5 is added and made the primary one, which then isn't disabled, and the key of id 7 is destroyed
in_order :
    after_all (λ _ draws. (Ok one_data, draws)) (record { keyset = keyset_of (key (pos 1) 7 ∷ []); draws = 0 ∷ 0 ∷ 0 ∷ 5 ∷ 6 ∷ [] }) (Add raw_template ∷ SetPrimary 5 ∷ Disable 5 ∷ Destroy 7 ∷ [])
    ≡ record { keyset = record { primary_key_id = 5; key = key_of None (pos 3) 7 (pos 3) ∷ key (pos 1) 5 ∷ [] }; draws = 6 ∷ [] }
unfolding fresh_id
in_order = refl

-- Tink, Legacy, Raw, Crunchy, and another number
tink : output_prefix (key_of None (pos 1) 0x01020304 (pos 1)) ≡ Some (1 ∷ 1 ∷ 2 ∷ 3 ∷ 4 ∷ [])
tink = refl

legacy : output_prefix (key_of None (pos 1) 0x01020304 (pos 2)) ≡ Some (0 ∷ 1 ∷ 2 ∷ 3 ∷ 4 ∷ [])
legacy = refl

raw : output_prefix (key_of None (pos 1) 0x01020304 (pos 3)) ≡ Some []
raw = refl

crunchy : output_prefix (key_of None (pos 1) 0x01020304 (pos 4)) ≡ Some (0 ∷ 1 ∷ 2 ∷ 3 ∷ 4 ∷ [])
crunchy = refl

unknown : output_prefix (key_of None (pos 1) 0x01020304 (pos 5)) ≡ None
unknown = refl

-- a destroyed key's data counts, public and remote data do not
secret_data : has_secrets (keyset_of (key_of (data_of (pos 0)) (pos 3) 8 (pos 3) ∷ [])) ≡ true
secret_data = refl

public_data : has_secrets (keyset_of (key_of (data_of (pos 3)) (pos 1) 8 (pos 3) ∷ key_of (data_of (pos 4)) (pos 1) 9 (pos 3) ∷ key_of None (pos 3) 9 (pos 3) ∷ [])) ≡ false
public_data = refl
