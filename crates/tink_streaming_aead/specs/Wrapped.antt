-- The streaming AEADs of a keyset as one.
use Rattle.std.specs.Prelude.{◌≡◌, ◌↔◌, ◌++◌, ◌∷◌, ℕ, List, [], Vec, map, filter, All, Option, Some, None, Result}
use Rattle.std.specs.Str.{bytes_eq}
use Rattle.std.specs.BTreeMap.{BTreeMap, values}
use Rattle.tink_primitives.specs.declared.streams.Refused.{Refused}
use Rattle.stream_model.specs.Key.{StreamKey, IsUsable}
use Rattle.stream_model.specs.Opening.{IsChosen, OpeningKey, opening_key}
use Rattle.stream_model.specs.Order.{HaveSameOrder, IsOutputPrefix}
use Rattle.tink_sets.specs.Entries.{entry_of_id, typed_prefix_of}
use Rattle.tink_sets.specs.Groups.{AreGroupsOf}
use Rattle.tink_sets.specs.declared.entry.TypedEntry.{TypedEntry}
use Rattle.tink_streaming_ciphers.specs.declared.stream_segment.StreamSegment.{StreamSegment}
use Rattle.tink_streaming_io.specs.Writers.{WriterState}
use Rattle.tink_streaming_keys.specs.Encrypting.{StartsWriter}
use Rattle.tink_streaming_keys.specs.StreamKinds.{key_in_set}
use Rattle.tink_streaming_keys.specs.declared.stream_kind.StreamKind.{StreamKind}

-- the primary key, by which streams are made, and all keys, by which they are opened, those of one prefix in their order;
-- and the entries of these keys, with their ids, statuses and prefix types
pub record Wrapped : Type 0 where
  pub primary : Option StreamKey
  pub keys : List StreamKey
  pub primary_entry : Option (TypedEntry StreamKind)
  pub entries : List (TypedEntry StreamKind)

-- there is a primary key, and this holds of it
abbrev pub ByPrimary : Option StreamKey → (StreamKey → Type 0) → Type 0
ByPrimary None P = ⊥
ByPrimary (Some k) P = P k

-- a call for a new writer by the primary key
abbrev pub PrimaryStarts : {W : Type 0} → (W → Option (List ℕ)) → (W → ℕ) → (W → W → Type 0) → Wrapped → List ℕ → List ℕ → List ℕ → W → Result (WriterState W StreamSegment) (Refused W) → Type 0
PrimaryStarts got faults same w aad draws left sink result =
    ByPrimary w.primary (λ k. StartsWriter got faults same k aad draws left sink result)

-- the key of an entry, where there is one
abbrev pub key_in : Option (TypedEntry StreamKind) → Option StreamKey
key_in None = None
key_in (Some e) = Some (key_in_set e)

-- the keys of entries, in their order
abbrev pub keys_in : List (TypedEntry StreamKind) → List StreamKey
keys_in entries = map key_in_set entries

-- lists joined in order
abbrev pub joined_lists : {E : Type 0} → List (List E) → List E
joined_lists [] = []
joined_lists (xs ∷ lists) = xs ++ joined_lists lists

-- all entries of a set, prefix by prefix
abbrev pub all_entries : {G : Type 0} → BTreeMap (Vec ℕ G) (List (TypedEntry StreamKind)) → List (TypedEntry StreamKind)
all_entries groups = joined_lists (values groups)

-- each list of a set has entries of the prefix under which it stands
abbrev pub IsPure : {G : Type 0} → Vec ℕ G × List (TypedEntry StreamKind) → Type 0
IsPure group = All (λ e. e.prefix ≡ group.0.items) group.1

abbrev pub ArePure : {G : Type 0} → BTreeMap (Vec ℕ G) (List (TypedEntry StreamKind)) → Type 0
ArePure groups = All IsPure groups.entries

-- the entries of a prefix, in their order
abbrev pub entries_with : List ℕ → List (TypedEntry StreamKind) → List (TypedEntry StreamKind)
entries_with prefix entries = filter (λ e. bytes_eq e.prefix prefix) entries

-- under each prefix the lists have the same entries in the same order, so with their ids, statuses and prefix types
abbrev pub HaveSameEntries : List (TypedEntry StreamKind) → List (TypedEntry StreamKind) → Type 0
HaveSameEntries entries others = (prefix : List ℕ) → entries_with prefix entries ≡ entries_with prefix others

-- whichever entries a set has, these are they, those of one prefix in their order
abbrev pub KeepsOrder : {G : Type 0} → BTreeMap (Vec ℕ G) (List (TypedEntry StreamKind)) → Type 0
KeepsOrder groups =
    (entries : List (TypedEntry StreamKind)) → AreGroupsOf typed_prefix_of entries groups
    → HaveSameEntries (all_entries groups) entries

-- what stands before the header of a key's streams is an output prefix
abbrev pub HasOutputPrefix : StreamKey → Type 0
HasOutputPrefix k = IsOutputPrefix k.out

-- whichever entries a set has, where they have output prefixes, so have all that it has
abbrev pub KeepsPrefixes : {G : Type 0} → BTreeMap (Vec ℕ G) (List (TypedEntry StreamKind)) → Type 0
KeepsPrefixes groups =
    (entries : List (TypedEntry StreamKind)) → AreGroupsOf typed_prefix_of entries groups
    → All (λ e. HasOutputPrefix (key_in_set e)) entries → All HasOutputPrefix (keys_in (all_entries groups))

-- what a set of entries has
abbrev pub set_keys : {G : Type 0} → Option (TypedEntry StreamKind) → BTreeMap (Vec ℕ G) (List (TypedEntry StreamKind)) → Wrapped
set_keys primary groups = record {
  primary = key_in primary;
  keys = keys_in (all_entries groups);
  primary_entry = primary;
  entries = all_entries groups;
}

-- a list of entries has these keys: the primary one is the first of this id, and those of each prefix are in their order;
-- and these are its entries
pub record AreKeysOf (id : ℕ) (entries : List (TypedEntry StreamKind)) (w : Wrapped) : Type 0 where
  pub primary : w.primary ≡ key_in (entry_of_id id entries)
  pub order : HaveSameOrder w.keys (keys_in entries)
  pub primary_entry : w.primary_entry ≡ entry_of_id id entries
  pub has_entries : HaveSameEntries w.entries entries

-- of the keys of a list of entries the one is chosen for a stream that is the first in the order of the list under which
-- the stream begins
abbrev pub ChoosesInOrder : Type 0
ChoosesInOrder =
    (id : ℕ) (entries : List (TypedEntry StreamKind)) (w : Wrapped) (aad X : List ℕ) (chosen : Option OpeningKey)
    → AreKeysOf id entries w → All HasOutputPrefix w.keys → All IsUsable w.keys
    → IsChosen (map (opening_key aad) w.keys) X chosen ↔ IsChosen (map (opening_key aad) (keys_in entries)) X chosen
