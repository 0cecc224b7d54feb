-- The entries of a set of one sort.
use Rattle.std.specs.Prelude.{◌≡◌, ℕ, List, Bool, None, Result, Ok, Err, find, is_some, nat_eq, if◌then◌else◌}
use Rattle.tink_io.specs.declared.error.Kind.{Kind}
use Rattle.tink_io.specs.declared.error.Kind.TheVariants.{NoPrimary}
use Rattle.tink_io.specs.declared.error.TinkError.{TinkError}
use Rattle.tink_proto.specs.declared.messages.keys.Key.{Key}
use Rattle.tink_proto.specs.declared.messages.keys.Keyset.{Keyset}
use Rattle.tink_primitives.specs.declared.primitive.Primitive.{Primitive}
use Rattle.tink_sets.specs.Converting.{converted}
use Rattle.tink_sets.specs.Entries.{entry_of, typed_by, typed_prefix_of}
use Rattle.tink_sets.specs.declared.entry.Entry.{Entry}
use Rattle.tink_sets.specs.declared.entry.TypedEntry.{TypedEntry}
use Rattle.tink_sets.specs.declared.primitive_set.PrimitiveSet.{PrimitiveSet}
use Rattle.tink_sets.specs.declared.typed_set.TypedPrimitiveSet.{TypedPrimitiveSet}
use Rattle.tink_keysets.specs.Built.{built_entries, built_entry, GivesSet, HasEntries, IsSetOf}

module _ {K A D HD HE M P S St V Q : Type 0} (pick : Primitive K A D HD HE M P S St V → Result Q Kind) where
  -- an entry that was built, as one of a sort
  abbrev pub typed_entry : Result (Entry K A D HD HE M P S St V) Kind → Result (TypedEntry Q) Kind
  typed_entry (Err k) = Err k
  typed_entry (Ok e) = typed_by pick e

module _ {K A D HD HE M P S St V Q : Type 0} (pick : Primitive K A D HD HE M P S St V → Result Q Kind) (id : ℕ) where
  -- The entries that were built as entries of one sort: `NoPrimary` where none has the primary id, then the refusal of
  -- the first that is of another sort.
  abbrev pub typed_entries : Result (List (Entry K A D HD HE M P S St V)) Kind → Result (List (TypedEntry Q)) Kind
  typed_entries (Err k) = Err k
  typed_entries (Ok es) =
      if is_some (find (λ e. nat_eq e.key_id id) es) then converted (typed_by pick) es else Err NoPrimary

-- a set of one sort of these entries, with the primary one of the id
abbrev pub IsTypedSetOf : {Q : Type 0} → ℕ → List (TypedEntry Q) → TypedPrimitiveSet Q → Type 0
IsTypedSetOf id entries set = HasEntries typed_prefix_of (λ e. e.key_id) id entries set.primary set.entries

module _ {K A D HD HE M P S St V Q : Type 0} (pick : Primitive K A D HD HE M P S St V → Result Q Kind) where
  -- what a set of the entries that were built gives as one of a sort, which only the code needs
  abbrev pub GivesTyped : PrimitiveSet K A D HD HE M P S St V → Result (TypedPrimitiveSet Q) TinkError → Type 0
  GivesTyped set result =
      (id : ℕ) (built : Result (List (Entry K A D HD HE M P S St V)) Kind) → (entries : List (Entry K A D HD HE M P S St V)) × (built ≡ Ok entries) × IsSetOf id entries set
      → GivesSet (IsTypedSetOf id) result (typed_entries pick id built)

module _ {R K A D HD HE M P S St V Q : Type 0} (pick : Primitive K A D HD HE M P S St V → Result Q Kind)
    (url : R → List ℕ) (supports : R → List ℕ → Bool) (builds : R → List ℕ → Result (Primitive K A D HD HE M P S St V) Kind) (managers : List R) where
  -- the entry that a key builds, as one of a sort
  abbrev pub key_entry : Key → Result (TypedEntry Q) Kind
  key_entry k = typed_entry pick (built_entry url supports builds entry_of managers None k)

  -- and those of the enabled keys of a keyset
  abbrev pub keyset_entries : Keyset → Result (List (TypedEntry Q)) Kind
  keyset_entries ks = typed_entries pick ks.primary_key_id (built_entries url supports builds entry_of managers None ks)
