-- The primitives of a keyset: what each enabled key builds, and the set of them.
use Rattle.std.specs.Prelude.{◌≡◌, ◌⊎◌, ℕ, List, [], Vec, Bool, true, false, Option, Some, None, Result, Ok, Err, if◌then◌else◌, nat_eq, filter, find}
use Rattle.std.specs.Str.{bytes_eq}
use Rattle.std.specs.BTreeMap.{BTreeMap}
use Rattle.tink_io.specs.declared.error.Kind.{Kind}
use Rattle.tink_io.specs.declared.error.Kind.TheVariants.{InvalidKeyset, OutOfMemory}
use Rattle.tink_io.specs.declared.error.TinkError.{TinkError}
use Rattle.tink_io.specs.Answering.{made_of}
use Rattle.tink_proto.specs.declared.messages.keys.Key.{Key}
use Rattle.tink_proto.specs.declared.messages.keys.KeyData.{KeyData}
use Rattle.tink_proto.specs.declared.messages.keys.Keyset.{Keyset}
use Rattle.tink_registry.specs.Listed.{registry_builds}
use Rattle.tink_sets.specs.Entries.{prefix_of}
use Rattle.tink_sets.specs.Groups.{Adds, AddsLast, AreGroupsOf, group_at}
use Rattle.tink_sets.specs.declared.entry.Entry.{Entry}
use Rattle.tink_sets.specs.declared.primitive_set.PrimitiveSet.{PrimitiveSet}
use Rattle.keyset_model.specs.Keys.{enabled}
use Rattle.keyset_model.specs.Validity.{is_validated}
use Rattle.tink_set_builder.specs.Given.{given_each}

module _ {M P : Type 0} (url : M → List ℕ) (supports : M → List ℕ → Bool) (builds : M → List ℕ → Result P Kind) where
  -- A given manager alone decides a key whose URL it supports, also where its value is empty; else the managers do.
  abbrev pub built_value : List M → Option M → KeyData → Result P Kind
  built_value managers None d = registry_builds url builds managers d.type_url d.value
  built_value managers (Some m) d =
      if supports m d.type_url then builds m d.value else registry_builds url builds managers d.type_url d.value

  abbrev pub built_data : List M → Option M → Option KeyData → Result P Kind
  built_data managers given None = Err InvalidKeyset
  built_data managers given (Some d) = built_value managers given d

  -- the entry of a key
  abbrev pub built_entry : {E : Type 0} → (P → Key → E) → List M → Option M → Key → Result E Kind
  built_entry entry managers given k = made_of (λ p. entry p k) (built_data managers given k.key_data)

  -- the entries of the enabled keys in order, or the refusal of the first that doesn't build
  abbrev pub built_entries : {E : Type 0} → (P → Key → E) → List M → Option M → Keyset → Result (List E) Kind
  built_entries entry managers given ks =
      if is_validated ks then given_each (built_entry entry managers given) (enabled ks) else Err InvalidKeyset

-- a map has no list under a prefix that no entry has
abbrev pub HasNoOther : {E A : Type 0} → (E → List ℕ) → List E → BTreeMap (Vec ℕ A) (List E) → Type 0
HasNoOther prefix_of entries groups =
    (prefix : List ℕ) → filter (λ e. bytes_eq (prefix_of e) prefix) entries ≡ [] → group_at groups prefix ≡ None

-- A set has these entries: under each prefix those that have it, in their order, and no list under another; and as the
-- primary one the first of the primary id, which in a validated keyset at most one has.
pub record HasEntries {E A : Type 0} (prefix_of : E → List ℕ) (id_of : E → ℕ) (id : ℕ) (entries : List E) (primary : Option E) (groups : BTreeMap (Vec ℕ A) (List E)) : Type 0 where
  pub by_prefix : AreGroupsOf prefix_of entries groups
  pub no_other : HasNoOther prefix_of entries groups
  pub by_id : primary ≡ find (λ e. nat_eq (id_of e) id) entries

module _ {K A D HD HE M P S St V : Type 0} where
  -- a set of these entries, with the primary one of the id
  abbrev pub IsSetOf : ℕ → List (Entry K A D HD HE M P S St V) → PrimitiveSet K A D HD HE M P S St V → Type 0
  IsSetOf id entries set = HasEntries prefix_of (λ e. e.key_id) id entries set.primary set.entries

-- a call gives a set of the given entries, or refuses by the given kind, or there is no memory
abbrev pub GivesSet : {S E : Type 0} → (List E → S → Type 0) → Result S TinkError → Result (List E) Kind → Type 0
GivesSet {S} {E} holds (Ok set) told = (entries : List E) × (told ≡ Ok entries) × holds entries set
GivesSet holds (Err e) told = (e.kind ≡ OutOfMemory) ⊎ (told ≡ Err e.kind)

-- ---- one key, which only the code needs

-- the primary entry after one more: the first of the id stays
abbrev pub primary_after : {E : Type 0} → (E → ℕ) → ℕ → Option E → E → Option E
primary_after id_of id (Some e) more = Some e
primary_after id_of id None more = if nat_eq (id_of more) id then Some more else None

module _ {K A D HD HE M P S St V : Type 0} where
  -- a set with one entry more
  pub record HasOneMore (id : ℕ) (more : Entry K A D HD HE M P S St V) (old new : PrimitiveSet K A D HD HE M P S St V) : Type 0 where
    pub by_prefix : AddsLast prefix_of more old.entries new.entries
    pub added : Adds (prefix_of more) more old.entries new.entries
    pub by_id : new.primary ≡ primary_after (λ e. e.key_id) id old.primary more

  -- a set with the entry of a key, where it is enabled
  abbrev pub TakesKey : ℕ → Bool → Result (Entry K A D HD HE M P S St V) Kind → PrimitiveSet K A D HD HE M P S St V → PrimitiveSet K A D HD HE M P S St V → Type 0
  TakesKey id false built old new = new ≡ old
  TakesKey id true built old new = (more : Entry K A D HD HE M P S St V) × (built ≡ Ok more) × HasOneMore id more old new

  -- all keys are taken into a set of nothing: it has the given entries, or the call refuses by the given kind, or there is no memory
  abbrev pub FillsSet : ℕ → Result (Unit {0}) TinkError → Result (List (Entry K A D HD HE M P S St V)) Kind → PrimitiveSet K A D HD HE M P S St V → Type 0
  FillsSet id (Ok _) told set = (entries : List (Entry K A D HD HE M P S St V)) × (told ≡ Ok entries) × IsSetOf id entries set
  FillsSet id (Err e) told set = (e.kind ≡ OutOfMemory) ⊎ (told ≡ Err e.kind)
