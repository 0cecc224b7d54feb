-- The entries of sets.
use Rattle.std.specs.Prelude.{◌≡◌, ◌⊎◌, ⊤, ℕ, List, [], Vec, Option, Some, None, Result, Ok, Err, if◌then◌else◌, find, nat_eq, unwrap_or}
use Rattle.std.specs.BTreeMap.{BTreeMap}
use Rattle.tink_io.specs.declared.error.Kind.{Kind}
use Rattle.tink_io.specs.declared.error.Kind.TheVariants.{NotEnabled, OutOfMemory, WrongPrimitive}
use Rattle.tink_io.specs.Answering.{made_of}
use Rattle.tink_proto.specs.declared.enums.OutputPrefixType.TheVariants.{UnknownPrefix}
use Rattle.tink_proto.specs.declared.enums.KeyStatusType.TheVariants.{Enabled}
use Rattle.tink_proto.specs.declared.messages.keys.Key.{Key}
use Rattle.keyset_model.specs.Keys.{is_enabled}
use Rattle.keyset_model.specs.Entries.{output_prefix}
use Rattle.tink_primitives.specs.declared.primitive.Primitive.{Primitive}
use Rattle.tink_sets.specs.Prefixes.{known_type, told_prefix}
use Rattle.tink_set_groups.specs.Converting.{AreConverted, HasRefused}
use Rattle.tink_set_groups.specs.Groups.{AfterAdding}
use Rattle.tink_sets.specs.declared.entry.Entry.{Entry}
use Rattle.tink_sets.specs.declared.entry.TypedEntry.{TypedEntry}
use Rattle.tink_sets.specs.declared.primitive_set.PrimitiveSet.{PrimitiveSet}

-- the prefix of an enabled key
abbrev pub own_prefix : Key → List ℕ
own_prefix k = unwrap_or (output_prefix k) []

-- the prefix of a key that may stand in a set: it is enabled, and its prefix type is known
abbrev pub standing_prefix : Key → Result (List ℕ) Kind
standing_prefix k = if is_enabled k then told_prefix k else Err NotEnabled

-- whether a key may stand in a set
abbrev pub may_stand : Key → Result (Unit {0}) Kind
may_stand k = made_of (λ _. tt) (standing_prefix k)

module _ {K A D HD HE M P S St V : Type 0} where
  abbrev pub prefix_of : Entry K A D HD HE M P S St V → List ℕ
  prefix_of e = e.prefix

  -- the entry of an enabled key and its primitive
  abbrev pub entry_of : Primitive K A D HD HE M P S St V → Key → Entry K A D HD HE M P S St V
  entry_of p k = record {
    key_id = k.key_id;
    primitive = p;
    prefix = own_prefix k;
    prefix_type = unwrap_or (known_type k.output_prefix_type) UnknownPrefix;
    status = Enabled;
  }

  -- a set after an entry was to be added: its lists as `AfterAdding` says, and the primary entry as before
  abbrev pub SetAfterAdding : {T F : Type 0} → Entry K A D HD HE M P S St V → Result T F → PrimitiveSet K A D HD HE M P S St V → PrimitiveSet K A D HD HE M P S St V → Type 0
  SetAfterAdding entry answer old new = (new.primary ≡ old.primary) × AfterAdding prefix_of entry answer old.entries new.entries

  -- an entry with another primitive
  abbrev pub with_primitive : {Q : Type 0} → Entry K A D HD HE M P S St V → Q → TypedEntry Q
  with_primitive e q = record { key_id = e.key_id; primitive = q; prefix = e.prefix; prefix_type = e.prefix_type; status = e.status }

  -- an entry as one of a sort, or its refusal
  abbrev pub typed_by : {Q : Type 0} → (Primitive K A D HD HE M P S St V → Result Q Kind) → Entry K A D HD HE M P S St V → Result (TypedEntry Q) Kind
  typed_by pick e = made_of (with_primitive e) (pick e.primitive)

  -- the primary entry as one of a sort
  abbrev pub IsTypedPrimary : {Q : Type 0} → (Primitive K A D HD HE M P S St V → Result Q Kind) → Option (Entry K A D HD HE M P S St V) → Option (TypedEntry Q) → Type 0
  IsTypedPrimary pick None None = ⊤
  IsTypedPrimary pick None (Some _) = ⊥
  IsTypedPrimary pick (Some _) None = ⊥
  IsTypedPrimary pick (Some e) (Some t) = typed_by pick e ≡ Ok t

  -- the other entries as some of one sort
  abbrev pub AreTyped : {Q G : Type 0} → (Primitive K A D HD HE M P S St V → Result Q Kind) → BTreeMap (Vec ℕ G) (List (Entry K A D HD HE M P S St V)) → BTreeMap (Vec ℕ G) (List (TypedEntry Q)) → Type 0
  AreTyped pick old new = AreConverted (typed_by pick) old new

  -- the primary entry is refused by a kind
  abbrev pub IsRefusedPrimary : {Q : Type 0} → (Primitive K A D HD HE M P S St V → Result Q Kind) → Option (Entry K A D HD HE M P S St V) → Kind → Type 0
  IsRefusedPrimary pick None k = ⊥
  IsRefusedPrimary pick (Some e) k = typed_by pick e ≡ Err k

  -- the primary entry or another one is of another sort
  abbrev pub HasAnother : {Q G : Type 0} → (Primitive K A D HD HE M P S St V → Result Q Kind) → Option (Entry K A D HD HE M P S St V) → BTreeMap (Vec ℕ G) (List (Entry K A D HD HE M P S St V)) → Type 0
  HasAnother pick primary entries = IsRefusedPrimary pick primary WrongPrimitive ⊎ HasRefused (typed_by pick) entries WrongPrimitive

  -- why entries are not as some of one sort: no memory, or `WrongPrimitive`, where one of them is of another sort
  abbrev pub AreNotTyped : {Q G : Type 0} → (Primitive K A D HD HE M P S St V → Result Q Kind) → Kind → Option (Entry K A D HD HE M P S St V) → BTreeMap (Vec ℕ G) (List (Entry K A D HD HE M P S St V)) → Type 0
  AreNotTyped pick kind primary entries = (kind ≡ OutOfMemory) ⊎ ((kind ≡ WrongPrimitive) × HasAnother pick primary entries)

-- the first entry of an id
abbrev pub entry_of_id : {Q : Type 0} → ℕ → List (TypedEntry Q) → Option (TypedEntry Q)
entry_of_id id es = find (λ e. nat_eq e.key_id id) es

abbrev pub typed_prefix_of : {Q : Type 0} → TypedEntry Q → List ℕ
typed_prefix_of e = e.prefix
