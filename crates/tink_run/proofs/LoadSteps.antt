-- From the set of the streaming keys of a handle to what its keyset loads as.
use Rattle.std.proofs.Common.{◌≡◌, inl, inr, ◌∙◌, ◌&&◌, ◌||◌, ℕ, ⊎_elim, List, [], ◌∷◌, Bool, true, false, cond, map, refl, sym, ap, subst, Some, None}
use Rattle.std.specs.declared.option.Option.{Option}
use Rattle.std.specs.Prelude.{Result, Ok, Err, IfOk, filter, find, is_some, nat_eq, length}
use Rattle.std.proofs.lemmas.Bool.{eqb-true}
use Rattle.std.specs.List.{list_all, list_any}
use Rattle.std.specs.Str.{bytes_eq}
use Rattle.tink_io.specs.declared.error.Kind.{Kind}
use Rattle.tink_io.specs.declared.error.Kind.TheVariants.{InvalidKey, NoPrimary}
use Rattle.tink_io.specs.declared.error.TinkError.{TinkError}
use Rattle.tink_io.specs.Answering.{made_of}
use Rattle.tink_primitives.specs.declared.primitive.Primitive.{Primitive}
use Rattle.tink_primitives.specs.declared.primitive.Primitive.TheVariants.{StreamingAead}
use Rattle.tink_primitives.specs.Sorts.{as_streaming_aead}
use Rattle.tink_proto.specs.declared.messages.keys.Key.{Key}
use Rattle.tink_proto.specs.declared.messages.keys.KeyData.{KeyData}
use Rattle.tink_proto.specs.declared.messages.keys.Keyset.{Keyset}
use Rattle.tink_registry.specs.Listed.{builds_by, manager_of, registry_builds}
use Rattle.tink_sets.specs.declared.entry.Entry.{Entry}
use Rattle.tink_sets.specs.declared.entry.TypedEntry.{TypedEntry}
use Rattle.tink_sets.specs.declared.typed_set.TypedPrimitiveSet.{TypedPrimitiveSet}
use Rattle.tink_sets.specs.Entries.{entry_of, entry_of_id, typed_by, typed_prefix_of, with_primitive}
use Rattle.tink_sets.specs.Converting.{converted}
use Rattle.tink_sets.specs.Converting as converting
use Rattle.tink_set_builder.specs.Given.{before, given_each}
use Rattle.tink_set_builder.proofs.BuildingFacts.{well_formed_keys}
use Rattle.tink_keysets.specs.Built.{built_data, built_entries, built_entry, GivesSet, HasEntries}
use Rattle.tink_keysets.specs.Typing.{typed_entries}
use Rattle.keyset_model.specs.Keys.{is_enabled}
use Rattle.keyset_model.specs.Validity.{is_held_keyset, is_validated, is_well_formed, IsValid}
use Rattle.stream_model.specs.Key.{fronted}
use Rattle.tink_streaming_keys.specs.declared.stream_kind.StreamKind.{StreamKind}
use Rattle.tink_streaming_keys.specs.StreamKinds.{key_in_set, key_of}
use Rattle.tink_streaming_aead.specs.Wrapped.{key_in, keys_in}
use Rattle.loading_model.specs.Loading.{EnabledKey, Loaded, LoadedKey, LoadingRow, ◌then◌, build, build_data, build_key, build_keys, built_by, key_of_id, out_of, load_built, load_keys, streaming_key, streaming_keys, streaming_part, with_primary}
use Rattle.tink.specs.LoadingRows.{built_key, loading_row, rows_by}
use Rattle.tink_run.specs.HeldKeys.{GivesLoaded, type_of}

and_parts : (a b : Bool) → (a && b) ≡ true → (a ≡ true) × (b ≡ true)
and_parts true b e = (refl, e)
and_parts false b e = absurd (cc)

module _ {M K A D HD HE Mc P S V : Type 0} (url : M → List ℕ) (supports : M → List ℕ → Bool) (builds : M → List ℕ → Result (Primitive K A D HD HE Mc P S StreamKind V) Kind) (managers : List M) where
  abbrev Made : Type 0
  Made = Primitive K A D HD HE Mc P S StreamKind V

  abbrev One : Type 0
  One = Entry K A D HD HE Mc P S StreamKind V

  abbrev Typed : Type 0
  Typed = TypedEntry StreamKind

  abbrev rows : List LoadingRow
  rows = rows_by url builds managers

  -- ---- what a key builds

  by_row : (wanted value : List ℕ) (ms : List M) → built_by value (find (λ r. bytes_eq r.url wanted) (rows_by url builds ms)) ≡ made_of built_key (builds_by builds value (manager_of url wanted ms))
  by_row wanted value [] = refl
  by_row wanted value (m ∷ ms) = here (bytes_eq (url m) wanted) (by_row wanted value ms)
    where
      here : (b : Bool) → built_by value (find (λ r. bytes_eq r.url wanted) (rows_by url builds ms)) ≡ made_of built_key (builds_by builds value (manager_of url wanted ms))
          → built_by value (cond b (Some (loading_row url builds m)) (find (λ r. bytes_eq r.url wanted) (rows_by url builds ms))) ≡ made_of built_key (builds_by builds value (cond b (Some m) (manager_of url wanted ms)))
      here true later = refl
      here false later = later

  build_is : (d : KeyData) → build rows d ≡ made_of built_key (registry_builds url builds managers d.type_url d.value)
  build_is d = by_value (nat_eq (length d.value) 0)
    where
      by_value : (b : Bool) → cond b (Err InvalidKey) (built_by d.value (find (λ r. bytes_eq r.url d.type_url) rows)) ≡ made_of built_key (cond b (Err InvalidKey) (builds_by builds d.value (manager_of url d.type_url managers)))
      by_value true = refl
      by_value false = by_row d.type_url d.value managers

  -- ---- entries and keys that were built, one for one

  record IsAlike (e : One) (b : EnabledKey) : Type 0 where
    id : e.key_id ≡ b.id
    built : b.built ≡ built_key e.primitive
    out : e.prefix ≡ out_of b.prefix_type b.id
    type_is : e.prefix_type ≡ type_of b.prefix_type

  abbrev AreAlike : List One → List EnabledKey → Type 0
  AreAlike [] [] = Unit {0}
  AreAlike (e ∷ es) (b ∷ bs) = IsAlike e b × AreAlike es bs
  AreAlike _ _ = ⊥

  abbrev Same : Result One Kind → Result EnabledKey Kind → Type 0
  Same (Ok e) built = (b : EnabledKey) × (built ≡ Ok b) × IsAlike e b
  Same (Err kind) built = built ≡ Err kind

  abbrev AllSame : Result (List One) Kind → Result (List EnabledKey) Kind → Type 0
  AllSame (Ok es) built = (bs : List EnabledKey) × (built ≡ Ok bs) × AreAlike es bs
  AllSame (Err kind) built = built ≡ Err kind

  entry_same : (k : Key) → is_well_formed k ≡ true → Same (built_entry url supports builds entry_of managers None k) (build_key rows k)
  entry_same k formed = by_data k.key_data
    where
      by_built : (r : Result Made Kind) → Same (made_of (λ p. entry_of p k) r) (made_of built_key r then λ built. Ok (record { id = k.key_id; prefix_type = k.output_prefix_type; built = built }))
      by_built (Ok p) = (record { id = k.key_id; prefix_type = k.output_prefix_type; built = built_key p }, refl, record { id = refl; built = refl; out = refl; type_is = refl })
      by_built (Err kind) = refl

      by_data : (o : Option KeyData) → Same (made_of (λ p. entry_of p k) (built_data url supports builds managers None o)) (build_data rows o then λ built. Ok (record { id = k.key_id; prefix_type = k.output_prefix_type; built = built }))
      by_data None = refl
      by_data (Some d) = rw (build_is d) (by_built (registry_builds url builds managers d.type_url d.value))

  one_more : (e : Result One Kind) (es : Result (List One) Kind) (b : Result EnabledKey Kind) (bs : Result (List EnabledKey) Kind) → Same e b → AllSame es bs → AllSame (before e es) (b then λ one. bs then λ rest. Ok (one ∷ rest))
  one_more (Ok e) (Ok es) b bs s t = rw (s.1, t.1) (s.0 ∷ t.0, refl, (s.2, t.2))
  one_more (Ok e) (Err kind) b bs s t = rw (s.1, t) refl
  one_more (Err kind) es b bs s t = rw s refl

  all_same : (ks : List Key) → list_all is_well_formed ks ≡ true → AllSame (given_each (built_entry url supports builds entry_of managers None) (filter is_enabled ks)) (build_keys rows (filter is_enabled ks))
  all_same [] formed = ([], refl, tt)
  all_same (k ∷ ks) formed =
      let parts = and_parts (is_well_formed k) (list_all is_well_formed ks) formed in
      by_status (is_enabled k) (entry_same k parts.0) (all_same ks parts.1)
    where
      give : Key → Result One Kind
      give = built_entry url supports builds entry_of managers None

      by_status : (b : Bool) → Same (give k) (build_key rows k) → AllSame (given_each give (filter is_enabled ks)) (build_keys rows (filter is_enabled ks))
          → AllSame (given_each give (cond b (k ∷ filter is_enabled ks) (filter is_enabled ks))) (build_keys rows (cond b (k ∷ filter is_enabled ks) (filter is_enabled ks)))
      by_status true one later = one_more (give k) (given_each give (filter is_enabled ks)) (build_key rows k) (build_keys rows (filter is_enabled ks)) one later
      by_status false one later = later

  -- ---- entries of streaming AEADs and keys of streams, one for one

  record IsKey (t : Typed) (l : LoadedKey) : Type 0 where
    id : t.key_id ≡ l.id
    key : key_in_set t ≡ l.key
    type_is : t.prefix_type ≡ type_of l.prefix_type

  abbrev AreKeys : List Typed → List LoadedKey → Type 0
  AreKeys [] [] = Unit {0}
  AreKeys (t ∷ ts) (l ∷ ls) = IsKey t l × AreKeys ts ls
  AreKeys _ _ = ⊥

  abbrev OneKey : Result Typed Kind → Result LoadedKey Kind → Type 0
  OneKey (Ok t) key = (l : LoadedKey) × (key ≡ Ok l) × IsKey t l
  OneKey (Err kind) key = key ≡ Err kind

  abbrev AllKeys : Result (List Typed) Kind → Result (List LoadedKey) Kind → Type 0
  AllKeys (Ok ts) keys = (ls : List LoadedKey) × (keys ≡ Ok ls) × AreKeys ts ls
  AllKeys (Err kind) keys = keys ≡ Err kind

  by_sort : (e : One) (b : EnabledKey) (p : Made) → IsAlike e b → OneKey (made_of (with_primitive e) (as_streaming_aead p)) (streaming_part b (built_key p))
  by_sort e b (StreamingAead key) a = (
    record { id = b.id; prefix_type = b.prefix_type; key = fronted (out_of b.prefix_type b.id) (key_of key) },
    refl,
    record { id = a.id; key = ap (λ out. fronted out (key_of key)) a.out; type_is = a.type_is },
  )
  by_sort e b _ a = refl

  key_same : (e : One) (b : EnabledKey) → IsAlike e b → OneKey (typed_by as_streaming_aead e) (streaming_key b)
  key_same e b a = rw a.built (by_sort e b e.primitive a)

  key_more : (t : Result Typed Kind) (ts : Result (List Typed) Kind) (l : Result LoadedKey Kind) (ls : Result (List LoadedKey) Kind) → OneKey t l → AllKeys ts ls → AllKeys (converting.before t ts) (l then λ one. ls then λ rest. Ok (one ∷ rest))
  key_more (Ok t) (Ok ts) l ls s r = rw (s.1, r.1) (s.0 ∷ r.0, refl, (s.2, r.2))
  key_more (Ok t) (Err kind) l ls s r = rw (s.1, r) refl
  key_more (Err kind) ts l ls s r = rw s refl

  keys_same : (es : List One) (bs : List EnabledKey) → AreAlike es bs → AllKeys (converted (typed_by as_streaming_aead) es) (streaming_keys bs)
  keys_same [] [] a = ([], refl, tt)
  keys_same [] (b ∷ bs) a = absurd a
  keys_same (e ∷ es) [] a = absurd a
  keys_same (e ∷ es) (b ∷ bs) a = key_more _ _ _ _ (key_same e b a.0) (keys_same es bs a.1)

  -- ---- the primary key, and all

  some_has_id : (id : ℕ) (es : List One) (bs : List EnabledKey) → AreAlike es bs → is_some (find (λ e. nat_eq e.key_id id) es) ≡ list_any (λ b. nat_eq b.id id) bs
  some_has_id id [] [] a = refl
  some_has_id id [] (b ∷ bs) a = absurd a
  some_has_id id (e ∷ es) [] a = absurd a
  some_has_id id (e ∷ es) (b ∷ bs) a = rw (sym a.0.id) (here (nat_eq e.key_id id) (some_has_id id es bs a.1))
    where
      here : (t : Bool) → is_some (find (λ x. nat_eq x.key_id id) es) ≡ list_any (λ x. nat_eq x.id id) bs
          → is_some (cond t (Some e) (find (λ x. nat_eq x.key_id id) es)) ≡ (t || list_any (λ x. nat_eq x.id id) bs)
      here true later = refl
      here false later = later

  primary_same : (id : ℕ) (ts : List Typed) (ls : List LoadedKey) → AreKeys ts ls → key_in (entry_of_id id ts) ≡ key_of_id id ls
  primary_same id [] [] a = refl
  primary_same id [] (l ∷ ls) a = absurd a
  primary_same id (t ∷ ts) [] a = absurd a
  primary_same id (t ∷ ts) (l ∷ ls) a = rw (sym a.0.id) (here (nat_eq t.key_id id) (primary_same id ts ls a.1))
    where
      here : (b : Bool) → key_in (entry_of_id id ts) ≡ key_of_id id ls → key_in (cond b (Some t) (entry_of_id id ts)) ≡ cond b (Some l.key) (key_of_id id ls)
      here true later = ap Some a.0.key
      here false later = later

  all_keys_same : (ts : List Typed) (ls : List LoadedKey) → AreKeys ts ls → keys_in ts ≡ map (λ l. l.key) ls
  all_keys_same [] [] a = refl
  all_keys_same [] (l ∷ ls) a = absurd a
  all_keys_same (t ∷ ts) [] a = absurd a
  all_keys_same (t ∷ ts) (l ∷ ls) a = ap (λ k. k ∷ keys_in ts) a.0.key ∙ ap (λ ks. l.key ∷ ks) (all_keys_same ts ls a.1)

  all_ids_same : (ts : List Typed) (ls : List LoadedKey) → AreKeys ts ls → map (λ t. t.key_id) ts ≡ map (λ l. l.id) ls
  all_ids_same [] [] a = refl
  all_ids_same [] (l ∷ ls) a = absurd a
  all_ids_same (t ∷ ts) [] a = absurd a
  all_ids_same (t ∷ ts) (l ∷ ls) a = let one = a.0.id in let rest = all_ids_same ts ls a.1 in cc

  all_types_same : (ts : List Typed) (ls : List LoadedKey) → AreKeys ts ls → map (λ t. t.prefix_type) ts ≡ map (λ l. type_of l.prefix_type) ls
  all_types_same [] [] a = refl
  all_types_same [] (l ∷ ls) a = absurd a
  all_types_same (t ∷ ts) [] a = absurd a
  all_types_same (t ∷ ts) (l ∷ ls) a = let one = a.0.type_is in let rest = all_types_same ts ls a.1 in cc

  -- the first entry of an id has it
  has_its_id : (id : ℕ) (ts : List Typed) (t : Typed) → entry_of_id id ts ≡ Some t → t.key_id ≡ id
  has_its_id id [] t is = absurd (cc)
  has_its_id id (u ∷ ts) t is = here (nat_eq u.key_id id) refl (has_its_id id ts t) is
    where
      here : (b : Bool) → nat_eq u.key_id id ≡ b → (entry_of_id id ts ≡ Some t → t.key_id ≡ id) → cond b (Some u) (entry_of_id id ts) ≡ Some t → t.key_id ≡ id
      here true same later is = let own : u ≡ t = cc in subst (λ (x : Typed). x.key_id ≡ id) own (eqb-true u.key_id id same)
      here false same later is = later is

  -- ---- the whole

  -- typed entries, and what is loaded
  abbrev LoadsAs : ℕ → Result (List Typed) Kind → Result Loaded Kind → Type 0
  LoadsAs id (Ok ts) loaded = (ls : List LoadedKey) × (loaded ≡ with_primary ls (key_of_id id ls)) × AreKeys ts ls
  LoadsAs id (Err kind) loaded = loaded ≡ Err kind

  from_keys : (id : ℕ) (ts : Result (List Typed) Kind) (ls : Result (List LoadedKey) Kind) → AllKeys ts ls → LoadsAs id ts (ls then λ keys. with_primary keys (key_of_id id keys))
  from_keys id (Ok ts) ls a = rw a.1 (a.0, refl, a.2)
  from_keys id (Err kind) ls a = rw a refl

  from_built : (id : ℕ) (es : List One) (bs : List EnabledKey) → AreAlike es bs → LoadsAs id (typed_entries as_streaming_aead id (Ok es)) (load_built id bs)
  from_built id es bs a = rw (some_has_id id es bs a) (here (list_any (λ b. nat_eq b.id id) bs))
    where
      here : (b : Bool) → LoadsAs id (cond b (converted (typed_by as_streaming_aead) es) (Err NoPrimary)) (cond b (streaming_keys bs then λ keys. with_primary keys (key_of_id id keys)) (Err NoPrimary))
      here true = from_keys id _ _ (keys_same es bs a)
      here false = refl

  from_entries : (id : ℕ) (es : Result (List One) Kind) (bs : Result (List EnabledKey) Kind) → AllSame es bs → LoadsAs id (typed_entries as_streaming_aead id es) (bs then λ built. load_built id built)
  from_entries id (Ok es) bs s = rw s.1 (from_built id es s.0 s.2)
  from_entries id (Err kind) bs s = rw s refl

  loads_as : (ks : Keyset) → IsValid ks → LoadsAs ks.primary_key_id (typed_entries as_streaming_aead ks.primary_key_id (built_entries url supports builds entry_of managers None ks)) (load_keys rows ks)
  loads_as ks valid =
      let validated = (and_parts (is_held_keyset ks) (is_validated ks) valid).1 in
      rw validated (from_entries ks.primary_key_id _ _ (all_same ks.key (well_formed_keys ks validated)))

  -- the set of what was built has the keys that are loaded
  is_held_by : (id : ℕ) (set : TypedPrimitiveSet StreamKind) → is_some set.primary ≡ true → (ts : List Typed) (ls : List LoadedKey) (loaded : Result Loaded Kind)
      → HasEntries typed_prefix_of (λ t. t.key_id) id ts set.primary set.entries → AreKeys ts ls → loaded ≡ with_primary ls (key_of_id id ls) → GivesLoaded (Ok set) loaded
  is_held_by id set there ts ls loaded has are is = by_primary set.primary refl there (ap key_in has.by_id ∙ primary_same id ts ls are)
    where
      first_of : (t : Typed) → entry_of_id id ts ≡ Some t → entry_of_id t.key_id ts ≡ Some t
      first_of t found = subst (λ n. entry_of_id n ts ≡ Some t) (sym (has_its_id id ts t found)) found

      by_primary : (o : Option Typed) → set.primary ≡ o → is_some o ≡ true → key_in o ≡ key_of_id id ls → GivesLoaded (Ok set) loaded
      by_primary None own some same = absurd (cc)
      by_primary (Some t) own some same = (
        record { keys = ls; primary = key_in_set t },
        is ∙ ap (with_primary ls) (sym same),
        record {
          primary = ap key_in own;
          entries = ts;
          groups = has.by_prefix;
          keys = all_keys_same ts ls are;
          ids = all_ids_same ts ls are;
          types = all_types_same ts ls are;
          first = rw own (first_of t (sym has.by_id ∙ own));
        },
      )

  set_loaded : (set : TypedPrimitiveSet StreamKind) → is_some set.primary ≡ true → (ks : Keyset) → IsValid ks → (ts : List Typed)
      → typed_entries as_streaming_aead ks.primary_key_id (built_entries url supports builds entry_of managers None ks) ≡ Ok ts
      → HasEntries typed_prefix_of (λ t. t.key_id) ks.primary_key_id ts set.primary set.entries → GivesLoaded (Ok set) (load_keys rows ks)
  set_loaded set there ks valid ts told has =
      let all = subst (λ r. LoadsAs ks.primary_key_id r (load_keys rows ks)) told (loads_as ks valid) in
      is_held_by ks.primary_key_id set there ts all.0 (load_keys rows ks) has all.2 all.1

  not_loaded : (ks : Keyset) (kind : Kind) → IsValid ks → typed_entries as_streaming_aead ks.primary_key_id (built_entries url supports builds entry_of managers None ks) ≡ Err kind → load_keys rows ks ≡ Err kind
  not_loaded ks kind valid told = subst (λ r. LoadsAs ks.primary_key_id r (load_keys rows ks)) told (loads_as ks valid)

  -- what the typed set of a valid keyset answers
  pub set_answers : (ks : Keyset) → IsValid ks → (r : Result (TypedPrimitiveSet StreamKind) TinkError)
      → GivesSet (λ ts set. HasEntries typed_prefix_of (λ t. t.key_id) ks.primary_key_id ts set.primary set.entries) r (typed_entries as_streaming_aead ks.primary_key_id (built_entries url supports builds entry_of managers None ks))
      → IfOk r (λ set. is_some set.primary ≡ true) → GivesLoaded r (load_keys rows ks)
  set_answers ks valid (Ok set) given there = set_loaded set there ks valid given.0 given.1 given.2
  set_answers ks valid (Err e) given there = ⊎_elim inl (λ is. inr (not_loaded ks e.kind valid is)) given
