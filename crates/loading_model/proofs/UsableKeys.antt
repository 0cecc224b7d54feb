-- What loads is usable, and by which kinds loading refuses.
use Rattle.std.proofs.Common.{◌≡◌, inl, inr, ℕ, ℤ, List, [], ◌∷◌, Bool, true, false, cond, length, refl, sym, subst, arith, Some, None, unwrap_or}
use Rattle.std.specs.declared.option.Option.{Option}
use Rattle.std.specs.Prelude.{Result, Ok, Err, find, nat_eq}
use Rattle.std.specs.List.{list_any}
use Rattle.std.specs.Ordering.{int_eq}
use Rattle.std.specs.Str.{bytes_eq}
use Rattle.std.proofs.lemmas.Bool.{cond_both}
use Rattle.tink_io.specs.declared.error.Kind.{Kind}
use Rattle.tink_io.specs.declared.error.Kind.TheVariants.{BadKeyset, InvalidKeyset, UnsupportedKeyType, InvalidKey, NoPrimary, WrongPrimitive}
use Rattle.tink_proto.specs.declared.messages.keys.Key.{Key}
use Rattle.tink_proto.specs.declared.messages.keys.KeyData.{KeyData}
use Rattle.tink_proto.specs.declared.messages.keys.Keyset.{Keyset}
use Rattle.tink_proto.specs.declared.enums.OutputPrefixType.TheVariants.{Tink, Legacy, Raw, Crunchy}
use Rattle.tink_proto.specs.Enums.{prefix_number}
use Rattle.keyset_model.specs.Entries.{byte_and_id}
use Rattle.keyset_model.specs.Keys.{enabled}
use Rattle.keyset_model.specs.Validity.{is_valid}
use Rattle.stream_model.specs.Key.{StreamKey, IsUsable, fronted}
use Rattle.stream_model.specs.Order.{IsOfKeyset, IsOutputPrefix}
use Rattle.loading_model.specs.Loading.{BuiltKey, EnabledKey, Loaded, LoadedKey, LoadingRow, AreUsable, ◌then◌, build, build_data, build_key, build_keys, built_by, key_of_id, load_built, load_decoded, load_keys, out_of, streaming_key, streaming_keys, streaming_part, with_primary}
use Rattle.loading_model.specs.Loading.BuiltKey.{Streaming, Other}

-- what a sequence of steps ends in, its last step does
pub followed : {A B : Type 0} (r : Result A Kind) (f : A → Result B Kind) (b : B) → (r then f) ≡ Ok b → (a : A) × (r ≡ Ok a) × (f a ≡ Ok b)
followed (Ok a) f b e = (a, refl, e)
followed (Err kind) f b e = absurd (cc)

pub passed : {A : Type 0} (b : Bool) (kind : Kind) (r : Result A Kind) (a : A) → cond b r (Err kind) ≡ Ok a → r ≡ Ok a
passed true kind r a e = e
passed false kind r a e = absurd (cc)

-- a key of streams is usable
abbrev pub IsUsableKey : BuiltKey → Type 0
IsUsableKey (Streaming key) = IsUsable key
IsUsableKey Other = Unit {0}

-- what a value builds is usable, or is refused as no key of its type
abbrev pub IsSound : Result BuiltKey Kind → Type 0
IsSound (Ok built) = IsUsableKey built
IsSound (Err kind) = kind ≡ InvalidKey

-- whatever the values are
abbrev pub AreSound : List LoadingRow → Type 0
AreSound [] = Unit {0}
AreSound (row ∷ rows) = ((value : List ℕ) → IsSound (row.built value)) × AreSound rows

abbrev AreUsableBuilt : List EnabledKey → Type 0
AreUsableBuilt [] = Unit {0}
AreUsableBuilt (k ∷ ks) = IsUsableKey k.built × AreUsableBuilt ks

sound_ok : (r : Result BuiltKey Kind) (built : BuiltKey) → IsSound r → r ≡ Ok built → IsUsableKey built
sound_ok (Ok x) built sound e = let same : x ≡ built = cc in subst IsUsableKey same sound
sound_ok (Err kind) built sound e = absurd (cc)

found_usable : (here : LoadingRow → Bool) (rows : List LoadingRow) → AreSound rows → (value : List ℕ) (built : BuiltKey) → built_by value (find here rows) ≡ Ok built → IsUsableKey built
found_usable here [] u value built e = absurd (cc)
found_usable here (row ∷ rows) u value built e =
    cond_both (here row) (Some row) (find here rows) (λ o. built_by value o ≡ Ok built → IsUsableKey built)
    (λ _ h. sound_ok (row.built value) built (u.0 value) h)
    (λ _ h. found_usable here rows u.1 value built h)
    e

-- each output prefix is empty, or has five bytes of which the first is 0 or 1
prefix_by : (tink legacy crunchy raw : Bool) (id : ℕ)
    → IsOutputPrefix (unwrap_or (cond tink (Some (byte_and_id 1 id)) (cond legacy (Some (byte_and_id 0 id)) (cond crunchy (Some (byte_and_id 0 id)) (cond raw (Some []) None)))) [])
prefix_by true legacy crunchy raw id = inr (refl, omega arith)
prefix_by false true crunchy raw id = inr (refl, omega arith)
prefix_by false false true raw id = inr (refl, omega arith)
prefix_by false false false true id = inl refl
prefix_by false false false false id = inl refl

pub out_is_prefix : (prefix_type : ℤ) (id : ℕ) → IsOutputPrefix (out_of prefix_type id)
out_is_prefix prefix_type id =
    prefix_by (int_eq prefix_type (prefix_number Tink)) (int_eq prefix_type (prefix_number Legacy))
    (int_eq prefix_type (prefix_number Crunchy)) (int_eq prefix_type (prefix_number Raw)) id

-- a usable key is so with any output prefix
pub fronted_usable : (out : List ℕ) (k : StreamKey) → IsUsable k → IsUsable (fronted out k)
fronted_usable out k u = record { derived = u.derived; tag = u.tag; room = u.room; segment = u.segment }

part_usable : (k : EnabledKey) (b : BuiltKey) (l : LoadedKey) → IsUsableKey b → streaming_part k b ≡ Ok l → IsOfKeyset l.key
part_usable k (Streaming key) l u e =
    let out : List ℕ = out_of k.prefix_type k.id in
    let same : record { id = k.id; prefix_type = k.prefix_type; key = fronted out key } ≡ l = cc in
    subst (λ (x : LoadedKey). IsOfKeyset x.key) same
    (record { usable = fronted_usable out key u; out = out_is_prefix k.prefix_type k.id })
part_usable k Other l u e = absurd (cc)

parts_usable : (ks : List EnabledKey) (ls : List LoadedKey) → AreUsableBuilt ks → streaming_keys ks ≡ Ok ls → AreUsable ls
parts_usable [] ls u e = let none : [] ≡ ls = cc in subst AreUsable none tt
parts_usable (k ∷ ks) ls u e =
    let one = followed (streaming_key k) _ ls e in
    let rest = followed (streaming_keys ks) _ ls one.2 in
    let both : one.0 ∷ rest.0 ≡ ls = let h = rest.2 in cc in
    subst AreUsable both (part_usable k k.built one.0 u.0 one.1, parts_usable ks rest.0 u.1 rest.1)

key_of_id_usable : (id : ℕ) (ls : List LoadedKey) (k : StreamKey) → AreUsable ls → key_of_id id ls ≡ Some k → IsOfKeyset k
key_of_id_usable id [] k u e = absurd (cc)
key_of_id_usable id (l ∷ ls) k u e =
    cond_both (nat_eq l.id id) (Some l.key) (key_of_id id ls) (λ o. o ≡ Some k → IsOfKeyset k)
    (λ _ h. let same : l.key ≡ k = cc in subst IsOfKeyset same u.0)
    (λ _ h. key_of_id_usable id ls k u.1 h)
    e

-- both halves of what loads
abbrev IsUsableLoaded : Loaded → Type 0
IsUsableLoaded l = AreUsable l.keys × IsOfKeyset l.primary

with_primary_usable : (id : ℕ) (keys : List LoadedKey) (o : Option StreamKey) (l : Loaded) → key_of_id id keys ≡ o → AreUsable keys → with_primary keys o ≡ Ok l → IsUsableLoaded l
with_primary_usable id keys None l found u e = absurd (cc)
with_primary_usable id keys (Some key) l found u e =
    let same : record { keys = keys; primary = key } ≡ l = cc in
    subst IsUsableLoaded same (u, key_of_id_usable id keys key u found)

load_built_usable : (id : ℕ) (ks : List EnabledKey) (l : Loaded) → AreUsableBuilt ks → load_built id ks ≡ Ok l → IsUsableLoaded l
load_built_usable id ks l u e =
    let keys = followed (streaming_keys ks) _ l (passed (list_any (λ k. nat_eq k.id id) ks) NoPrimary _ l e) in
    with_primary_usable id keys.0 (key_of_id id keys.0) l refl (parts_usable ks keys.0 u keys.1) keys.2

module _ (rows : List LoadingRow) (all : AreSound rows) where
  build_usable : (d : KeyData) (b : BuiltKey) → build rows d ≡ Ok b → IsUsableKey b
  build_usable d b e = found_usable (λ r. bytes_eq r.url d.type_url) rows all d.value b (value (nat_eq (length d.value) 0) _ e)
    where
      value : (empty : Bool) (r : Result BuiltKey Kind) → cond empty (Err InvalidKey) r ≡ Ok b → r ≡ Ok b
      value true r e = absurd (cc)
      value false r e = e

  build_data_usable : (d : Option KeyData) (b : BuiltKey) → build_data rows d ≡ Ok b → IsUsableKey b
  build_data_usable None b e = absurd (cc)
  build_data_usable (Some d) b e = build_usable d b e

  build_key_usable : (k : Key) (b : EnabledKey) → build_key rows k ≡ Ok b → IsUsableKey b.built
  build_key_usable k b e =
      let built = followed (build_data rows k.key_data) _ b e in
      let same : record { id = k.key_id; prefix_type = k.output_prefix_type; built = built.0 } ≡ b = let h = built.2 in cc in
      subst (λ (x : EnabledKey). IsUsableKey x.built) same (build_data_usable k.key_data built.0 built.1)

  build_keys_usable : (ks : List Key) (bs : List EnabledKey) → build_keys rows ks ≡ Ok bs → AreUsableBuilt bs
  build_keys_usable [] bs e = let none : [] ≡ bs = cc in subst AreUsableBuilt none tt
  build_keys_usable (k ∷ ks) bs e =
      let one = followed (build_key rows k) _ bs e in
      let rest = followed (build_keys rows ks) _ bs one.2 in
      let both : one.0 ∷ rest.0 ≡ bs = let h = rest.2 in cc in
      subst AreUsableBuilt both (build_key_usable k one.0 one.1, build_keys_usable ks rest.0 rest.1)

  load_keys_usable : (ks : Keyset) (l : Loaded) → load_keys rows ks ≡ Ok l → IsUsableLoaded l
  load_keys_usable ks l e =
      let built = followed (build_keys rows (enabled ks)) _ l e in
      load_built_usable ks.primary_key_id built.0 l (build_keys_usable (enabled ks) built.0 built.1) built.2

  -- what loads is usable
  pub load_decoded_usable : (o : Option Keyset) (l : Loaded) → load_decoded rows o ≡ Ok l → AreUsable l.keys × IsOfKeyset l.primary
  load_decoded_usable None l e = absurd (cc)
  load_decoded_usable (Some ks) l e = load_keys_usable ks l (passed (is_valid ks) InvalidKeyset (load_keys rows ks) l e)

-- ---- the kinds by which loading refuses

abbrev pub IsOfLoading : Kind → Type 0
IsOfLoading BadKeyset = Unit {0}
IsOfLoading InvalidKeyset = Unit {0}
IsOfLoading UnsupportedKeyType = Unit {0}
IsOfLoading InvalidKey = Unit {0}
IsOfLoading NoPrimary = Unit {0}
IsOfLoading WrongPrimitive = Unit {0}
IsOfLoading _ = ⊥

-- a result refuses by such a kind alone
abbrev Refuses : {A : Type 0} → Result A Kind → Type 0
Refuses (Ok a) = Unit {0}
Refuses (Err kind) = IsOfLoading kind

by_then : {A B : Type 0} (r : Result A Kind) (f : A → Result B Kind) → Refuses r → ((a : A) → Refuses (f a)) → Refuses (r then f)
by_then (Ok a) f p q = q a
by_then (Err of) f p q = p

sound_refuses : (r : Result BuiltKey Kind) → IsSound r → Refuses r
sound_refuses (Ok built) sound = tt
sound_refuses (Err kind) sound = subst IsOfLoading (sym sound) tt

found_refuses : (here : LoadingRow → Bool) (rows : List LoadingRow) → AreSound rows → (value : List ℕ) → Refuses (built_by value (find here rows))
found_refuses here [] u value = tt
found_refuses here (row ∷ rows) u value =
    cond_both (here row) (Some row) (find here rows) (λ o. Refuses (built_by value o)) (λ _. sound_refuses (row.built value) (u.0 value)) (λ _. found_refuses here rows u.1 value)

part_refuses : (k : EnabledKey) (b : BuiltKey) → Refuses (streaming_part k b)
part_refuses k (Streaming key) = tt
part_refuses k Other = tt

parts_refuse : (ks : List EnabledKey) → Refuses (streaming_keys ks)
parts_refuse [] = tt
parts_refuse (k ∷ ks) = by_then (streaming_key k) _ (part_refuses k k.built) (λ one. by_then (streaming_keys ks) _ (parts_refuse ks) (λ rest. tt))

with_primary_refuses : (keys : List LoadedKey) (o : Option StreamKey) → Refuses (with_primary keys o)
with_primary_refuses keys None = tt
with_primary_refuses keys (Some key) = tt

load_built_refuses : (id : ℕ) (ks : List EnabledKey) → Refuses (load_built id ks)
load_built_refuses id ks =
    cond_both (list_any (λ k. nat_eq k.id id) ks) _ (Err NoPrimary) Refuses (λ _. by_then (streaming_keys ks) _ (parts_refuse ks) (λ keys. with_primary_refuses keys (key_of_id id keys))) (λ _. tt)

module _ (rows : List LoadingRow) (all : AreSound rows) where
  build_data_refuses : (o : Option KeyData) → Refuses (build_data rows o)
  build_data_refuses None = tt
  build_data_refuses (Some d) = cond_both (nat_eq (length d.value) 0) (Err InvalidKey) _ Refuses (λ _. tt) (λ _. found_refuses (λ r. bytes_eq r.url d.type_url) rows all d.value)

  build_keys_refuse : (ks : List Key) → Refuses (build_keys rows ks)
  build_keys_refuse [] = tt
  build_keys_refuse (k ∷ ks) =
      by_then (build_key rows k) _ (by_then (build_data rows k.key_data) _ (build_data_refuses k.key_data) (λ built. tt)) (λ one. by_then (build_keys rows ks) _ (build_keys_refuse ks) (λ rest. tt))

  load_refuses : (o : Option Keyset) → Refuses (load_decoded rows o)
  load_refuses None = tt
  load_refuses (Some ks) =
      cond_both (is_valid ks) (load_keys rows ks) (Err InvalidKeyset) Refuses
      (λ _. by_then (build_keys rows (enabled ks)) _ (build_keys_refuse (enabled ks)) (λ built. load_built_refuses ks.primary_key_id built))
      (λ _. tt)

  -- loading refuses by no other kind
  pub load_decoded_refuses : (o : Option Keyset) (kind : Kind) → load_decoded rows o ≡ Err kind → IsOfLoading kind
  load_decoded_refuses o kind e = subst Refuses e (load_refuses o)
