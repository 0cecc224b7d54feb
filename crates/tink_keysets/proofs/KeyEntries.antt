-- The entries that the enabled keys of a keyset build, as some of one sort.
use Rattle.std.proofs.Common.{◌≡◌, ◌∙◌, ◌⊎◌, ℕ, List, [], ◌∷◌, Bool, true, false, cond, Option, None, Some, Result, Ok, Err, length, refl, sym, ap, subst, inl, inr, ⊎_elim, arith}
use Rattle.std.specs.Prelude.{find, nat_eq, unwrap_or}
use Rattle.std.specs.List.{All, Contains}
use Rattle.std.specs.Ordering.{int_eq}
use Rattle.std.proofs.lemmas.Bool.{eqb-true}
use Rattle.std.proofs.lemmas.List.Elements.{All-cons, All-contains, All-nil, All-weaker, Contains-append_left, Contains-append_right, Contains-append_cases, Contains-push, Contains-push_cases}
use Rattle.tink_io.specs.declared.error.Kind.{Kind}
use Rattle.tink_io.specs.declared.error.Kind.TheVariants.{InvalidKey, InvalidKeyset, NoPrimary}
use Rattle.tink_io.specs.Answering.{made_of}
use Rattle.tink_proto.specs.Enums.{prefix_number}
use Rattle.tink_proto.specs.declared.enums.OutputPrefixType.{OutputPrefixType}
use Rattle.tink_proto.specs.declared.enums.OutputPrefixType.TheVariants.{Tink, Legacy, Raw, Crunchy}
use Rattle.tink_proto.specs.declared.messages.keys.Key.{Key}
use Rattle.tink_proto.specs.declared.messages.keys.KeyData.{KeyData}
use Rattle.tink_proto.specs.declared.messages.keys.Keyset.{Keyset}
use Rattle.tink_primitives.specs.declared.primitive.Primitive.{Primitive}
use Rattle.tink_registry.specs.Listed.{builds_by, manager_of}
use Rattle.tink_sets.specs.Converting.{before, converted}
use Rattle.tink_sets.specs.Entries.{entry_of, entry_of_id, own_prefix, typed_by, with_primitive}
use Rattle.tink_sets.specs.declared.entry.Entry.{Entry}
use Rattle.tink_sets.specs.declared.entry.TypedEntry.{TypedEntry}
use Rattle.tink_set_builder.specs.Given as given
use Rattle.tink_keysets.specs.Built as built
use Rattle.keyset_model.specs.Keys.{enabled}
use Rattle.keyset_model.specs.Entries.{byte_and_id}
use Rattle.tink_keysets.specs.Typing.{key_entry, keyset_entries, typed_entries, typed_entry}

-- ---- what a list gives, one by one

module _ {S T : Type 0} (f : S → Result T Kind) where
  abbrev GivesIn : List T → S → Type 0
  GivesIn ys x = (y : T) → f x ≡ Ok y → Contains ys y

  in_more : (v : T) (ys : List T) (x : S) → GivesIn ys x → GivesIn (v ∷ ys) x
  in_more v ys x h y is = Contains-append_right (v ∷ []) ys y (h y is)

  in_first : (v : T) (ys : List T) (x : S) → f x ≡ Ok v → GivesIn (v ∷ ys) x
  in_first v ys x one y is =
      let same : v ≡ y = cc in
      subst (Contains (v ∷ ys)) same (Contains-append_left (v ∷ []) ys v (Contains-push [] v))

  -- the value of each of a list that is converted
  each_converted : (x : S) (r : Result T Kind) (xs : List S) (rest : Result (List T) Kind) (ys : List T) → f x ≡ r → ((vs : List T) → rest ≡ Ok vs → All (GivesIn vs) xs) → before r rest ≡ Ok ys → All (GivesIn ys) (x ∷ xs)
  each_converted x (Err k) xs rest ys is more e = absurd (cc)
  each_converted x (Ok v) xs (Err k) ys is more e = absurd (cc)
  each_converted x (Ok v) xs (Ok vs) ys is more e =
      let same : v ∷ vs ≡ ys = cc in
      subst (λ l. All (GivesIn l) (x ∷ xs)) same
      (All-cons (GivesIn (v ∷ vs)) x xs (in_first v vs x is) (All-weaker (GivesIn vs) (GivesIn (v ∷ vs)) (in_more v vs) xs (more vs refl)))

  all_converted : (xs : List S) (ys : List T) → converted f xs ≡ Ok ys → All (GivesIn ys) xs
  all_converted [] ys e = All-nil (GivesIn ys)
  all_converted (x ∷ xs) ys e = each_converted x (f x) xs (converted f xs) ys refl (all_converted xs) e

  same_before : (r : Result T Kind) (rest : Result (List T) Kind) → given.before r rest ≡ before r rest
  same_before (Ok v) (Ok vs) = refl
  same_before (Ok v) (Err k) = refl
  same_before (Err k) rest = refl

  given-converted : (xs : List S) → given.given_each f xs ≡ converted f xs
  given-converted [] = refl
  given-converted (x ∷ xs) = ap (given.before (f x)) (given-converted xs) ∙ same_before (f x) (converted f xs)

  in_converted : (xs : List S) (ys : List T) (x : S) (y : T) → converted f xs ≡ Ok ys → Contains xs x → f x ≡ Ok y → Contains ys y
  in_converted xs ys x y all there one = All-contains (GivesIn ys) xs x (all_converted xs ys all) there y one

  -- and what each value of a list was made of
  abbrev pub IsMadeIn : List S → T → Type 0
  IsMadeIn xs y = (x : S) × (Contains xs x) × (f x ≡ Ok y)

  made_first : (x : S) (xs : List S) (v y : T) → f x ≡ Ok v → v ≡ y → IsMadeIn (x ∷ xs) y
  made_first x xs v y is same = (x, Contains-append_left (x ∷ []) xs x (Contains-push [] x), is ∙ ap Ok same)

  made_later : (x : S) (xs : List S) (y : T) → IsMadeIn xs y → IsMadeIn (x ∷ xs) y
  made_later x xs y made = (made.0, Contains-append_right (x ∷ []) xs made.0 made.1, made.2)

  in_none : (y : T) → Contains [] y → ⊥
  in_none y there = absurd (omega arith)

  in_one : (v y : T) → Contains (v ∷ []) y → v ≡ y
  in_one v y there = ⊎_elim (λ none. absurd (in_none y none)) (λ e. e) (Contains-push_cases [] v y there)

  made_before : (x : S) (r : Result T Kind) (xs : List S) (rest : Result (List T) Kind) (ys : List T) (y : T) → f x ≡ r → ((vs : List T) → rest ≡ Ok vs → Contains vs y → IsMadeIn xs y)
      → before r rest ≡ Ok ys → Contains ys y → IsMadeIn (x ∷ xs) y
  made_before x (Err k) xs rest ys y is more e there = absurd (cc)
  made_before x (Ok v) xs (Err k) ys y is more e there = absurd (cc)
  made_before x (Ok v) xs (Ok vs) ys y is more e there =
      let same : v ∷ vs ≡ ys = cc in
      ⊎_elim (λ one. made_first x xs v y is (in_one v y one)) (λ later. made_later x xs y (more vs refl later)) (Contains-append_cases (v ∷ []) vs y (subst (λ l. Contains l y) (sym same) there))

  none_made : (ys : List T) → converted f [] ≡ Ok ys → [] ≡ ys
  none_made ys e = cc

  of_converted : (xs : List S) (ys : List T) (y : T) → converted f xs ≡ Ok ys → Contains ys y → IsMadeIn xs y
  of_converted [] ys y e there = absurd (in_none y (subst (λ l. Contains l y) (sym (none_made ys e)) there))
  of_converted (x ∷ xs) ys y e there = made_before x (f x) xs (converted f xs) ys y refl (λ vs is later. of_converted xs vs y is later) e there

-- ---- prefixes

abbrev pub IsOwnPrefix : List ℕ → Type 0
IsOwnPrefix p = (length p ≡ 5) ⊎ (p ≡ [])

known_prefix : (tink legacy crunchy raw : Bool) (p q r : List ℕ) → length p ≡ 5 → length q ≡ 5 → length r ≡ 5 → IsOwnPrefix (unwrap_or (cond tink (Some p) (cond legacy (Some q) (cond crunchy (Some r) (cond raw (Some []) None)))) [])
known_prefix true legacy crunchy raw p q r a b c = inl a
known_prefix false true crunchy raw p q r a b c = inl b
known_prefix false false true raw p q r a b c = inl c
known_prefix false false false true p q r a b c = inr refl
known_prefix false false false false p q r a b c = inr refl

own_is : (k : Key) → IsOwnPrefix (own_prefix k)
own_is k =
    let is_of : OutputPrefixType → Bool = λ t. int_eq k.output_prefix_type (prefix_number t) in
    known_prefix (is_of Tink) (is_of Legacy) (is_of Crunchy) (is_of Raw) (byte_and_id 1 k.key_id) (byte_and_id 0 k.key_id) (byte_and_id 0 k.key_id) refl refl refl

-- ---- the entry of an enabled key

pub cond_ok : {T : Type 0} (b : Bool) (r : Result T Kind) (k : Kind) (v : T) → cond b r (Err k) ≡ Ok v → r ≡ Ok v
cond_ok true r k v e = e
cond_ok false r k v e = absurd (cc)

pub made_ok : {S T : Type 0} (f : S → T) (r : Result S Kind) (v : T) → made_of f r ≡ Ok v → (x : S) × (r ≡ Ok x) × (f x ≡ v)
made_ok f (Ok x) v e = let same : f x ≡ v = cc in (x, refl, same)
made_ok f (Err k) v e = absurd (cc)

module _ {K A D HD HE M P S St V Q : Type 0} (pick : Primitive K A D HD HE M P S St V → Result Q Kind) where
  pub typed_ok : (r : Result (Entry K A D HD HE M P S St V) Kind) (e : TypedEntry Q) → typed_entry pick r ≡ Ok e → (b : Entry K A D HD HE M P S St V) × (r ≡ Ok b) × (typed_by pick b ≡ Ok e)
  typed_ok (Ok b) e is = (b, refl, is)
  typed_ok (Err k) e is = absurd (cc)

-- ---- what is found is in the list

module _ {X : Type 0} (t : X → Bool) where
  found_by : (b : Bool) (x : X) (rest : List X) (y : X) → t x ≡ b → (find t rest ≡ Some y → Contains rest y × (t y ≡ true)) → cond b (Some x) (find t rest) ≡ Some y → Contains (x ∷ rest) y × (t y ≡ true)
  found_by true x rest y is later e =
      let same : x ≡ y = cc in
      subst (λ z. Contains (x ∷ rest) z × (t z ≡ true)) same (Contains-append_left (x ∷ []) rest x (Contains-push [] x), is)
  found_by false x rest y is later e = let w = later e in (Contains-append_right (x ∷ []) rest y w.0, w.1)

  found : (xs : List X) (y : X) → find t xs ≡ Some y → Contains xs y × (t y ≡ true)
  found [] y e = absurd (cc)
  found (x ∷ xs) y e = found_by (t x) x xs y refl (found xs y) e

module _ {R K A D HD HE M P S St V Q : Type 0} (pick : Primitive K A D HD HE M P S St V → Result Q Kind)
    (url : R → List ℕ) (supports : R → List ℕ → Bool) (builds : R → List ℕ → Result (Primitive K A D HD HE M P S St V) Kind) (managers : List R) where
  abbrev give : Key → Result (Entry K A D HD HE M P S St V) Kind
  give = built.built_entry url supports builds entry_of managers None

  abbrev data_of : Key → Result (Primitive K A D HD HE M P S St V) Kind
  data_of k = built.built_data url supports builds managers None k.key_data

  abbrev own_entry : Key → Result (TypedEntry Q) Kind
  own_entry = key_entry pick url supports builds managers

  abbrev entries : Keyset → Result (List (TypedEntry Q)) Kind
  entries = keyset_entries pick url supports builds managers

  entry_prefix : (k : Key) (b : Entry K A D HD HE M P S St V) → give k ≡ Ok b → own_prefix k ≡ b.prefix
  entry_prefix k b is =
      let w = made_ok (λ p. entry_of p k) (data_of k) b is in
      ap (λ (x : Entry K A D HD HE M P S St V). x.prefix) {x = entry_of w.0 k} w.2

  typed_prefix : (b : Entry K A D HD HE M P S St V) (e : TypedEntry Q) → typed_by pick b ≡ Ok e → b.prefix ≡ e.prefix
  typed_prefix b e is =
      let w = made_ok (with_primitive b) (pick b.primitive) e is in
      ap (λ (x : TypedEntry Q). x.prefix) w.2

  entry_id : (k : Key) (b : Entry K A D HD HE M P S St V) → give k ≡ Ok b → k.key_id ≡ b.key_id
  entry_id k b is =
      let w = made_ok (λ p. entry_of p k) (data_of k) b is in
      ap (λ (x : Entry K A D HD HE M P S St V). x.key_id) {x = entry_of w.0 k} w.2

  typed_id : (b : Entry K A D HD HE M P S St V) (e : TypedEntry Q) → typed_by pick b ≡ Ok e → b.key_id ≡ e.key_id
  typed_id b e is =
      let w = made_ok (with_primitive b) (pick b.primitive) e is in
      ap (λ (x : TypedEntry Q). x.key_id) w.2

  key_id_of : (k : Key) (b : Entry K A D HD HE M P S St V) (e : TypedEntry Q) → give k ≡ Ok b → typed_by pick b ≡ Ok e → k.key_id ≡ e.key_id
  key_id_of k b e is typed = entry_id k b is ∙ typed_id b e typed

  entry_typed : (k : Key) (b : Entry K A D HD HE M P S St V) (e : TypedEntry Q) → give k ≡ Ok b → typed_by pick b ≡ Ok e → own_entry k ≡ Ok e
  entry_typed k b e is typed = ap (typed_entry pick) is ∙ typed

  by_list : (id : ℕ) (r : Result (List (Entry K A D HD HE M P S St V)) Kind) (es : List (TypedEntry Q)) → typed_entries pick id r ≡ Ok es → (bs : List (Entry K A D HD HE M P S St V)) × (r ≡ Ok bs) × (converted (typed_by pick) bs ≡ Ok es)
  by_list id (Ok bs) es is = (bs, refl, cond_ok _ (converted (typed_by pick) bs) NoPrimary es is)
  by_list id (Err k) es is = absurd (cc)

  -- a prefix of five bytes, or none
  pub of_own_prefix : (k : Key) (e : TypedEntry Q) → own_entry k ≡ Ok e → IsOwnPrefix e.prefix
  of_own_prefix k e is =
      let one = typed_ok pick (give k) e is in
      subst IsOwnPrefix (entry_prefix k one.0 one.1 ∙ typed_prefix one.0 e one.2) (own_is k)

  -- the entry of an enabled key is among those of its keyset
  pub of_enabled : (ks : Keyset) (k : Key) (e : TypedEntry Q) (es : List (TypedEntry Q)) → own_entry k ≡ Ok e → Contains (enabled ks) k → entries ks ≡ Ok es → Contains es e
  of_enabled ks k e es is there all =
      let one = typed_ok pick (give k) e is in
      let list = by_list ks.primary_key_id (built.built_entries url supports builds entry_of managers None ks) es all in
      let given = cond_ok _ (given.given_each give (enabled ks)) InvalidKeyset list.0 list.1 in
      let kept = in_converted give (enabled ks) list.0 k one.0 (sym (given-converted give (enabled ks)) ∙ given) there one.1 in
      in_converted (typed_by pick) list.0 es one.0 e list.2 kept one.2

  -- each of them is that of an enabled key, whose id it has
  entry_key : (ks : Keyset) (e : TypedEntry Q) (es : List (TypedEntry Q)) → entries ks ≡ Ok es → Contains es e
      → (k : Key) × (Contains (enabled ks) k) × (own_entry k ≡ Ok e) × (k.key_id ≡ e.key_id)
  entry_key ks e es all there =
      let list = by_list ks.primary_key_id (built.built_entries url supports builds entry_of managers None ks) es all in
      let given = cond_ok _ (given.given_each give (enabled ks)) InvalidKeyset list.0 list.1 in
      let typed = of_converted (typed_by pick) list.0 es e list.2 there in
      let made = of_converted give (enabled ks) list.0 typed.0 (sym (given-converted give (enabled ks)) ∙ given) typed.1 in (
        made.0,
        made.1,
        entry_typed made.0 typed.0 e made.2 typed.2,
        key_id_of made.0 typed.0 e made.2 typed.2,
      )

  -- the primary entry is that of an enabled key of the primary id
  pub primary_key : (ks : Keyset) (es : List (TypedEntry Q)) (e : TypedEntry Q) → entries ks ≡ Ok es → entry_of_id ks.primary_key_id es ≡ Some e
      → (k : Key) × (Contains (enabled ks) k) × (own_entry k ≡ Ok e) × (ks.primary_key_id ≡ k.key_id)
  primary_key ks es e all is =
      let there = found (λ x. nat_eq x.key_id ks.primary_key_id) es e is in
      let own = entry_key ks e es all there.0 in
      (own.0, own.1, own.2, sym (own.3 ∙ eqb-true e.key_id ks.primary_key_id there.1))

  pub primary_there : (ks : Keyset) (es : List (TypedEntry Q)) (e : TypedEntry Q) → entry_of_id ks.primary_key_id es ≡ Some e → Contains es e
  primary_there ks es e is = (found (λ x. nat_eq x.key_id ks.primary_key_id) es e is).0

  -- ---- the manager that built an entry's primitive

  unrefused : {T : Type 0} (b : Bool) (r : Result T Kind) (k : Kind) (v : T) → cond b (Err k) r ≡ Ok v → r ≡ Ok v
  unrefused true r k v e = absurd (cc)
  unrefused false r k v e = e

  by_manager : (value : List ℕ) (o : Option R) (q : Primitive K A D HD HE M P S St V) → builds_by builds value o ≡ Ok q → (m : R) × (v : List ℕ) × (builds m v ≡ Ok q)
  by_manager value None q e = absurd (cc)
  by_manager value (Some m) q e = (m, value, e)

  by_data : (d : Option KeyData) (q : Primitive K A D HD HE M P S St V) → built.built_data url supports builds managers None d ≡ Ok q → (m : R) × (v : List ℕ) × (builds m v ≡ Ok q)
  by_data None q e = absurd (cc)
  by_data (Some d) q e = by_manager d.value (manager_of url d.type_url managers) q (unrefused (nat_eq (length d.value) 0) (builds_by builds d.value (manager_of url d.type_url managers)) InvalidKey q e)

  key_built : (k : Key) (e : TypedEntry Q) → own_entry k ≡ Ok e
      → (m : R) × (v : List ℕ) × (q : Primitive K A D HD HE M P S St V) × (builds m v ≡ Ok q) × (pick q ≡ Ok e.primitive)
  key_built k e is =
      let b = typed_ok pick (give k) e is in
      let q = made_ok (λ p. entry_of p k) (data_of k) b.0 b.1 in
      let p = made_ok (with_primitive b.0) (pick b.0.primitive) e b.2 in
      let by = by_data k.key_data q.0 q.1 in
      let first : q.0 ≡ b.0.primitive = ap (λ (x : Entry K A D HD HE M P S St V). x.primitive) {x = entry_of q.0 k} q.2 in
      let same : p.0 ≡ e.primitive = ap (λ (x : TypedEntry Q). x.primitive) {x = with_primitive b.0 p.0} p.2 in
      (by.0, by.1, q.0, by.2, ap pick first ∙ p.1 ∙ ap Ok same)

  -- what holds of each primitive of the sort that a manager builds holds of an entry's
  pub key_holds : (Has : Q → Type 0) → ((m : R) (v : List ℕ) (q : Primitive K A D HD HE M P S St V) (p : Q) → builds m v ≡ Ok q → pick q ≡ Ok p → Has p)
      → (k : Key) (e : TypedEntry Q) → own_entry k ≡ Ok e → Has e.primitive
  key_holds Has holds k e is = let made = key_built k e is in holds made.0 made.1 made.2 e.primitive made.3 made.4
