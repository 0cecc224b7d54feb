-- Building the set of a keyset's primitives, key by key.
use Rattle.std.proofs.Common.{◌≡◌, ◌&&◌, ◌||◌, ℕ, suc, ◌+◌, ◌<◌, ◌++◌, ◌∷◌, ◌∙◌, [], List, Bool, true, false, Option, Some, None, Ok, Err, Result, cond, length, drop, get_or, refl, sym, ap, subst, add-one, drop-cons, ◌≤◌}
use Rattle.std.proofs.lemmas.List.{append-nil, drop_all}
use Rattle.std.proofs.lemmas.List.Elements.{filter-append}
use Rattle.std.specs.BTreeMap.{BTreeMap}
use Rattle.std.specs.Prelude.{Vec, filter, find, nat_eq, IsTrue, OnOk}
use Rattle.std.specs.Str.{bytes_eq}
use Rattle.std.specs.List.{list_all}
use Rattle.std.proofs.lemmas.List.Sums.{AllPass-from_list_all}
use Rattle.tink_io.specs.declared.error.Kind.{Kind}
use Rattle.tink_io.specs.declared.error.Kind.TheVariants.{InvalidKeyset}
use Rattle.tink_io.specs.declared.error.TinkError.{TinkError}
use Rattle.tink_io.specs.Answering.{made_of}
use Rattle.tink_proto.specs.declared.messages.keys.Key.{Key}
use Rattle.tink_proto.specs.declared.messages.keys.Keyset.{Keyset}
use Rattle.tink_sets.specs.Entries.{prefix_of}
use Rattle.tink_sets.specs.Groups.{Adds, AreGroupsOf, group_at, group_of}
use Rattle.tink_sets.specs.declared.entry.Entry.{Entry}
use Rattle.tink_sets.specs.declared.primitive_set.PrimitiveSet.{PrimitiveSet}
use Rattle.keyset_model.specs.Keys.{enabled, is_enabled}
use Rattle.keyset_model.specs.Validity.{is_well_formed, is_validated, are_well_formed, has_a_key, has_at_most_one_primary, has_an_enabled_key, has_a_primary, is_all_public}
use Rattle.tink_set_builder.specs.Given.{before, given_each}
use Rattle.tink_set_builder.specs.Built.{GivesSet, HasNoOther, HasOneMore, IsSetOf, TakesKey, primary_after}
use Rattle.tink_set_builder.proofs.GivenEach.{behind, behind_more, none_yet}

-- ---- the keys of a validated keyset are well formed

both : (a b : Bool) → (a && b) ≡ true → (a ≡ true) × (b ≡ true)
both true b e = (refl, e)
both false b e = absurd (cc)

pub well_formed_keys : (ks : Keyset) → IsTrue (is_validated ks) → list_all is_well_formed ks.key ≡ true
well_formed_keys ks h =
    let first = (both _ (has_a_primary ks || is_all_public ks) h).0 in
    let second = (both _ (has_an_enabled_key ks) first).0 in
    let third = (both _ (has_at_most_one_primary ks) second).0 in
    (both (has_a_key ks) (are_well_formed ks) third).1

pub well_formed_at : (keys : List Key) (i : ℕ) (k : Key) → list_all is_well_formed keys ≡ true → i < length keys → k ≡ get_or keys i k → is_well_formed k ≡ true
well_formed_at keys i k h within is = subst (λ x. is_well_formed x ≡ true) (sym is) (AllPass-from_list_all is_well_formed keys h i k within)

-- the enabled keys from a place on
here : (keys : List Key) (i : ℕ) (k : Key) → i < length keys → k ≡ get_or keys i k → filter is_enabled (drop i keys) ≡ cond (is_enabled k) (k ∷ filter is_enabled (drop (i + 1) keys)) (filter is_enabled (drop (i + 1) keys))
here keys i k within is =
    rw (add-one) (ap (filter is_enabled) (drop-cons keys i k within) ∙ ap (λ x. cond (is_enabled x) (x ∷ filter is_enabled (drop (suc i) keys)) (filter is_enabled (drop (suc i) keys))) (sym is))

-- ---- lists of an entry more

none_by : {E : Type 0} (b : Bool) (more : E) (kept group : List E) (o : Option (List E)) → kept ++ cond b (more ∷ []) [] ≡ [] → (kept ≡ [] → o ≡ None) → cond b (Some group) o ≡ None
none_by true more [] group o empty none = absurd (cc)
none_by true more (x ∷ kept) group o empty none = absurd (cc)
none_by false more kept group o empty none = none (sym (append-nil kept) ∙ empty)

-- no list stands under a prefix that none of them has
no_other_more : {E A : Type 0} (prefix_of : E → List ℕ) (more : E) (front : List E) (old new : BTreeMap (Vec ℕ A) (List E)) → Adds (prefix_of more) more old new → HasNoOther prefix_of front old → HasNoOther prefix_of (front ++ more ∷ []) new
no_other_more {E} prefix_of more front old new adds no_other p empty =
    let test : E → Bool = λ e. bytes_eq (prefix_of e) p in
    adds p
    ∙ none_by (bytes_eq (prefix_of more) p) more (filter test front) (group_of old (prefix_of more) ++ more ∷ []) (group_at old p) (sym (filter-append test front (more ∷ [])) ∙ empty) (no_other p)

module _ {K A D HD HE M P S St V : Type 0} where
  -- ---- one key

  -- an enabled key that builds
  pub takes_built : {B : Type 0} (id : ℕ) (on : Bool) (entry : B → Entry K A D HD HE M P S St V) (built : Result B Kind) (b : B) (old new : PrimitiveSet K A D HD HE M P S St V) (r : Result (Unit {0}) TinkError)
      → on ≡ true → built ≡ Ok b → OnOk r (HasOneMore id (entry b) old new)
      → OnOk r (TakesKey id on (made_of entry built) old new)
  takes_built id on entry built b old new (Ok _) is given h = rw is (entry b, ap (made_of entry) given, h)
  takes_built id on entry built b old new (Err _) is given h = tt

  -- ---- key by key

  -- the first of an id, with one entry more behind
  first_with_more : (id : ℕ) (es : List (Entry K A D HD HE M P S St V)) (e : Entry K A D HD HE M P S St V)
      → find (λ x. nat_eq x.key_id id) (es ++ e ∷ []) ≡ primary_after (λ x. x.key_id) id (find (λ x. nat_eq x.key_id id) es) e
  first_with_more id [] e = refl
  first_with_more id (x ∷ es) e =
      by_test (nat_eq x.key_id id) (find (λ y. nat_eq y.key_id id) (es ++ e ∷ [])) (find (λ y. nat_eq y.key_id id) es) (first_with_more id es e)
    where
      by_test : (here : Bool) (later found : Option (Entry K A D HD HE M P S St V)) → later ≡ primary_after (λ y. y.key_id) id found e → cond here (Some x) later ≡ primary_after (λ y. y.key_id) id (cond here (Some x) found) e
      by_test true later found is = refl
      by_test false later found is = is

  -- i keys are done: what they gave is in the set
  pub record IsBuilt (give : Key → Result (Entry K A D HD HE M P S St V) Kind) (id : ℕ) (keys : List Key) (i : ℕ) (set : PrimitiveSet K A D HD HE M P S St V) : Type 0 where
    pub front : List (Entry K A D HD HE M P S St V)
    pub told : given_each give (filter is_enabled keys) ≡ behind front (given_each give (filter is_enabled (drop i keys)))
    pub has : IsSetOf id front set

  pub none_built : (give : Key → Result (Entry K A D HD HE M P S St V) Kind) (id : ℕ) (keys : List Key) (set : PrimitiveSet K A D HD HE M P S St V) → set.primary ≡ None → AreGroupsOf prefix_of [] set.entries → ((prefix : List ℕ) → group_at set.entries prefix ≡ None) → IsBuilt give id keys 0 set
  none_built give id keys set none empty no_lists =
      record { front = []; told = none_yet (given_each give (filter is_enabled keys)); has = record { by_prefix = empty; no_other = λ p is. no_lists p; by_id = none } }

  step_by : (give : Key → Result (Entry K A D HD HE M P S St V) Kind) (id : ℕ) (keys : List Key) (i : ℕ) (k : Key) (on : Bool) (old new : PrimitiveSet K A D HD HE M P S St V)
      → filter is_enabled (drop i keys) ≡ cond on (k ∷ filter is_enabled (drop (i + 1) keys)) (filter is_enabled (drop (i + 1) keys))
      → TakesKey id on (give k) old new → IsBuilt give id keys i old → IsBuilt give id keys (i + 1) new
  step_by give id keys i k false old new at same built =
      record {
        front = built.front;
        told = built.told ∙ ap (λ ks. behind built.front (given_each give ks)) at;
        has = subst (IsSetOf id built.front) (sym same) built.has;
      }
  step_by give id keys i k true old new at taken built =
      let more = taken.0 in
      let rest = given_each give (filter is_enabled (drop (i + 1) keys)) in
      record {
        front = built.front ++ more ∷ [];
        told = built.told ∙ ap (λ ks. behind built.front (given_each give ks)) at ∙ ap (λ r. behind built.front (before r rest)) taken.1 ∙ behind_more built.front more rest;
        has = record {
          by_prefix = taken.2.by_prefix built.front built.has.by_prefix;
          no_other = no_other_more prefix_of more built.front old.entries new.entries taken.2.added built.has.no_other;
          by_id = taken.2.by_id ∙ ap (λ p. primary_after (λ e. e.key_id) id p more) built.has.by_id ∙ sym (first_with_more id built.front more);
        };
      }

  pub one_built : (give : Key → Result (Entry K A D HD HE M P S St V) Kind) (id : ℕ) (keys : List Key) (i : ℕ) (k : Key) (old new : PrimitiveSet K A D HD HE M P S St V)
      → i < length keys → k ≡ get_or keys i k → TakesKey id (is_enabled k) (give k) old new
      → IsBuilt give id keys i old → IsBuilt give id keys (i + 1) new
  one_built give id keys i k old new within is = step_by give id keys i k (is_enabled k) old new (here keys i k within is)

  -- a key that doesn't build
  pub refused_built : (give : Key → Result (Entry K A D HD HE M P S St V) Kind) (id : ℕ) (keys : List Key) (i : ℕ) (k : Key) (set : PrimitiveSet K A D HD HE M P S St V) (kind : Kind)
      → i < length keys → k ≡ get_or keys i k → is_enabled k ≡ true → give k ≡ Err kind
      → IsBuilt give id keys i set → given_each give (filter is_enabled keys) ≡ Err kind
  refused_built give id keys i k set kind within is on refused built =
      built.told
      ∙ ap (λ ks. behind built.front (given_each give ks)) (here keys i k within is)
      ∙ ap (λ b. behind built.front (given_each give (cond b (k ∷ filter is_enabled (drop (i + 1) keys)) (filter is_enabled (drop (i + 1) keys))))) on
      ∙ ap (λ r. behind built.front (before r (given_each give (filter is_enabled (drop (i + 1) keys))))) refused

  pub all_built : (give : Key → Result (Entry K A D HD HE M P S St V) Kind) (id : ℕ) (keys : List Key) (i : ℕ) (set : PrimitiveSet K A D HD HE M P S St V)
      → length keys ≤ i → (built : IsBuilt give id keys i set) → given_each give (filter is_enabled keys) ≡ Ok built.front
  all_built give id keys i set end built =
      built.told ∙ ap (λ ks. behind built.front (given_each give (filter is_enabled ks))) (drop_all i keys end) ∙ ap Ok (append-nil built.front)

-- a set of a validated keyset
pub set_given : {S E : Type 0} (holds : ℕ → List E → S → Type 0) (r : Result S TinkError) (give : Key → Result E Kind) (ks : Keyset) (keys : List Key) (id : ℕ)
    → is_validated ks ≡ true → keys ≡ ks.key → id ≡ ks.primary_key_id → GivesSet (holds id) r (given_each give (filter is_enabled keys))
    → GivesSet (holds ks.primary_key_id) r (cond (is_validated ks) (given_each give (enabled ks)) (Err InvalidKeyset))
set_given holds r give ks keys id valid same_keys same_id h =
    let of_keys = subst (λ xs. GivesSet (holds id) r (given_each give (filter is_enabled xs))) same_keys h in
    let of_id = subst (λ n. GivesSet (holds n) r (given_each give (filter is_enabled ks.key))) same_id of_keys in
    rw valid of_id

pub none_given : {E : Type 0} (built : Result (List E) Kind) (ks : Keyset) (e : TinkError) → is_validated ks ≡ false → e ≡ record { kind = InvalidKeyset } → cond (is_validated ks) built (Err InvalidKeyset) ≡ Err e.kind
none_given built ks e broken is = rw (broken, is) refl
