-- What edits keep.
use Rattle.std.proofs.Common.{◌≡◌, ◌&&◌, ◌++◌, ℕ, ℤ, pos, List, [], ◌∷◌, Bool, true, false, Option, Some, None, Ok, Err, Result, cond, refl, sym, subst, ◌∙◌}
use Rattle.std.specs.Prelude.{find}
use Rattle.std.specs.Option.{option_map}
use Rattle.std.specs.List.{list_all}
use Rattle.std.specs.Ordering.{int_eq}
use Rattle.std.proofs.lemmas.List.Folds.{list_all-append}
use Rattle.std.proofs.lemmas.Bool.Decides.{Decides-int_eq}
use Rattle.tink_io.specs.declared.error.Kind.{Kind}
use Rattle.tink_proto.specs.declared.enums.KeyStatusType.{KeyStatusType}
use Rattle.tink_proto.specs.declared.messages.keys.Key.{Key}
use Rattle.tink_proto.specs.declared.messages.keys.KeyData.{KeyData}
use Rattle.tink_proto.specs.declared.messages.keys.Keyset.{Keyset}
use Rattle.tink_proto.specs.Enums.{status_number}
use Rattle.keyset_model.specs.Keys.{has_id}
use Rattle.keyset_model.specs.Validity.{fits_handle}
use Rattle.keyset_model.specs.Operations.{keyset_after}
use Rattle.keyset_model.specs.Edits.{as_destroyed, is_live, status_of, with_first, with_status, without_first}
use Rattle.keyset_model.specs.Laws.{RefusedEditLeaves}

left_by : (ks : Keyset) (r : Result Keyset Kind) (kind : Kind) → r ≡ Err kind → keyset_after ks r ≡ ks
left_by ks (Ok new) kind e = absurd (cc)
left_by ks (Err _) kind e = refl

pub refused_edit_leaves : RefusedEditLeaves
refused_edit_leaves makes ks command draws kind e = left_by ks _ kind e

-- ---- keys that a handle may hold

pub both : (a b : Bool) → (a && b) ≡ true → (a ≡ true) × (b ≡ true)
both true b e = (refl, e)
both false b e = absurd (cc)

pub joined : (a b : Bool) → a ≡ true → b ≡ true → (a && b) ≡ true
joined a b x y = rw (x, y) refl

-- a change of a key, or of the keys behind it, by a test
all_by : (test : Key → Bool) (here : Bool) (k x : Key) (s : ℤ) (ks after : List Key) (found : Option Key) → option_map (λ y. y.status) (cond here (Some k) found) ≡ Some s
    → list_all test (k ∷ ks) ≡ true → (k.status ≡ s → test x ≡ true) → (option_map (λ y. y.status) found ≡ Some s → list_all test after ≡ true)
    → list_all test (cond here (x ∷ ks) (k ∷ after)) ≡ true
all_by test true k x s ks after found e all changed later = joined (test x) (list_all test ks) (changed (cc)) (both (test k) (list_all test ks) all).1
all_by test false k x s ks after found e all changed later = joined (test k) (list_all test after) (both (test k) (list_all test ks) all).0 (later e)

pub all_first : (test : Key → Bool) (change : Key → Key) (s : ℤ) → ((k : Key) → k.status ≡ s → test k ≡ true → test (change k) ≡ true) → (id : ℕ) (keys : List Key) → status_of id keys ≡ Some s
    → list_all test keys ≡ true → list_all test (with_first id change keys) ≡ true
all_first test change s each id [] e all = refl
all_first test change s each id (k ∷ ks) e all =
    let parts = both (test k) (list_all test ks) all in
    all_by test (has_id id k) k (change k) s ks (with_first id change ks) (find (has_id id) ks) e all (λ q. each k q parts.0) (λ q. all_first test change s each id ks q parts.1)

pub not_both : (s : ℤ) → is_live s ≡ true → int_eq s (pos 3) ≡ true → ⊥
not_both s live gone =
    let same : s ≡ pos 3 = (Decides-int_eq s (pos 3)).0 gone in
    let no : is_live (pos 3) ≡ true = subst (λ x. is_live x ≡ true) same live in
    absurd (cc)

-- a key that is enabled or disabled has data, so it is held under every status
live_held : (d : Option KeyData) (s t : ℤ) (id : ℕ) (prefix : ℤ) → is_live s ≡ true
    → fits_handle (record { key_data = d; status = s; key_id = id; output_prefix_type = prefix }) ≡ true
    → fits_handle (record { key_data = d; status = t; key_id = id; output_prefix_type = prefix }) ≡ true
live_held (Some d) s t id prefix live held = held
live_held None s t id prefix live held = absurd (not_both s live (both _ true held).0)

pub held_with_status : (status : KeyStatusType) (id : ℕ) (keys : List Key) (s : ℤ) → status_of id keys ≡ Some s → is_live s ≡ true
    → list_all fits_handle keys ≡ true → list_all fits_handle (with_first id (with_status status) keys) ≡ true
held_with_status status id keys s e live held =
    all_first fits_handle (with_status status) s (λ k q h. live_held k.key_data k.status (status_number status) k.key_id k.output_prefix_type (subst (λ x. is_live x ≡ true) (sym q) live) h) id keys e held

pub held_as_destroyed : (id : ℕ) (keys : List Key) (s : ℤ) → status_of id keys ≡ Some s → list_all fits_handle keys ≡ true → list_all fits_handle (with_first id as_destroyed keys) ≡ true
held_as_destroyed id keys s e held = all_first fits_handle as_destroyed s (λ k q h. refl) id keys e held

without_by : (test : Key → Bool) (here : Bool) (k : Key) (ks after : List Key) → list_all test (k ∷ ks) ≡ true → list_all test after ≡ true → list_all test (cond here ks (k ∷ after)) ≡ true
without_by test true k ks after all later = (both (test k) (list_all test ks) all).1
without_by test false k ks after all later = joined (test k) (list_all test after) (both (test k) (list_all test ks) all).0 later

pub all_without : (test : Key → Bool) (id : ℕ) (keys : List Key) → list_all test keys ≡ true → list_all test (without_first id keys) ≡ true
all_without test id [] all = refl
all_without test id (k ∷ ks) all = without_by test (has_id id k) k ks (without_first id ks) all (all_without test id ks (both (test k) (list_all test ks) all).1)

pub held_without : (id : ℕ) (keys : List Key) → list_all fits_handle keys ≡ true → list_all fits_handle (without_first id keys) ≡ true
held_without id keys held = all_without fits_handle id keys held

pub all_more : (test : Key → Bool) (keys : List Key) (k : Key) → test k ≡ true → list_all test keys ≡ true → list_all test (keys ++ k ∷ []) ≡ true
all_more test keys k one all = list_all-append test keys (k ∷ []) ∙ joined (list_all test keys) (list_all test (k ∷ [])) all (joined (test k) true one refl)

pub held_more : (keys : List Key) (k : Key) → fits_handle k ≡ true → list_all fits_handle keys ≡ true → list_all fits_handle (keys ++ k ∷ []) ≡ true
held_more keys k one held = all_more fits_handle keys k one held
