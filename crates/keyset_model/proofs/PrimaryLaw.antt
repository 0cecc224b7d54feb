-- Where an enabled key has the primary id, one has it after all commands.
use Rattle.std.proofs.Common.{◌≡◌, ◌&&◌, ◌||◌, ◌++◌, ℕ, ℤ, List, [], ◌∷◌, Bool, true, false, Option, Some, cond, refl, arith}
use Rattle.std.specs.Prelude.{find, nat_eq}
use Rattle.std.specs.Option.{option_map}
use Rattle.std.specs.List.{list_any}
use Rattle.std.proofs.lemmas.Bool.Decides.{nat_tests}
use Rattle.tink_proto.specs.declared.enums.KeyStatusType.TheVariants.{Enabled}
use Rattle.tink_proto.specs.declared.messages.keys.Key.{Key}
use Rattle.tink_proto.specs.declared.messages.keys.Keyset.{Keyset}
use Rattle.tink_proto.specs.Enums.{status_number}
use Rattle.keyset_model.specs.Adding.{new_key}
use Rattle.keyset_model.specs.Operations as commands
use Rattle.keyset_model.specs.Operations.{Operation, Maker}
use Rattle.keyset_model.specs.Edits.{status_of, with_first, with_status, without_first}
use Rattle.keyset_model.specs.Keys.{has_id, is_enabled, is_enabled_with}
use Rattle.keyset_model.specs.Laws.{KeepsPrimary}
use Rattle.keyset_model.specs.Validity.{has_a_primary}
use Rattle.keyset_model.proofs.EditLaws.{both}
use Rattle.keyset_model.proofs.Steps.{Becomes, kept_by_all}

-- ---- a test that some key passes

pub passes : (a b x y : Bool) → (a || x) ≡ true → (a ≡ true → b ≡ true) → (x ≡ true → y ≡ true) → (b || y) ≡ true
passes true b x y any one more = rw (one refl) refl
passes false true x y any one more = refl
passes false false x y any one more = more any

first_of : (here : Bool) (test : Key → Bool) (k x : Key) (ks after : List Key) → (test k || list_any test ks) ≡ true → (here ≡ true → test k ≡ true → test x ≡ true) → (list_any test ks ≡ true → list_any test after ≡ true)
    → list_any test (cond here (x ∷ ks) (k ∷ after)) ≡ true
first_of true test k x ks after any changed later = passes (test k) (test x) (list_any test ks) (list_any test ks) any (changed refl) (λ e. e)
first_of false test k x ks after any changed later = passes (test k) (test k) (list_any test ks) (list_any test after) any (λ e. e) later

any_first : (test : Key → Bool) (id : ℕ) (change : Key → Key) → ((k : Key) → has_id id k ≡ true → test k ≡ true → test (change k) ≡ true) → (keys : List Key) → list_any test keys ≡ true → list_any test (with_first id change keys) ≡ true
any_first test id change each [] any = any
any_first test id change each (k ∷ ks) any = first_of (has_id id k) test k (change k) ks (with_first id change ks) any (each k) (any_first test id change each ks)

without_one : (here : Bool) (test : Key → Bool) (k : Key) (ks after : List Key) → (test k || list_any test ks) ≡ true → (here ≡ true → test k ≡ true → ⊥) → (list_any test ks ≡ true → list_any test after ≡ true)
    → list_any test (cond here ks (k ∷ after)) ≡ true
without_one true test k ks after any other later = passes (test k) false (list_any test ks) (list_any test ks) any (λ e. absurd (other refl e)) (λ e. e)
without_one false test k ks after any other later = passes (test k) (test k) (list_any test ks) (list_any test after) any (λ e. e) later

any_without : (test : Key → Bool) (id : ℕ) → ((k : Key) → has_id id k ≡ true → test k ≡ true → ⊥) → (keys : List Key) → list_any test keys ≡ true → list_any test (without_first id keys) ≡ true
any_without test id other [] any = any
any_without test id other (k ∷ ks) any = without_one (has_id id k) test k ks (without_first id ks) any (other k) (any_without test id other ks)

any_left : (test : Key → Bool) (keys more : List Key) → list_any test keys ≡ true → list_any test (keys ++ more) ≡ true
any_left test [] more any = absurd (cc)
any_left test (k ∷ ks) more any = passes (test k) (test k) (list_any test ks) (list_any test (ks ++ more)) any (λ e. e) (any_left test ks more)

or_true : (b : Bool) → (b || true) ≡ true
or_true true = refl
or_true false = refl

any_last : (test : Key → Bool) (keys : List Key) (k : Key) → test k ≡ true → list_any test (keys ++ k ∷ []) ≡ true
any_last test [] k e = rw e refl
any_last test (x ∷ xs) k e = rw (any_last test xs k e) (or_true (test x))

-- ---- the primary key

same_id : (n : ℕ) → nat_eq n n ≡ true
same_id n = grind (arith, nat_tests)

enabled_stays : (p : ℕ) (k : Key) → is_enabled_with p k ≡ true → is_enabled_with p (with_status Enabled k) ≡ true
enabled_stays p k e = (both (is_enabled k) (has_id p k) e).1

-- a key of another id than the primary one is not the primary key
not_primary : (p id : ℕ) → nat_eq p id ≡ false → (k : Key) → has_id id k ≡ true → is_enabled_with p k ≡ true → ⊥
not_primary p id other k has e =
    let of_p : nat_eq k.key_id p ≡ true = (both (is_enabled k) (has_id p k) e).1 in
    let of_id : nat_eq k.key_id id ≡ true = has in
    grind (arith, nat_tests)

-- the first key of an id has this status
first_status : (here enabled : Bool) (s : ℤ) (found : Option Key) (k : Key) (any : Bool) → k.status ≡ s → option_map (λ x. x.status) (cond here (Some k) found) ≡ Some (status_number Enabled)
    → (s ≡ status_number Enabled → enabled ≡ true) → (option_map (λ x. x.status) found ≡ Some (status_number Enabled) → any ≡ true) → ((enabled && here) || any) ≡ true
first_status true enabled s found k any is e on later = let now : s ≡ status_number Enabled = cc in rw (on now) refl
first_status false enabled s found k any is e on later = rw (later e) (or_true (enabled && false))

enabled_by : (k : Key) → k.status ≡ status_number Enabled → is_enabled k ≡ true
enabled_by k e = rw e refl

chosen : (id : ℕ) (keys : List Key) → status_of id keys ≡ Some (status_number Enabled) → list_any (is_enabled_with id) keys ≡ true
chosen id [] e = absurd (cc)
chosen id (k ∷ ks) e = first_status (has_id id k) (is_enabled k) k.status (find (has_id id) ks) k (list_any (is_enabled_with id) ks) refl e (enabled_by k) (chosen id ks)

pub primary_by_one : (makes : Maker) (ks new : Keyset) (c : Operation) → has_a_primary ks ≡ true → Becomes makes ks c new → has_a_primary new ≡ true
primary_by_one makes ks new (commands.Add kt) there h = rw (h.is) (any_left (is_enabled_with ks.primary_key_id) ks.key (new_key kt h.key_data h.id ∷ []) there)
primary_by_one makes ks new (commands.Rotate kt) there h = rw (h.is) (any_last (is_enabled_with h.id) ks.key (new_key kt h.key_data h.id) (same_id h.id))
primary_by_one makes ks new (commands.Enable id) there h = rw (h.3) (any_first (is_enabled_with ks.primary_key_id) id (with_status Enabled) (λ k has e. enabled_stays ks.primary_key_id k e) ks.key there)
primary_by_one makes ks new (commands.Disable id) there h = rw (h.1.3) (any_first (is_enabled_with ks.primary_key_id) id _ (λ k has e. absurd (not_primary ks.primary_key_id id h.0 k has e)) ks.key there)
primary_by_one makes ks new (commands.Destroy id) there h = rw (h.1.3) (any_first (is_enabled_with ks.primary_key_id) id _ (λ k has e. absurd (not_primary ks.primary_key_id id h.0 k has e)) ks.key there)
primary_by_one makes ks new (commands.Delete id) there h = rw (h.1) (any_without (is_enabled_with ks.primary_key_id) id (λ k has e. not_primary ks.primary_key_id id h.0 k has e) ks.key there)
primary_by_one makes ks new (commands.SetPrimary id) there h = rw (h.1) (chosen id ks.key h.0)

pub keeps_primary : KeepsPrimary
keeps_primary makes m cs there = kept_by_all (λ ks. has_a_primary ks ≡ true) makes (primary_by_one makes) m cs there
