-- A keyset with a new key is validated: as its primary one, or beside its primary one.
use Rattle.std.proofs.Common.{◌≡◌, ◌&&◌, ◌||◌, ◌++◌, ◌+◌, ◌≤◌, ℕ, List, [], ◌∷◌, length, Bool, true, false, not, Ok, Err, Result, cond, refl, subst, sym, arith, length-append}
use Rattle.std.specs.Prelude.{count_by, fold, nat_eq}
use Rattle.std.specs.List.{list_any}
use Rattle.std.proofs.lemmas.Bool.{le-leb, leb-true}
use Rattle.std.proofs.lemmas.Bool.Decides.{nat_tests}
use Rattle.std.proofs.lemmas.List.Folds.{list_any-append}
use Rattle.std.proofs.lemmas.List.Sums.{fold-append}
use Rattle.tink_io.specs.declared.error.Kind.{Kind}
use Rattle.tink_proto.specs.declared.messages.keys.Key.{Key}
use Rattle.tink_proto.specs.declared.messages.keys.KeyData.{KeyData}
use Rattle.tink_proto.specs.declared.messages.keys.KeyTemplate.{KeyTemplate}
use Rattle.tink_proto.specs.declared.messages.keys.Keyset.{Keyset}
use Rattle.keyset_model.specs.Adding.{added, added_by_data, added_by_id, fresh_id, is_taken, keyset_or, keyset_reply, new_key, with_key}
use Rattle.keyset_model.specs.Entries.{is_known_prefix}
use Rattle.keyset_model.specs.Keys.{has_id, is_enabled, is_enabled_with}
use Rattle.keyset_model.specs.Validity.{are_well_formed, has_a_key, has_a_primary, has_an_enabled_key, has_at_most_one_primary, is_all_public, is_held_keyset, is_valid, is_validated, is_well_formed}
use Rattle.keyset_model.proofs.EditLaws.{all_more, both, joined}
use Rattle.keyset_model.proofs.FreshIds.{fresh_if_not_taken, given_id}

neither : (a b : Bool) → (a || b) ≡ false → (a ≡ false) × (b ≡ false)
neither true b e = absurd (cc)
neither false b e = (refl, e)

or_true : (a : Bool) → (a || true) ≡ true
or_true true = refl
or_true false = refl

off_by : (a b : Bool) → b ≡ false → (a && b) ≡ false
off_by true b e = e
off_by false b e = refl

at_most : (b : Bool) → 0 + cond b 1 0 ≤ 1
at_most true = omega arith
at_most false = omega arith

same_id : (id : ℕ) → nat_eq id id ≡ true
same_id id = grind (arith, nat_tests)

-- no key has the id
none_with : (id : ℕ) (keys : List Key) (n : ℕ) → list_any (has_id id) keys ≡ false → fold (λ a k. a + cond (is_enabled_with id k) 1 0) n keys ≡ n
none_with id [] n none = refl
none_with id (k ∷ ks) n none =
    let parts = neither (has_id id k) (list_any (has_id id) ks) none in
    let off : is_enabled_with id k ≡ false = off_by (is_enabled k) (has_id id k) parts.0 in
    let e : n + 0 ≡ n = omega arith in
    rw (off, e) (none_with id ks n parts.1)

one_with : (id : ℕ) (keys : List Key) (k : Key) → list_any (has_id id) keys ≡ false → count_by (is_enabled_with id) (keys ++ k ∷ []) ≤ 1
one_with id keys k none =
    let first = none_with id keys 0 none in
    rw (fold-append (λ a x. a + cond (is_enabled_with id x) 1 0) 0 keys (k ∷ []), first) (at_most (is_enabled_with id k))

last_passes : (test : Key → Bool) (keys : List Key) (k : Key) → test k ≡ true → list_any test (keys ++ k ∷ []) ≡ true
last_passes test keys k is = rw (list_any-append test keys (k ∷ []), is) (or_true (list_any test keys))

some_key : (keys : List Key) (k : Key) → not (nat_eq (length (keys ++ k ∷ [])) 0) ≡ true
some_key keys k =
    let more : nat_eq (length (keys ++ k ∷ [])) 0 ≡ false = grind (arith, nat_tests, length-append) in
    rw more refl

formed_new : (kt : KeyTemplate) (d : KeyData) (id : ℕ) → (id ≡ 0 → ⊥) → is_known_prefix kt.output_prefix_type ≡ true → is_well_formed (new_key kt d id) ≡ true
formed_new kt d id other known =
    let not_zero : nat_eq id 0 ≡ false = grind (arith, nat_tests) in
    rw (not_zero, known) refl

-- with a key whose id no key had
with_new : (ks : Keyset) (kt : KeyTemplate) (d : KeyData) (id : ℕ) → is_taken ks.key id ≡ false → is_known_prefix kt.output_prefix_type ≡ true → are_well_formed ks ≡ true
    → is_validated (with_key ks true (new_key kt d id)) ≡ true
with_new ks kt d id fresh known formed =
    let k = new_key kt d id in
    let unused = (neither (nat_eq id 0) (list_any (has_id id) ks.key) fresh).1 in
    let there : is_enabled_with id k ≡ true = same_id id in
    let new = with_key ks true k in
    let primary : (has_a_primary new || is_all_public new) ≡ true = rw (last_passes (is_enabled_with id) ks.key k there) refl in
    let one : has_at_most_one_primary new ≡ true = le-leb (count_by (is_enabled_with id) new.key) 1 (one_with id ks.key k unused) in
    let all_formed : are_well_formed new ≡ true = all_more is_well_formed ks.key k (formed_new kt d id (fresh_if_not_taken ks.key id fresh).not_zero known) formed in
    joined (has_a_key new && are_well_formed new && has_at_most_one_primary new && has_an_enabled_key new) (has_a_primary new || is_all_public new)
    (joined (has_a_key new && are_well_formed new && has_at_most_one_primary new) (has_an_enabled_key new)
    (joined (has_a_key new && are_well_formed new) (has_at_most_one_primary new)
    (joined (has_a_key new) (are_well_formed new) (some_key ks.key k) all_formed) one) (last_passes is_enabled ks.key k refl)) primary

-- a keyset with a key whose id no key had is validated
abbrev Adds : Bool → Keyset → KeyTemplate → KeyData → Type 0
Adds p ks kt d = (id : ℕ) → is_taken ks.key id ≡ false → is_validated (with_key ks p (new_key kt d id)) ≡ true

by_id : (p : Bool) (ks new : Keyset) (kt : KeyTemplate) (d : KeyData) (r : Result ℕ Kind) (left : List ℕ) → ((id : ℕ) → r ≡ Ok id → is_taken ks.key id ≡ false) → Adds p ks kt d
    → keyset_or (added_by_id ks kt p d r left).answer (added_by_id ks kt p d r left).keyset ≡ Ok new → is_validated new ≡ true
by_id p ks new kt d (Ok id) left fresh adds is =
    let same : with_key ks p (new_key kt d id) ≡ new = cc in
    subst (λ x. is_validated x ≡ true) same (adds id (fresh id refl))
by_id p ks new kt d (Err kind) left fresh adds is = absurd (cc)

by_data : (p : Bool) (ks new : Keyset) (kt : KeyTemplate) (r : Result KeyData Kind) (left : List ℕ) → ((d : KeyData) → r ≡ Ok d → Adds p ks kt d)
    → keyset_or (added_by_data ks kt p r left).answer (added_by_data ks kt p r left).keyset ≡ Ok new → is_validated new ≡ true
by_data p ks new kt (Ok d) left adds is =
    by_id p ks new kt d (fresh_id ks.key 128 left).0 (fresh_id ks.key 128 left).1 (given_id ks.key 128 left) (adds d refl) is
by_data p ks new kt (Err kind) left adds is = absurd (cc)

-- a keyset with a new key as its primary one, where its keys were well formed
pub validated : (ks new : Keyset) (kt : KeyTemplate) (made : Result KeyData Kind × List ℕ) → ((d : KeyData) → made.0 ≡ Ok d → is_known_prefix kt.output_prefix_type ≡ true) → are_well_formed ks ≡ true
    → (keyset_reply (added ks kt true made)).0 ≡ Ok new → is_validated new ≡ true
validated ks new kt made known formed is = by_data true ks new kt made.0 made.1 (λ d given id fresh. with_new ks kt d id fresh (known d given) formed) is

-- of a valid keyset at most one enabled key is the primary one, and each key is well formed
formed_and_one : (ks : Keyset) → is_valid ks ≡ true → (has_a_key ks && are_well_formed ks && has_at_most_one_primary ks) ≡ true
formed_and_one ks is =
    let validated : is_validated ks ≡ true = (both (is_held_keyset ks) (is_validated ks) is).1 in
    let front = (both (has_a_key ks && are_well_formed ks && has_at_most_one_primary ks && has_an_enabled_key ks) (has_a_primary ks || is_all_public ks) validated).0 in
    (both (has_a_key ks && are_well_formed ks && has_at_most_one_primary ks) (has_an_enabled_key ks) front).0

one_of : (ks : Keyset) → is_valid ks ≡ true → has_at_most_one_primary ks ≡ true
one_of ks is = (both (has_a_key ks && are_well_formed ks) (has_at_most_one_primary ks) (formed_and_one ks is)).1

pub formed_of : (ks : Keyset) → is_valid ks ≡ true → are_well_formed ks ≡ true
formed_of ks is = (both (has_a_key ks) (are_well_formed ks) (both (has_a_key ks && are_well_formed ks) (has_at_most_one_primary ks) (formed_and_one ks is)).0).1

-- ---- a key beside the primary one

first_passes : (test : Key → Bool) (keys : List Key) (k : Key) → list_any test keys ≡ true → list_any test (keys ++ k ∷ []) ≡ true
first_passes test keys k is = rw (list_any-append test keys (k ∷ []), is) refl

or_of : (a b c d : Bool) → (a || b) ≡ true → (a ≡ true → c ≡ true) → (b ≡ true → d ≡ true) → (c || d) ≡ true
or_of true b c d is f g = rw (f refl) refl
or_of false b c d is f g = rw (g is) (or_true c)

-- a key that is enabled with an id has it
some_has : (id : ℕ) (keys : List Key) → list_any (is_enabled_with id) keys ≡ true → list_any (has_id id) keys ≡ true
some_has id [] is = absurd (cc)
some_has id (k ∷ ks) is =
    or_of (is_enabled_with id k) (list_any (is_enabled_with id) ks) (has_id id k) (list_any (has_id id) ks) is
    (λ e. (both (is_enabled k) (has_id id k) e).1) (λ e. some_has id ks e)

same_number : (a b : ℕ) → nat_eq a b ≡ true → a ≡ b
same_number a b e = grind (arith, nat_tests)

-- an id that no key has is not the primary one
differs : (keys : List Key) (id primary : ℕ) (b : Bool) → nat_eq id primary ≡ b → list_any (has_id id) keys ≡ false → list_any (is_enabled_with primary) keys ≡ true → b ≡ false
differs keys id primary false e none is = refl
differs keys id primary true e none is =
    let has = subst (λ n. list_any (has_id n) keys ≡ true) (sym (same_number id primary e)) (some_has primary keys is) in
    absurd (cc)

at_most_more : (n : ℕ) (b : Bool) → b ≡ false → n ≤ 1 → n + cond b 1 0 ≤ 1
at_most_more n true e most = absurd (cc)
at_most_more n false e most = omega arith

one_beside : (id : ℕ) (keys : List Key) (k : Key) → is_enabled_with id k ≡ false → count_by (is_enabled_with id) keys ≤ 1 → count_by (is_enabled_with id) (keys ++ k ∷ []) ≤ 1
one_beside id keys k off most =
    rw (fold-append (λ a x. a + cond (is_enabled_with id x) 1 0) 0 keys (k ∷ [])) (at_most_more (count_by (is_enabled_with id) keys) (is_enabled_with id k) off most)

with_beside : (ks : Keyset) (kt : KeyTemplate) (d : KeyData) (id : ℕ) → is_taken ks.key id ≡ false → is_known_prefix kt.output_prefix_type ≡ true → is_valid ks ≡ true → has_a_primary ks ≡ true
    → is_validated (with_key ks false (new_key kt d id)) ≡ true
with_beside ks kt d id fresh known valid has =
    let k = new_key kt d id in
    let new = with_key ks false k in
    let unused = (neither (nat_eq id 0) (list_any (has_id id) ks.key) fresh).1 in
    let off : is_enabled_with ks.primary_key_id k ≡ false = differs ks.key id ks.primary_key_id (nat_eq id ks.primary_key_id) refl unused has in
    let one : has_at_most_one_primary new ≡ true =
    le-leb (count_by (is_enabled_with ks.primary_key_id) new.key) 1 (one_beside ks.primary_key_id ks.key k off (leb-true (count_by (is_enabled_with ks.primary_key_id) ks.key) 1 (one_of ks valid))) in
    let primary : (has_a_primary new || is_all_public new) ≡ true = rw (first_passes (is_enabled_with ks.primary_key_id) ks.key k has) refl in
    let all_formed : are_well_formed new ≡ true = all_more is_well_formed ks.key k (formed_new kt d id (fresh_if_not_taken ks.key id fresh).not_zero known) (formed_of ks valid) in
    joined (has_a_key new && are_well_formed new && has_at_most_one_primary new && has_an_enabled_key new) (has_a_primary new || is_all_public new)
    (joined (has_a_key new && are_well_formed new && has_at_most_one_primary new) (has_an_enabled_key new)
    (joined (has_a_key new && are_well_formed new) (has_at_most_one_primary new)
    (joined (has_a_key new) (are_well_formed new) (some_key ks.key k) all_formed) one) (last_passes is_enabled ks.key k refl)) primary

-- a valid keyset that has a primary key, with a new key beside it
pub validated_beside : (ks new : Keyset) (kt : KeyTemplate) (made : Result KeyData Kind × List ℕ) → ((d : KeyData) → made.0 ≡ Ok d → is_known_prefix kt.output_prefix_type ≡ true) → is_valid ks ≡ true → has_a_primary ks ≡ true
    → (keyset_reply (added ks kt false made)).0 ≡ Ok new → is_validated new ≡ true
validated_beside ks new kt made known valid has is = by_data false ks new kt made.0 made.1 (λ d given id fresh. with_beside ks kt d id fresh (known d given) valid has) is
