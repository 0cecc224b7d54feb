-- The takes of an id, one by one, and that the id is fresh.
use Rattle.std.proofs.Common.{◌≡◌, ◌||◌, ℕ, zero, suc, ◌+◌, ◌-◌, ◌*◌, ◌<◌, ◌≤◌, List, [], ◌∷◌, drop, length, length-drop, drop-drop, Bool, true, false, Ok, Err, Result, cond, leb, refl, arith, subst, sym, ap, ◌∙◌}
use Rattle.std.specs.Prelude.{All, nat_eq}
use Rattle.std.specs.List.{list_any}
use Rattle.std.proofs.lemmas.Bool.Decides.{nat_tests}
use Rattle.tink_io.specs.declared.error.Kind.{Kind}
use Rattle.tink_io.specs.declared.error.Kind.TheVariants.{RandomFault, NoFreshId}
use Rattle.tink_proto.specs.declared.messages.keys.Key.{Key}
use Rattle.tink_proto.specs.declared.messages.keys.KeyData.{KeyData}
use Rattle.tink_proto.specs.declared.messages.keys.KeyTemplate.{KeyTemplate}
use Rattle.tink_proto.specs.declared.messages.keys.Keyset.{Keyset}
use Rattle.keyset_model.specs.Keys.{has_id}
use Rattle.keyset_model.specs.Adding.{drawn_id, is_taken, fresh_id, IsFresh, added_by_data, added_by_id}
use Rattle.keyset_model.specs.Laws.{AddsFreshIds, RefusedAddingLeaves, RefusesTakenIds}

-- one take more
one_take : (keys : List Key) (n : ℕ) (d : List ℕ)
    → fresh_id keys (suc n) d ≡ cond (leb 4 (length d)) (cond (is_taken keys (drawn_id d)) (fresh_id keys n (drop 4 d)) (Ok (drawn_id d), drop 4 d)) (Err RandomFault, d)
unfolding fresh_id
one_take keys n d = refl

no_takes : (keys : List Key) (d : List ℕ) → fresh_id keys 0 d ≡ (Err NoFreshId, d)
unfolding fresh_id
no_takes keys d = refl

left_one : (n i : ℕ) → i < n → n - i ≡ suc (n - (i + 1))
left_one n i h = omega arith

-- of n takes i are done
pub no_take : (keys : List Key) (n i : ℕ) (d : List ℕ) → n ≤ i → fresh_id keys (n - i) d ≡ (Err NoFreshId, d)
no_take keys n i d h = let e : n - i ≡ 0 = omega arith in rw e (no_takes keys d)

pub take_short : (keys : List Key) (n i : ℕ) (d : List ℕ) → i < n → length d < 4 → fresh_id keys (n - i) d ≡ (Err RandomFault, d)
take_short keys n i d h short =
    let t : leb 4 (length d) ≡ false = grind (arith, nat_tests) in
    rw (left_one n i h, one_take keys (n - (i + 1)) d, t) refl

pub take_taken : (keys : List Key) (n i : ℕ) (d : List ℕ) → i < n → 4 ≤ length d → is_taken keys (drawn_id d) ≡ true → fresh_id keys (n - i) d ≡ fresh_id keys (n - (i + 1)) (drop 4 d)
take_taken keys n i d h long b =
    let t : leb 4 (length d) ≡ true = grind (arith, nat_tests) in
    rw (left_one n i h, one_take keys (n - (i + 1)) d, t, b) refl

pub take_fresh : (keys : List Key) (n i : ℕ) (d : List ℕ) → i < n → 4 ≤ length d → is_taken keys (drawn_id d) ≡ false → fresh_id keys (n - i) d ≡ (Ok (drawn_id d), drop 4 d)
take_fresh keys n i d h long b =
    let t : leb 4 (length d) ≡ true = grind (arith, nat_tests) in
    rw (left_one n i h, one_take keys (n - (i + 1)) d, t, b) refl

-- ---- an id that isn't taken

neither : (a b : Bool) → (a || b) ≡ false → (a ≡ false) × (b ≡ false)
neither true b e = absurd (cc)
neither false b e = (refl, e)

other_id : (id : ℕ) (k : Key) → has_id id k ≡ false → k.key_id ≡ id → ⊥
other_id id k e same = grind (arith, nat_tests)

unused : (id : ℕ) (keys : List Key) → list_any (has_id id) keys ≡ false → All (λ k. k.key_id ≡ id → ⊥) keys
unused id [] e i d lt = absurd (omega arith)
unused id (k ∷ ks) e zero d lt = other_id id k (neither (has_id id k) (list_any (has_id id) ks) e).0
unused id (k ∷ ks) e (suc i) d lt = unused id ks (neither (has_id id k) (list_any (has_id id) ks) e).1 i d (omega arith)

not_zero : (id : ℕ) → nat_eq id 0 ≡ false → id ≡ 0 → ⊥
not_zero id e same = grind (arith, nat_tests)

pub fresh_if_not_taken : (keys : List Key) (id : ℕ) → is_taken keys id ≡ false → IsFresh keys id
fresh_if_not_taken keys id e =
    let parts = neither (nat_eq id 0) (list_any (has_id id) keys) e in
    record { not_zero = not_zero id parts.0; unused = unused id keys parts.1 }

-- the id that one take gives
fresh_by : (keys : List Key) (x id : ℕ) (taken enough : Bool) (rest : Result ℕ Kind × List ℕ) (d e : List ℕ) → is_taken keys x ≡ taken
    → (rest.0 ≡ Ok id → is_taken keys id ≡ false)
    → (cond enough (cond taken rest (Ok x, e)) (Err RandomFault, d)).0 ≡ Ok id → is_taken keys id ≡ false
fresh_by keys x id taken false rest d e t later is = absurd (cc)
fresh_by keys x id true true rest d e t later is = later is
fresh_by keys x id false true rest d e t later is = let same : x ≡ id = cc in subst (λ n. is_taken keys n ≡ false) same t

pub given_id : (keys : List Key) (n : ℕ) (d : List ℕ) (id : ℕ) → (fresh_id keys n d).0 ≡ Ok id → is_taken keys id ≡ false
given_id keys zero d id e = let is = ap (λ (r : Result ℕ Kind × List ℕ). r.0) (sym (no_takes keys d)) ∙ e in absurd (cc)
given_id keys (suc n) d id e =
    fresh_by keys (drawn_id d) id (is_taken keys (drawn_id d)) (leb 4 (length d)) (fresh_id keys n (drop 4 d)) d (drop 4 d) refl
    (given_id keys n (drop 4 d) id)
    (ap (λ (r : Result ℕ Kind × List ℕ). r.0) (sym (one_take keys n d)) ∙ e)

-- ---- where no id is fresh

abbrev Ends : ℕ → List Key → List ℕ → Type 0
Ends n keys d = (4 * n ≤ length d) × ((i : ℕ) → i < n → is_taken keys (drawn_id (drop (4 * i) d)) ≡ true)

-- after the first take
later : (keys : List Key) (d : List ℕ) (i : ℕ) → is_taken keys (drawn_id (drop (4 * i) (drop 4 d))) ≡ is_taken keys (drawn_id (drop (4 * suc i) d))
later keys d i = ap (λ x. is_taken keys (drawn_id x)) (drop-drop (4 * i) 4 d ∙ ap (λ k. drop k d) (omega arith))

one_more : (n : ℕ) (keys : List Key) (d : List ℕ) → 4 ≤ length d → is_taken keys (drawn_id d) ≡ true → Ends n keys (drop 4 d) → Ends (suc n) keys d
one_more n keys d long first rest = (let l = length-drop 4 d in let r = rest.0 in omega arith, by_place)
  where
    by_place : (i : ℕ) → i < suc n → is_taken keys (drawn_id (drop (4 * i) d)) ≡ true
    by_place zero lt = first
    by_place (suc i) lt = sym (later keys d i) ∙ rest.1 i (omega arith)

one_less : (n : ℕ) (keys : List Key) (d : List ℕ) → Ends (suc n) keys d → Ends n keys (drop 4 d)
one_less n keys d ends = (let l = length-drop 4 d in let r = ends.0 in omega arith, λ i lt. later keys d i ∙ ends.1 (suc i) (omega arith))

where_taken : (n : ℕ) (keys : List Key) (d : List ℕ) (enough taken : Bool) → leb 4 (length d) ≡ enough → is_taken keys (drawn_id d) ≡ taken
    → ((fresh_id keys n (drop 4 d)).0 ≡ Err NoFreshId → Ends n keys (drop 4 d))
    → (cond enough (cond taken (fresh_id keys n (drop 4 d)) (Ok (drawn_id d), drop 4 d)) (Err RandomFault, d)).0 ≡ Err NoFreshId → Ends (suc n) keys d
where_taken n keys d true true long first rest is = one_more n keys d (grind (arith, nat_tests)) first (rest is)
where_taken n keys d true false long first rest is = absurd (cc)
where_taken n keys d false taken long first rest is = absurd (cc)

all_taken : (n : ℕ) (keys : List Key) (d : List ℕ) → (fresh_id keys n d).0 ≡ Err NoFreshId → Ends n keys d
all_taken zero keys d is = (omega arith, λ i lt. absurd (omega arith))
all_taken (suc n) keys d is =
    where_taken n keys d (leb 4 (length d)) (is_taken keys (drawn_id d)) refl refl (all_taken n keys (drop 4 d)) (ap (λ (r : Result ℕ Kind × List ℕ). r.0) (sym (one_take keys n d)) ∙ is)

none_fresh : (n : ℕ) (keys : List Key) (d : List ℕ) → Ends n keys d → (fresh_id keys n d).0 ≡ Err NoFreshId
none_fresh zero keys d ends = ap (λ (r : Result ℕ Kind × List ℕ). r.0) (no_takes keys d)
none_fresh (suc n) keys d ends =
    let long : leb 4 (length d) ≡ true = let l = ends.0 in grind (arith, nat_tests) in
    rw (one_take keys n d, long, ends.1 0 (omega arith)) (none_fresh n keys (drop 4 d) (one_less n keys d ends))

pub refuses_taken_ids : RefusesTakenIds
refuses_taken_ids keys draws = (all_taken 128 keys draws, none_fresh 128 keys draws)

-- ---- the laws of adding

id_of : (ks : Keyset) (kt : KeyTemplate) (as_primary : Bool) (d : KeyData) (r : Result ℕ Kind) (left : List ℕ) (id : ℕ) → (added_by_id ks kt as_primary d r left).answer ≡ Ok id → r ≡ Ok id
id_of ks kt as_primary d (Ok n) left id e = e
id_of ks kt as_primary d (Err kind) left id e = e

fresh_by_data : (ks : Keyset) (kt : KeyTemplate) (as_primary : Bool) (r : Result KeyData Kind) (left : List ℕ) (id : ℕ) → (added_by_data ks kt as_primary r left).answer ≡ Ok id → IsFresh ks.key id
fresh_by_data ks kt as_primary (Err kind) left id e = absurd (cc)
fresh_by_data ks kt as_primary (Ok d) left id e =
    fresh_if_not_taken ks.key id (given_id ks.key 128 left id (id_of ks kt as_primary d (fresh_id ks.key 128 left).0 (fresh_id ks.key 128 left).1 id e))

pub adds_fresh_ids : AddsFreshIds
adds_fresh_ids ks kt as_primary made id e = fresh_by_data ks kt as_primary made.0 made.1 id e

left_by_id : (ks : Keyset) (kt : KeyTemplate) (as_primary : Bool) (d : KeyData) (r : Result ℕ Kind) (left : List ℕ) (kind : Kind) → (added_by_id ks kt as_primary d r left).answer ≡ Err kind → (added_by_id ks kt as_primary d r left).keyset ≡ ks
left_by_id ks kt as_primary d (Ok n) left kind e = absurd (cc)
left_by_id ks kt as_primary d (Err _) left kind e = refl

left_by_data : (ks : Keyset) (kt : KeyTemplate) (as_primary : Bool) (r : Result KeyData Kind) (left : List ℕ) (kind : Kind) → (added_by_data ks kt as_primary r left).answer ≡ Err kind → (added_by_data ks kt as_primary r left).keyset ≡ ks
left_by_data ks kt as_primary (Err _) left kind e = refl
left_by_data ks kt as_primary (Ok d) left kind e = left_by_id ks kt as_primary d (fresh_id ks.key 128 left).0 (fresh_id ks.key 128 left).1 kind e

pub refused_adding_leaves : RefusedAddingLeaves
refused_adding_leaves ks kt as_primary made kind e = left_by_data ks kt as_primary made.0 made.1 kind e
