-- Ids that are distinct and not 0 stay so.
use Rattle.std.proofs.Common.{◌≡◌, ◌++◌, ℕ, List, [], ◌∷◌, Bool, true, false, cond, refl, sym, ap, subst, arith}
use Rattle.std.specs.Prelude.{All, nat_eq}
use Rattle.std.specs.Cmp.{nat_eq_equiv}
use Rattle.std.specs.List.{AllByRecursion, IsDistinct, list_any}
use Rattle.std.proofs.lemmas.Bool.Decides.{nat_tests}
use Rattle.std.proofs.lemmas.List.{map-append}
use Rattle.std.proofs.lemmas.List.Elements.{All-from_recursion, recursion_from_All, All-cons, All-head, All-tail, All-map, All-push, All-weaker}
use Rattle.std.proofs.lemmas.List.Folds.{list_any_none}
use Rattle.std.proofs.lemmas.Map.Keys.{IsDistinct-cons, IsDistinct-head, IsDistinct-push, IsDistinct-tail}
use Rattle.tink_proto.specs.declared.messages.keys.Key.{Key}
use Rattle.tink_proto.specs.declared.messages.keys.KeyData.{KeyData}
use Rattle.tink_proto.specs.declared.messages.keys.KeyTemplate.{KeyTemplate}
use Rattle.tink_proto.specs.declared.messages.keys.Keyset.{Keyset}
use Rattle.keyset_model.specs.Adding.{IsFresh, new_key}
use Rattle.keyset_model.specs.Operations as commands
use Rattle.keyset_model.specs.Operations.{Operation, Maker}
use Rattle.keyset_model.specs.Edits.{with_first, without_first}
use Rattle.keyset_model.specs.Keys.{has_id, ids_of}
use Rattle.keyset_model.specs.Laws.{AreOwnIds, KeepsIds}
use Rattle.keyset_model.proofs.Steps.{Becomes, kept_by_all}

-- ---- a change that keeps the id

same_by : (here : Bool) (k x : Key) (ks after : List Key) → x.key_id ≡ k.key_id → ids_of after ≡ ids_of ks → ids_of (cond here (x ∷ ks) (k ∷ after)) ≡ k.key_id ∷ ids_of ks
same_by true k x ks after same later = ap (λ id. id ∷ ids_of ks) same
same_by false k x ks after same later = ap (λ ids. k.key_id ∷ ids) later

ids_first : (id : ℕ) (change : Key → Key) → ((k : Key) → (change k).key_id ≡ k.key_id) → (keys : List Key) → ids_of (with_first id change keys) ≡ ids_of keys
ids_first id change same [] = refl
ids_first id change same (k ∷ ks) = same_by (has_id id k) k (change k) ks (with_first id change ks) (same k) (ids_first id change same ks)

-- ---- a key more

other_id : (a b : ℕ) → (a ≡ b → ⊥) → nat_eq b a ≡ false
other_id a b other = grind (arith, nat_tests)

own_more : (keys : List Key) (kt : KeyTemplate) (d : KeyData) (id : ℕ) → IsFresh keys id → AreOwnIds (ids_of keys) → AreOwnIds (ids_of (keys ++ new_key kt d id ∷ []))
own_more keys kt d id fresh own =
    let free : list_any (nat_eq id) (ids_of keys) ≡ false =
    list_any_none (nat_eq id) (ids_of keys) (All-map (λ n. nat_eq id n ≡ false) (λ k. k.key_id) keys (All-weaker (λ k. k.key_id ≡ id → ⊥) (λ k. nat_eq id k.key_id ≡ false) (λ k. other_id k.key_id id) keys fresh.unused)) in
    subst AreOwnIds (sym (map-append (λ (k : Key). k.key_id) keys (new_key kt d id ∷ [])))
    (record {
      not_zero = All-push (λ n. n ≡ 0 → ⊥) (ids_of keys) id own.not_zero fresh.not_zero;
      distinct = IsDistinct-push nat_eq_equiv (ids_of keys) id own.distinct free;
    })

-- ---- a key less

all_by : (P : ℕ → Type 0) (here : Bool) (k : Key) (ks after : List Key) → All P (k.key_id ∷ ids_of ks) → (All P (ids_of ks) → All P (ids_of after)) → All P (ids_of (cond here ks (k ∷ after)))
all_by P true k ks after all later = All-tail P k.key_id (ids_of ks) all
all_by P false k ks after all later = All-cons P k.key_id (ids_of after) (All-head P k.key_id (ids_of ks) all) (later (All-tail P k.key_id (ids_of ks) all))

all_without : (P : ℕ → Type 0) (id : ℕ) (keys : List Key) → All P (ids_of keys) → All P (ids_of (without_first id keys))
all_without P id [] all = all
all_without P id (k ∷ ks) all = all_by P (has_id id k) k ks (without_first id ks) all (all_without P id ks)

others : (n id : ℕ) (ks : List Key) → AllByRecursion (λ y. nat_eq n y ≡ false) (ids_of ks) → AllByRecursion (λ y. nat_eq n y ≡ false) (ids_of (without_first id ks))
others n id ks all =
    recursion_from_All (λ y. nat_eq n y ≡ false) (ids_of (without_first id ks)) (all_without (λ y. nat_eq n y ≡ false) id ks (All-from_recursion (λ y. nat_eq n y ≡ false) (ids_of ks) all))

distinct_by : (here : Bool) (k : Key) (ks after : List Key) → IsDistinct nat_eq (k.key_id ∷ ids_of ks) → (AllByRecursion (λ y. nat_eq k.key_id y ≡ false) (ids_of ks) → AllByRecursion (λ y. nat_eq k.key_id y ≡ false) (ids_of after))
    → (IsDistinct nat_eq (ids_of ks) → IsDistinct nat_eq (ids_of after)) → IsDistinct nat_eq (ids_of (cond here ks (k ∷ after)))
distinct_by true k ks after apart one later = IsDistinct-tail nat_eq k.key_id (ids_of ks) apart
distinct_by false k ks after apart one later =
    IsDistinct-cons nat_eq k.key_id (ids_of after) (one (IsDistinct-head nat_eq k.key_id (ids_of ks) apart)) (later (IsDistinct-tail nat_eq k.key_id (ids_of ks) apart))

distinct_without : (id : ℕ) (keys : List Key) → IsDistinct nat_eq (ids_of keys) → IsDistinct nat_eq (ids_of (without_first id keys))
distinct_without id [] apart = apart
distinct_without id (k ∷ ks) apart = distinct_by (has_id id k) k ks (without_first id ks) apart (others k.key_id id ks) (distinct_without id ks)

own_less : (id : ℕ) (keys : List Key) → AreOwnIds (ids_of keys) → AreOwnIds (ids_of (without_first id keys))
own_less id keys own = record { not_zero = all_without (λ n. n ≡ 0 → ⊥) id keys own.not_zero; distinct = distinct_without id keys own.distinct }

-- ---- the law

own_changed : (id : ℕ) (change : Key → Key) → ((k : Key) → (change k).key_id ≡ k.key_id) → (ks : Keyset) → AreOwnIds (ids_of ks.key) → AreOwnIds (ids_of (with_first id change ks.key))
own_changed id change same ks own = subst AreOwnIds (sym (ids_first id change same ks.key)) own

pub own_by_one : (makes : Maker) (ks new : Keyset) (c : Operation) → AreOwnIds (ids_of ks.key) → Becomes makes ks c new → AreOwnIds (ids_of new.key)
own_by_one makes ks new (commands.Add kt) own h = rw (h.is) (own_more ks.key kt h.key_data h.id h.fresh own)
own_by_one makes ks new (commands.Rotate kt) own h = rw (h.is) (own_more ks.key kt h.key_data h.id h.fresh own)
own_by_one makes ks new (commands.Enable id) own h = rw (h.3) (own_changed id _ (λ k. refl) ks own)
own_by_one makes ks new (commands.Disable id) own h = rw (h.1.3) (own_changed id _ (λ k. refl) ks own)
own_by_one makes ks new (commands.Destroy id) own h = rw (h.1.3) (own_changed id _ (λ k. refl) ks own)
own_by_one makes ks new (commands.Delete id) own h = rw (h.1) (own_less id ks.key own)
own_by_one makes ks new (commands.SetPrimary id) own h = rw (h.1) own

pub keeps_ids : KeepsIds
keeps_ids makes m cs own = kept_by_all (λ ks. AreOwnIds (ids_of ks.key)) makes (own_by_one makes) m cs own
