-- The place of the first key of an id.
use Rattle.std.proofs.Common.{◌≡◌, ◌∙◌, ℕ, ◌+◌, ◌<◌, ◌++◌, ◌∷◌, List, Some, take, drop, length, get_or, set, refl, sym, ap, eq-eqb, suc, add-one, drop-cons}
use Rattle.std.proofs.lemmas.List.{get_or_default, take-append-drop, take-set, drop-set}
use Rattle.std.specs.Prelude.{find}
use Rattle.tink_proto.specs.declared.messages.keys.Key.{Key}
use Rattle.keyset_model.specs.Keys.{has_id}
use Rattle.keyset_model.specs.Edits.{with_first, without_first}
use Rattle.keyset_model.specs.Places.{IsPlace}

-- the keys before a place have other ids
pub record Passed (keys : List Key) (id i : ℕ) : Type 0 where
  pub found : find (has_id id) keys ≡ find (has_id id) (drop i keys)
  pub changed : (change : Key → Key) → with_first id change keys ≡ take i keys ++ with_first id change (drop i keys)
  pub left : without_first id keys ≡ take i keys ++ without_first id (drop i keys)

set_split : {X : Type 0} (xs : List X) (i : ℕ) (y : X) → i < length xs → take i xs ++ y ∷ drop (i + 1) xs ≡ set xs i y
set_split xs i y h = let e = take-append-drop i (set xs i y) in rw (take-set xs i y, drop-set xs i y h) at e

pub at_place : (keys : List Key) (id i : ℕ) (k : Key) → i < length keys → k ≡ get_or keys i k → k.key_id ≡ id → Passed keys id i → IsPlace keys id i
at_place keys id i k h e same p =
    let here : drop i keys ≡ k ∷ drop (i + 1) keys = rw (add-one) (drop-cons keys i k h ∙ ap (λ x. x ∷ drop (suc i) keys) (sym e)) in
    let test = eq-eqb k.key_id id same in
    record {
      within = h;
      found = λ d. p.found ∙ ap (find (has_id id)) here ∙ rw test (ap Some (e ∙ get_or_default keys i k d h));
      changed = λ f d. p.changed f ∙ ap (λ xs. take i keys ++ with_first id f xs) here ∙ rw test (ap (λ x. take i keys ++ f x ∷ drop (i + 1) keys) (e ∙ get_or_default keys i k d h) ∙ set_split keys i (f (get_or keys i d)) h);
      left = p.left ∙ ap (λ xs. take i keys ++ without_first id xs) here ∙ rw test (rw add-one refl);
    }
