-- The place of the chosen key, step by step.
use Rattle.std.proofs.Common.{◌≡◌, inl, inr, ◌<◌, ◌+◌, ℕ, zero, suc, List, [], ◌∷◌, length, drop, get_or, Some, None, IfSome, sym, ap, subst, ◌∙◌, arith, add-zero}
use Rattle.std.proofs.lemmas.List.{get_or_default}
use Rattle.std.specs.declared.option.Option.{Option}
use Rattle.stream_model.specs.Opening.{Begins, OpeningKey}
use Rattle.tink_range.specs.ChoosingAt.{IsChosenInPlace}
use Rattle.tink_range.specs.StreamSizes.{IsIdOfChosen}

-- what is chosen of the keys from i on is chosen of all, so many places further
abbrev pub PlacedFrom : {K : Type 0} → (K → OpeningKey) → List K → ℕ → List ℕ → Type 0
PlacedFrom of keys i S = (n : ℕ) → IsChosenInPlace of (drop i keys) S n → IsChosenInPlace of keys S (i + n)

pub placed_all : {K : Type 0} (of : K → OpeningKey) (keys : List K) (told : Option (List ℕ)) → IfSome told (PlacedFrom of keys 0)
placed_all of keys None = tt
placed_all of keys (Some S) = λ n h. let same : n ≡ 0 + n = omega arith in subst (IsChosenInPlace of keys S) same h

pub placed_on : {K : Type 0} (of : K → OpeningKey) (keys : List K) (i : ℕ) (key : K) (S : List ℕ) → drop i keys ≡ key ∷ drop (i + 1) keys → (Begins (of key) S → ⊥) → PlacedFrom of keys i S → PlacedFrom of keys (i + 1) S
placed_on {K} of keys i key S e not before n rest =
    let same : i + suc n ≡ (i + 1) + n = omega arith in
    subst (IsChosenInPlace of keys S) same (before (suc n) (subst (λ (ks : List K). IsChosenInPlace of ks S (suc n)) (sym e) (not, rest)))

pub placed_first : {K : Type 0} (of : K → OpeningKey) (keys : List K) (i : ℕ) (key : K) (S : List ℕ) → drop i keys ≡ key ∷ drop (i + 1) keys → Begins (of key) S → PlacedFrom of keys i S → IsChosenInPlace of keys S i
placed_first {K} of keys i key S e begins before =
    subst (IsChosenInPlace of keys S) (add-zero i) (before 0 (subst (λ (ks : List K). IsChosenInPlace of ks S 0) (sym e) begins))

-- two reads of one place are of one key
pub one_place : {K : Type 0} (keys : List K) (i : ℕ) (j k : K) → i < length keys → j ≡ get_or keys i j → k ≡ get_or keys i k → j ≡ k
one_place keys i j k inside a b = a ∙ get_or_default keys i j k inside ∙ sym b

-- the key in the place of the chosen one has the id of the chosen one
pub id_of_place : {K : Type 0} (of : K → OpeningKey) (id_of : K → ℕ) (keys : List K) (S : List ℕ) (i : ℕ) (key : K) → key ≡ get_or keys i key → IsChosenInPlace of keys S i → IsIdOfChosen of id_of keys S (id_of key)
id_of_place of id_of [] S i key at chosen = absurd chosen
id_of_place of id_of (k ∷ keys) S zero key at chosen = inl (chosen, ap id_of at)
id_of_place of id_of (k ∷ keys) S (suc i) key at chosen = inr (chosen.0, id_of_place of id_of keys S i key at chosen.1)
