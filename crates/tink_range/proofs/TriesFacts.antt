-- How many keys were tried, step by step.
use Rattle.std.proofs.Common.{◌≡◌, Some, None, inl, inr, ◌+◌, ◌≤◌, ℕ, List, ◌∷◌, length, drop, map, sym, refl, subst, arith, add-zero}
use Rattle.std.proofs.Math.ListN.{drop_of_length-le}
use Rattle.stream_model.specs.Opening.{Begins, OpeningKey}
use Rattle.tink_range.specs.ChoosingAt.{Tries, is_tried, one_if}

-- the keys from i on make the whole count of what was counted before them
abbrev pub TriesFrom : {T : Type 0} → (T → OpeningKey) → List T → ℕ → ℕ → List ℕ → Type 0
TriesFrom of keys i n S = (m : ℕ) → Tries (map of (drop i keys)) S m → Tries (map of keys) S (n + m)

pub tries_on : {T : Type 0} (of : T → OpeningKey) (keys : List T) (i n next : ℕ) (key : T) (S : List ℕ) → drop i keys ≡ key ∷ drop (i + 1) keys → (Begins (of key) S → ⊥) → next ≡ n + one_if (is_tried (of key) S)
    → TriesFrom of keys i n S → TriesFrom of keys (i + 1) next S
tries_on {T} of keys i n next key S e not count before m rest =
    let more = before (one_if (is_tried (of key) S) + m) (subst (λ (ks : List T). Tries (map of ks) S (one_if (is_tried (of key) S) + m)) (sym e) (inr (not, (m, refl, rest)))) in
    subst (λ (k : ℕ). Tries (map of keys) S k) (omega (arith, count)) more

pub tries_first : {T : Type 0} (of : T → OpeningKey) (keys : List T) (i n next : ℕ) (key : T) (S : List ℕ) → drop i keys ≡ key ∷ drop (i + 1) keys → Begins (of key) S → next ≡ n + 1
    → TriesFrom of keys i n S → Tries (map of keys) S next
tries_first {T} of keys i n next key S e begins count before =
    subst (λ (k : ℕ). Tries (map of keys) S k) (sym count) (before 1 (subst (λ (ks : List T). Tries (map of ks) S 1) (sym e) (inl (begins, refl))))

pub tries_none : {T : Type 0} (of : T → OpeningKey) (keys : List T) (i n : ℕ) (S : List ℕ) → length keys ≤ i → TriesFrom of keys i n S → Tries (map of keys) S n
tries_none {T} of keys i n S past before =
    subst (λ (k : ℕ). Tries (map of keys) S k) (add-zero n) (before 0 (subst (λ (ks : List T). Tries (map of ks) S 0) (sym (drop_of_length-le keys {i = i} past)) refl))

-- what is chosen is not nothing
pub is_some_not : {T P : Type 0} (v : T) → Some v ≡ None → P
is_some_not v none = absurd cc
