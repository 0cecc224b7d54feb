-- Keys of different prefixes never open one stream, so that of keys in any order among prefixes the same one is chosen.
use Rattle.std.proofs.Common.{◌≡◌, ◌∙◌, inl, inr, ◌≤◌, ℕ, suc, Bool, true, false, cond, List, [], ◌∷◌, length, take, map, filter, All, Contains, refl, sym, ap, subst, arith, bytes_eq, nat_eq, nat_le, slice_index, ◌&&◌}
use Rattle.std.specs.declared.option.Option.{Option}
use Rattle.std.specs.Cmp.Lexicographic.{bytes_decides}
use Rattle.std.proofs.lemmas.Bool.{false≢true}
use Rattle.std.proofs.lemmas.Bool.Decides.{nat_tests}
use Rattle.std.proofs.lemmas.List.Elements.{All-contains, All-contains_itself, All-filter, All-head, All-tail, All-weaker, All-cons, All-nil}
use Rattle.stream_model.specs.Key.{StreamKey, header_length}
use Rattle.stream_model.specs.Opening.{OpeningKey, Begins, IsChosen, opening_key}
use Rattle.stream_model.specs.Order.{ChooseTheSame, HaveSameOrder, IsOfKeyset, IsOutputPrefix, with_prefix}

-- the prefix that a stream may have: five bytes where the first one is 0 or 1, else none
abbrev prefix_in : List ℕ → List ℕ
prefix_in S = cond (nat_le (slice_index S 0) 1) (take 5 S) []

both_true : (a b : Bool) → (a && b) ≡ true → (a ≡ true) × (b ≡ true)
both_true true b e = (refl, e)
both_true false b e = absurd (false≢true e)

low_first : (S out : List ℕ) → take 5 S ≡ out → slice_index out 0 ≤ 1 → nat_le (slice_index S 0) 1 ≡ true
low_first [] out e low = refl
low_first (x ∷ S) out e low =
    let first : slice_index out 0 ≡ x = sym (ap (λ l. slice_index l 0) e) in
    grind (arith, nat_tests)

-- a key opens streams of its own prefix alone
own_prefix_by : (S out : List ℕ) (h : ℕ) → 2 ≤ h → IsOutputPrefix out → take (length out) S ≡ out
    → slice_index S (length out) ≡ h → out ≡ prefix_in S
own_prefix_by S out h big (inl none) same mark =
    let first : slice_index S 0 ≡ h = sym (ap (λ o. slice_index S (length o)) none) ∙ mark in
    let high : nat_le (slice_index S 0) 1 ≡ false = grind (arith, nat_tests) in
    none ∙ sym (ap (λ b. cond b (take 5 S) []) high)
own_prefix_by S out h big (inr five) same mark =
    let whole : take 5 S ≡ out = sym (ap (λ n. take n S) five.0) ∙ same in
    sym whole ∙ sym (ap (λ b. cond b (take 5 S) []) (low_first S out whole five.1))

module _ (aad S : List ℕ) where
  own_prefix : (k : StreamKey) → IsOfKeyset k → Begins (opening_key aad k) S → k.out ≡ prefix_in S
  own_prefix k is b =
      let parts = both_true (bytes_eq k.out (take (length k.out) S)) (nat_eq (slice_index S (length k.out)) (header_length k)) b.front.mark in
      let same : take (length k.out) S ≡ k.out = sym ((bytes_decides k.out (take (length k.out) S)).0 parts.0) in
      let mark : slice_index S (length k.out) ≡ header_length k = grind (arith, nat_tests) in
      own_prefix_by S k.out (header_length k) (omega arith) is.out same mark

  begins_not : (k : StreamKey) → IsOfKeyset k → bytes_eq k.out (prefix_in S) ≡ false → Begins (opening_key aad k) S → ⊥
  begins_not k is other b =
      false≢true (sym other ∙ (bytes_decides k.out (prefix_in S)).1 (own_prefix k is b))

  abbrev Chooses : List StreamKey → Option OpeningKey → Type 0
  Chooses ks c = IsChosen (map (opening_key aad) ks) S c

  -- what is chosen of all keys is chosen of those of the stream's prefix
  to_own : (ks : List StreamKey) (c : Option OpeningKey) → All IsOfKeyset ks → Chooses ks c
      → Chooses (with_prefix (prefix_in S) ks) c
  to_own [] c is h = h
  to_own (k ∷ ks) c is h = by (bytes_eq k.out (prefix_in S)) refl h (to_own ks c (All-tail IsOfKeyset k ks is))
    where
      own : List StreamKey
      own = with_prefix (prefix_in S) ks

      by : (b : Bool) → bytes_eq k.out (prefix_in S) ≡ b → Chooses (k ∷ ks) c → (Chooses ks c → Chooses own c)
          → Chooses (cond b (k ∷ own) own) c
      by true e (inl h) more = inl h
      by true e (inr h) more = inr (h.0, more h.1)
      by false e (inl h) more = absurd (begins_not k (All-head IsOfKeyset k ks is) e h.0)
      by false e (inr h) more = more h.1

  -- and the other way round
  from_own : (ks : List StreamKey) (c : Option OpeningKey) → All IsOfKeyset ks
      → Chooses (with_prefix (prefix_in S) ks) c → Chooses ks c
  from_own [] c is h = h
  from_own (k ∷ ks) c is h = by (bytes_eq k.out (prefix_in S)) refl h (from_own ks c (All-tail IsOfKeyset k ks is))
    where
      own : List StreamKey
      own = with_prefix (prefix_in S) ks

      by : (b : Bool) → bytes_eq k.out (prefix_in S) ≡ b → Chooses (cond b (k ∷ own) own) c → (Chooses own c → Chooses ks c)
          → Chooses (k ∷ ks) c
      by true e (inl h) more = inl h
      by true e (inr h) more = inr (h.0, more h.1)
      by false e h more = inr (begins_not k (All-head IsOfKeyset k ks is) e, more h)

stands_in : (test : StreamKey → Bool) (ks : List StreamKey) (k : StreamKey) → test k ≡ true → Contains ks k
    → Contains (filter test ks) k
stands_in test ks k passes there =
    let kept : All (λ x. test x ≡ true → Contains (filter test ks) x) ks = each ks in
    All-contains (λ x. test x ≡ true → Contains (filter test ks) x) ks k kept there passes
  where
    each : (xs : List StreamKey) → All (λ x. test x ≡ true → Contains (filter test xs) x) xs
    each [] = All-nil (λ x. test x ≡ true → Contains (filter test []) x)
    each (x ∷ xs) = All-cons (λ y. test y ≡ true → Contains (filter test (x ∷ xs)) y) x xs (here (test x)) (All-weaker (λ y. test y ≡ true → Contains (filter test xs) y) (λ y. test y ≡ true → Contains (filter test (x ∷ xs)) y) (λ y h e. later (test x) y (h e)) xs (each xs))
      where
        here : (b : Bool) → b ≡ true → Contains (cond b (x ∷ filter test xs) (filter test xs)) x
        here true e = (0, omega (arith), refl)
        here false e = absurd (false≢true e)

        later : (b : Bool) (y : StreamKey) → Contains (filter test xs) y → Contains (cond b (x ∷ filter test xs) (filter test xs)) y
        later true y h = let lt = h.1 in (suc h.0, omega arith, h.2)
        later false y h = h

-- what each key of the one list is, each of the other is
pub each_too : (P : StreamKey → Type 0) (keys others : List StreamKey) → HaveSameOrder keys others → All P others → All P keys
each_too P keys others same all =
    All-weaker (Contains keys) P one keys (All-contains_itself keys)
  where
    one : (k : StreamKey) → Contains keys k → P k
    one k there =
        let own : bytes_eq k.out k.out ≡ true = (bytes_decides k.out k.out).1 refl in
        let mine : Contains (with_prefix k.out keys) k = stands_in (λ x. bytes_eq x.out k.out) keys k own there in
        let theirs : Contains (with_prefix k.out others) k = subst (λ xs. Contains xs k) (same k.out) mine in
        All-contains P (with_prefix k.out others) k (All-filter (λ x. bytes_eq x.out k.out) P others all) theirs

pub choose_the_same : ChooseTheSame
choose_the_same aad S keys others c is same =
    let mine : All IsOfKeyset keys = each_too IsOfKeyset keys others same is in (
      λ h. from_own aad S others c is (subst (λ ks. Chooses aad S ks c) (same (prefix_in S)) (to_own aad S keys c mine h)),
      λ h. from_own aad S keys c mine (subst (λ ks. Chooses aad S ks c) (sym (same (prefix_in S))) (to_own aad S others c is h)),
    )
