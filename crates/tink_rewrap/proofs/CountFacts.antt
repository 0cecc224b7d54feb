-- Lists that have the same keys under each prefix have as many.
use Rattle.std.proofs.Common.{◌≡◌, ◌∙◌, ℕ, suc, Bool, true, false, cond, List, [], ◌∷◌, length, refl, sym, ap, subst, arith, bytes_eq}
use Rattle.std.specs.Cmp.Lexicographic.{bytes_decides}
use Rattle.stream_model.specs.Key.{StreamKey}
use Rattle.stream_model.specs.Order.{HaveSameOrder, with_prefix}

-- a list without its first key of a prefix
abbrev without : List ℕ → List StreamKey → List StreamKey
without p [] = []
without p (k ∷ ks) = cond (bytes_eq k.out p) ks (k ∷ without p ks)

some_none : {A : Type 0} (x : A) (xs : List A) → [] ≡ x ∷ xs → ⊥
some_none x xs e = absurd (omega (arith, ap length e))

abbrev tail_of : {A : Type 0} → List A → List A
tail_of [] = []
tail_of (x ∷ xs) = xs

-- of that prefix it has the others
own_rest : (p : List ℕ) (ks : List StreamKey) (x : StreamKey) (rest : List StreamKey) → with_prefix p ks ≡ x ∷ rest → with_prefix p (without p ks) ≡ rest
own_rest p [] x rest e = absurd (some_none x rest e)
own_rest p (k ∷ ks) x rest e = by (bytes_eq k.out p) refl e (own_rest p ks x rest)
  where
    by : (b : Bool) → bytes_eq k.out p ≡ b → cond b (k ∷ with_prefix p ks) (with_prefix p ks) ≡ x ∷ rest → (with_prefix p ks ≡ x ∷ rest → with_prefix p (without p ks) ≡ rest) → with_prefix p (cond b ks (k ∷ without p ks)) ≡ rest
    by true is e further = ap tail_of e
    by false is e further = ap (λ c. cond c (k ∷ with_prefix p (without p ks)) (with_prefix p (without p ks))) is ∙ further e

-- of each other prefix it has the same
other_same : (p q : List ℕ) (ks : List StreamKey) → bytes_eq p q ≡ false → with_prefix q (without p ks) ≡ with_prefix q ks
other_same p q [] differs = refl
other_same p q (k ∷ ks) differs = by (bytes_eq k.out p) refl (other_same p q ks differs)
  where
    by : (b : Bool) → bytes_eq k.out p ≡ b → with_prefix q (without p ks) ≡ with_prefix q ks → with_prefix q (cond b ks (k ∷ without p ks)) ≡ with_prefix q (k ∷ ks)
    by true is further =
        let same : k.out ≡ p = (bytes_decides k.out p).0 is in
        sym (ap (λ c. cond c (k ∷ with_prefix q ks) (with_prefix q ks)) (ap (λ o. bytes_eq o q) same ∙ differs))
    by false is further = ap (λ xs. cond (bytes_eq k.out q) (k ∷ xs) xs) further

one_less : (p : List ℕ) (ks : List StreamKey) (x : StreamKey) (rest : List StreamKey) → with_prefix p ks ≡ x ∷ rest → length ks ≡ suc (length (without p ks))
one_less p [] x rest e = absurd (some_none x rest e)
one_less p (k ∷ ks) x rest e = by (bytes_eq k.out p) e (one_less p ks x rest)
  where
    by : (b : Bool) → cond b (k ∷ with_prefix p ks) (with_prefix p ks) ≡ x ∷ rest → (with_prefix p ks ≡ x ∷ rest → length ks ≡ suc (length (without p ks))) → length (k ∷ ks) ≡ suc (length (cond b ks (k ∷ without p ks)))
    by true e further = refl
    by false e further = ap suc (further e)

pub same_count : (keys others : List StreamKey) → HaveSameOrder keys others → length keys ≡ length others
same_count [] [] same = refl
same_count [] (k ∷ ks) same =
    let own : bytes_eq k.out k.out ≡ true = (bytes_decides k.out k.out).1 refl in
    absurd (some_none k (with_prefix k.out ks) (same k.out ∙ ap (λ c. cond c (k ∷ with_prefix k.out ks) (with_prefix k.out ks)) own))
same_count (k ∷ ks) others same = ap suc (same_count ks (without k.out others) rest) ∙ sym (one_less k.out others k (with_prefix k.out ks) first)
  where
    first : with_prefix k.out others ≡ k ∷ with_prefix k.out ks
    first =
        let own : bytes_eq k.out k.out ≡ true = (bytes_decides k.out k.out).1 refl in
        sym (same k.out) ∙ ap (λ c. cond c (k ∷ with_prefix k.out ks) (with_prefix k.out ks)) own

    by : (q : List ℕ) (b : Bool) → bytes_eq k.out q ≡ b → with_prefix q ks ≡ with_prefix q (without k.out others)
    by q true is =
        let own : k.out ≡ q = (bytes_decides k.out q).0 is in
        subst (λ (p : List ℕ). with_prefix p ks ≡ with_prefix p (without k.out others)) own (sym (own_rest k.out others k (with_prefix k.out ks) first))
    by q false is = sym (ap (λ c. cond c (k ∷ with_prefix q ks) (with_prefix q ks)) is) ∙ same q ∙ sym (other_same k.out q others is)

    rest : HaveSameOrder ks (without k.out others)
    rest q = by q (bytes_eq k.out q) refl
