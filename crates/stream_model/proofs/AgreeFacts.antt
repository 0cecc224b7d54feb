-- Texts that agree, step by step.
use Rattle.std.proofs.Common.{◌≡◌, ◌⊎◌, inl, inr, ◌<◌, ◌≤◌, ◌+◌, ◌^◌, ℕ, Bool, true, false, List, [], ◌∷◌, ◌++◌, length, take, drop, refl, sym, ap, subst, ◌∙◌, arith, add-zero, length-append, length-drop, append_assoc}
use Rattle.stream_model.specs.Cut.{cut}
use Rattle.stream_model.specs.Agree.{is_last, AreTexts, Agree, Leads, joined}
use Rattle.stream_model.proofs.CutFacts.{cut_none, cut_fits, cut_more, cut_some}

pub joined-append : (xs ys : List (List ℕ)) → joined (xs ++ ys) ≡ joined xs ++ joined ys
joined-append [] ys = refl
joined-append (x ∷ xs) ys = ap (λ r. x ++ r) (joined-append xs ys) ∙ sym (append_assoc x (joined xs) (joined ys))

pub Leads-trans : (seg : ℕ → Bool → List ℕ → List ℕ) (i : ℕ) (a ts b us c : List (List ℕ)) → Leads seg i a ts b → Leads seg (i + length ts) b us c → Leads seg i a (ts ++ us) c
Leads-trans seg i a [] b us c p q = subst (λ (x : List (List ℕ)). Leads seg i x us c) p (subst (λ (n : ℕ). Leads seg n b us c) (add-zero i) q)
Leads-trans seg i [] (t ∷ ts) b us c p q = absurd p
Leads-trans seg i (x ∷ a) (t ∷ ts) b us c p q =
    let e : i + length (t ∷ ts) ≡ (i + 1) + length ts = omega arith in
    (p.0, p.1, Leads-trans seg (i + 1) a ts b us c p.2 (subst (λ (n : ℕ). Leads seg n b us c) e q))

-- what leads agrees
pub AreTexts-leads : (seg : ℕ → Bool → List ℕ → List ℕ) (i : ℕ) (a ts b us : List (List ℕ)) → Leads seg i a ts b → AreTexts seg (i + length ts) b us → AreTexts seg i a (ts ++ us)
AreTexts-leads seg i a [] b us p q = subst (λ (x : List (List ℕ)). AreTexts seg i x us) p (subst (λ (n : ℕ). AreTexts seg n b us) (add-zero i) q)
AreTexts-leads seg i [] (t ∷ ts) b us p q = absurd p
AreTexts-leads seg i (x ∷ a) (t ∷ ts) b us p q =
    let e : i + length (t ∷ ts) ≡ (i + 1) + length ts = omega arith in
    (p.0, p.1, AreTexts-leads seg (i + 1) a ts b us p.2 (subst (λ (n : ℕ). AreTexts seg n b us) e q))

-- texts that agree go past those that lead by what agrees with the rest, or are no more
past : (seg : ℕ → Bool → List ℕ → List ℕ) (i : ℕ) (a ts b others : List (List ℕ)) → Leads seg i a ts b → AreTexts seg i a others
    → (length others ≤ length ts) ⊎ ((more : List (List ℕ)) × (length others ≡ length ts + length more) × AreTexts seg (i + length ts) b more)
past seg i a [] b others p q =
    inr (others, omega arith, subst (λ (x : List (List ℕ)). AreTexts seg (i + 0) x others) (sym p) (subst (λ (n : ℕ). AreTexts seg n a others) (sym (add-zero i)) q))
past seg i [] (t ∷ ts) b others p q = absurd p
past seg i (x ∷ a) (t ∷ ts) b [] p q = inl (omega arith)
past seg i (x ∷ a) (t ∷ ts) b (o ∷ others) p q =
    let e : (i + 1) + length ts ≡ i + length (t ∷ ts) = omega arith in
    elim (past seg (i + 1) a ts b others p.2 q.2) [
      | inl few ↦ inl (omega arith)
      | inr h ↦ inr (h.0, omega (arith, h.1), subst (λ (n : ℕ). AreTexts seg n b h.0) e h.2)
    ]

-- the longest list is what was opened and then the longest for the rest
pub Agree-leads : (seg : ℕ → Bool → List ℕ → List ℕ) (i : ℕ) (a ts b us : List (List ℕ)) → Leads seg i a ts b → Agree seg (i + length ts) b us → Agree seg i a (ts ++ us)
Agree-leads seg i a ts b us p q = record {
  are = AreTexts-leads seg i a ts b us p q.are;
  longest = λ others h. elim (past seg i a ts b others p h) [
    | inl few ↦ omega (arith, length-append ts us)
    | inr more ↦ omega (arith, more.1, q.longest more.0 more.2, length-append ts us)
  ];
}

-- a segment has one text
pub HasOneText : (ℕ → Bool → List ℕ → List ℕ) → Type 0
HasOneText seg = (i : ℕ) (last : Bool) (t u : List ℕ) → seg i last t ≡ seg i last u → t ≡ u

-- where a segment has one text, the longest list begins with what was opened
split_agree : (seg : ℕ → Bool → List ℕ → List ℕ) (i : ℕ) (a ts b others : List (List ℕ)) → ((i : ℕ) (last : Bool) (t u : List ℕ) → seg i last t ≡ seg i last u → t ≡ u)
    → Leads seg i a ts b → AreTexts seg i a others → length ts ≤ length others
    → (more : List (List ℕ)) × (others ≡ ts ++ more) × AreTexts seg (i + length ts) b more
split_agree seg i a [] b others one p q h =
    (others, refl, subst (λ (x : List (List ℕ)). AreTexts seg (i + 0) x others) (sym p) (subst (λ (n : ℕ). AreTexts seg n a others) (sym (add-zero i)) q))
split_agree seg i [] (t ∷ ts) b others one p q h = absurd p
split_agree seg i (x ∷ a) (t ∷ ts) b [] one p q h = absurd (omega arith)
split_agree seg i (x ∷ a) (t ∷ ts) b (o ∷ others) one p q h =
    let e : (i + 1) + length ts ≡ i + length (t ∷ ts) = omega arith in
    let rest = split_agree seg (i + 1) a ts b others one p.2 q.2 (omega arith) in
    let same : o ≡ t = one i (is_last a) o t (q.1 ∙ sym p.1) in
    (rest.0, ap (λ y. y ∷ others) same ∙ ap (λ y. t ∷ y) rest.1, subst (λ (n : ℕ). AreTexts seg n b rest.0) e rest.2)

pub Agree-split : (seg : ℕ → Bool → List ℕ → List ℕ) (i : ℕ) (a ts b all : List (List ℕ)) → ((i : ℕ) (last : Bool) (t u : List ℕ) → seg i last t ≡ seg i last u → t ≡ u)
    → Leads seg i a ts b → Agree seg i a all → (more : List (List ℕ)) × (all ≡ ts ++ more) × Agree seg (i + length ts) b more
Agree-split seg i a ts b all one p q =
    let ts_are : AreTexts seg i a (ts ++ []) = AreTexts-leads seg i a ts b [] p tt in
    let enough : length ts ≤ length all = omega (arith, q.longest (ts ++ []) ts_are, length-append ts []) in
    let s = split_agree seg i a ts b all one p q.are enough in (
      s.0,
      s.1,
      record {
        are = s.2;
        longest = λ others h. omega (arith, q.longest (ts ++ others) (AreTexts-leads seg i a ts b others p h), length-append ts others, ap length s.1, length-append ts s.0);
      },
    )

-- nothing agrees where the next chunk is the segment of no text, or there is none, or the numbers are used up
pub Agree-none : (seg : ℕ → Bool → List ℕ → List ℕ) (i : ℕ) (c : List ℕ) (chunks : List (List ℕ)) → ((t : List ℕ) → seg i (is_last chunks) t ≡ c → ⊥) → Agree seg i (c ∷ chunks) []
Agree-none seg i c chunks not_one = record { are = tt; longest = none }
  where
    none : (others : List (List ℕ)) → AreTexts seg i (c ∷ chunks) others → length others ≤ 0
    none [] h = omega arith
    none (o ∷ others) h = absurd (not_one o h.1)

pub Agree-empty : (seg : ℕ → Bool → List ℕ → List ℕ) (i : ℕ) → Agree seg i [] []
Agree-empty seg i = record { are = tt; longest = none }
  where
    none : (others : List (List ℕ)) → AreTexts seg i [] others → length others ≤ 0
    none [] h = omega arith
    none (o ∷ others) h = absurd h

pub Agree-used_up : (seg : ℕ → Bool → List ℕ → List ℕ) (i : ℕ) (chunks : List (List ℕ)) → 2 ^ 32 ≤ i → Agree seg i chunks []
Agree-used_up seg i chunks many = record { are = tt; longest = none chunks }
  where
    none : (chunks others : List (List ℕ)) → AreTexts seg i chunks others → length others ≤ 0
    none chunks [] h = omega arith
    none [] (o ∷ others) h = absurd h
    none (c ∷ cs) (o ∷ others) h = absurd (omega (arith, h.0))

-- the last chunk is opened
pub Leads-last : (seg : ℕ → Bool → List ℕ → List ℕ) (i a b : ℕ) (X t : List ℕ) → i < 2 ^ 32 → 0 < length X → length X ≤ a → seg i true t ≡ X → Leads seg i (cut a b X) (t ∷ []) (cut b b [])
Leads-last seg i a b X t few some fits e = rw (cut_fits a b X some fits, cut_none b b) (few, e, refl)

not_last : (chunks : List (List ℕ)) (u : List ℕ) (us : List (List ℕ)) → chunks ≡ u ∷ us → is_last chunks ≡ false
not_last chunks u us e = rw e

-- a chunk before others is opened
pub Leads-more : (seg : ℕ → Bool → List ℕ → List ℕ) (i a b : ℕ) (X t : List ℕ) → i < 2 ^ 32 → 0 < a → 0 < b → a < length X → seg i false t ≡ take a X → Leads seg i (cut a b X) (t ∷ []) (cut b b (drop a X))
Leads-more seg i a b X t few p q more e =
    let some = cut_some b b (drop a X) (omega (arith, length-drop a X)) in
    let unmarked : is_last (cut b b (drop a X)) ≡ false = not_last (cut b b (drop a X)) some.0 some.1 some.2 in
    rw (cut_more a b X more p q) (few, ap (λ m. seg i m t) unmarked ∙ e, refl)

pub Agree-none_last : (seg : ℕ → Bool → List ℕ → List ℕ) (i a b : ℕ) (X : List ℕ) → 0 < length X → length X ≤ a → ((t : List ℕ) → seg i true t ≡ X → ⊥) → Agree seg i (cut a b X) []
Agree-none_last seg i a b X some fits not_one = rw (cut_fits a b X some fits) (Agree-none seg i X [] not_one)

pub Agree-none_more : (seg : ℕ → Bool → List ℕ → List ℕ) (i a b : ℕ) (X : List ℕ) → 0 < a → 0 < b → a < length X → ((t : List ℕ) → seg i false t ≡ take a X → ⊥) → Agree seg i (cut a b X) []
Agree-none_more seg i a b X p q more not_one =
    let some = cut_some b b (drop a X) (omega (arith, length-drop a X)) in
    let unmarked : is_last (cut b b (drop a X)) ≡ false = not_last (cut b b (drop a X)) some.0 some.1 some.2 in
    rw (cut_more a b X more p q) (Agree-none seg i (take a X) (cut b b (drop a X)) (λ t e. not_one t (ap (λ m. seg i m t) (sym unmarked) ∙ e)))
