-- The chosen key and the texts that agree are one.
use Rattle.std.proofs.Common.{◌≡◌, inl, inr, ◌<◌, ◌≤◌, ◌+◌, ℕ, suc, Bool, true, false, List, [], ◌∷◌, ◌++◌, length, take, drop, refl, sym, ap, subst, ◌∙◌, arith, Some, length-append}
use Rattle.std.specs.declared.option.Option.{Option}
use Rattle.std.proofs.lemmas.List.{append-nil}
use Rattle.std.proofs.Math.Seq.{take-append_seam, drop-append_seam}
use Rattle.stream_model.specs.Cut.{cut}
use Rattle.stream_model.specs.Agree.{is_last, AreTexts, Agree, Leads}
use Rattle.stream_model.specs.Opening.{OpeningKey, Begins, IsChosen, AreSegments}
use Rattle.stream_model.proofs.AgreeFacts.{Agree-split}
use Rattle.stream_model.proofs.CutFacts.{cut_fits, cut_more, cut_some}

-- at most one key is chosen
pub IsChosen-unique : (ks : List OpeningKey) (S : List ℕ) (c d : Option OpeningKey) → IsChosen ks S c → IsChosen ks S d → c ≡ d
IsChosen-unique [] S c d p q = p ∙ sym q
IsChosen-unique (k ∷ ks) S c d (inl p) (inl q) = p.1 ∙ sym q.1
IsChosen-unique (k ∷ ks) S c d (inl p) (inr q) = absurd (q.0 p.0)
IsChosen-unique (k ∷ ks) S c d (inr p) (inl q) = absurd (p.0 q.0)
IsChosen-unique (k ∷ ks) S c d (inr p) (inr q) = IsChosen-unique ks S c d p.1 q.1

-- what is so of each key is so of the chosen one
pub IsChosen-all : (P : OpeningKey → Type 0) (ks : List OpeningKey) (S : List ℕ) (k : OpeningKey) → ((j : OpeningKey) → P j) → IsChosen ks S (Some k) → P k
IsChosen-all P ks S k all h = all k

-- the chosen key begins the stream
pub IsChosen-begins : (ks : List OpeningKey) (S : List ℕ) (k : OpeningKey) → IsChosen ks S (Some k) → Begins k S
IsChosen-begins [] S k h = absurd (cc)
IsChosen-begins (j ∷ ks) S k (inl h) = let same : k ≡ j = cc in subst (λ (i : OpeningKey). Begins i S) (sym same) h.0
IsChosen-begins (j ∷ ks) S k (inr h) = IsChosen-begins ks S k h.1

-- texts that agree lead to the chunks behind theirs
pub leads_on : (seg : ℕ → Bool → List ℕ → List ℕ) (i : ℕ) (cs ts : List (List ℕ)) → AreTexts seg i cs ts → (rest : List (List ℕ)) × Leads seg i cs ts rest × (length cs ≡ length ts + length rest)
leads_on seg i cs [] h = (cs, refl, omega arith)
leads_on seg i [] (t ∷ ts) h = absurd h
leads_on seg i (c ∷ cs) (t ∷ ts) h = let r = leads_on seg (i + 1) cs ts h.2 in (r.0, (h.0, h.1, r.1), omega (arith, r.2))

-- the longest list goes on from any that agrees
pub goes_on : (seg : ℕ → Bool → List ℕ → List ℕ) (i : ℕ) (cs ts all : List (List ℕ)) → ((i : ℕ) (last : Bool) (t u : List ℕ) → seg i last t ≡ seg i last u → t ≡ u)
    → AreTexts seg i cs ts → Agree seg i cs all → (more : List (List ℕ)) × (all ≡ ts ++ more)
goes_on seg i cs ts all one p q =
    let r = leads_on seg i cs ts p in
    let s = Agree-split seg i cs ts r.0 all one r.1 q in
    (s.0, s.1)

-- and where it is of the same length, it is that list
same_length : (ts more all : List (List ℕ)) → all ≡ ts ++ more → length all ≤ length ts → all ≡ ts
same_length ts [] all e h = e ∙ append-nil ts
same_length ts (m ∷ more) all e h = absurd (omega (arith, ap length e, length-append ts (m ∷ more)))

pub Agree-unique : (seg : ℕ → Bool → List ℕ → List ℕ) (i : ℕ) (cs ts us : List (List ℕ)) → ((i : ℕ) (last : Bool) (t u : List ℕ) → seg i last t ≡ seg i last u → t ≡ u)
    → Agree seg i cs ts → Agree seg i cs us → us ≡ ts
Agree-unique seg i cs ts us one p q =
    let g = goes_on seg i cs ts us one p.are q in
    same_length ts g.0 us g.1 (p.longest us q.are)

take_front : (xs ys : List ℕ) (n : ℕ) → length xs ≡ n → take n (xs ++ ys) ≡ xs
take_front xs ys n e = subst (λ (k : ℕ). take k (xs ++ ys) ≡ xs) e (take-append_seam xs ys)

drop_front : (xs ys : List ℕ) (n : ℕ) → length xs ≡ n → drop n (xs ++ ys) ≡ ys
drop_front xs ys n e = subst (λ (k : ℕ). drop k (xs ++ ys) ≡ ys) e (drop-append_seam xs ys)

-- segments have some bytes
segments_some : (seg : ℕ → Bool → List ℕ → List ℕ) (o i a b : ℕ) (ts : List (List ℕ)) (X : List ℕ) → ((i : ℕ) (last : Bool) (t : List ℕ) → length (seg i last t) ≡ length t + o)
    → 0 < o → AreSegments seg i a b X ts → 0 < length X
segments_some seg o i a b [] X long s h = absurd h
segments_some seg o i a b (t ∷ []) X long s h = omega (arith, ap length h.2, long i true t)
segments_some seg o i a b (t ∷ u ∷ ts) X long s h = omega (arith, ap length h.2.1, long i false t, length-append (seg i false t) h.2.0)

-- the texts of a stream are those of all its chunks
pub all_agree : (seg : ℕ → Bool → List ℕ → List ℕ) (o i a b : ℕ) (ts : List (List ℕ)) (X : List ℕ) → ((i : ℕ) (last : Bool) (t : List ℕ) → length (seg i last t) ≡ length t + o)
    → 0 < a → 0 < b → 0 < o → AreSegments seg i a b X ts → AreTexts seg i (cut (a + o) (b + o) X) ts × (length (cut (a + o) (b + o) X) ≡ length ts)
all_agree seg o i a b [] X long p q s h = absurd h
all_agree seg o i a b (t ∷ []) X long p q s h =
    let size : length X ≡ length t + o = ap length h.2 ∙ long i true t in
    rw (cut_fits (a + o) (b + o) X (omega arith) (omega (arith, h.1))) ((h.0, sym h.2, tt), refl)
all_agree seg o i a b (t ∷ u ∷ ts) X long p q s h =
    let front : length (seg i false t) ≡ a + o = long i false t ∙ ap (λ n. n + o) h.1 in
    let rest = all_agree seg o (i + 1) b b (u ∷ ts) h.2.0 long q q s h.2.2 in
    let some : 0 < length h.2.0 = segments_some seg o (i + 1) b b (u ∷ ts) h.2.0 long s h.2.2 in
    let whole : length X ≡ length (seg i false t) + length h.2.0 = ap length h.2.1 ∙ length-append (seg i false t) h.2.0 in
    let more = cut_more (a + o) (b + o) X (omega (arith, front)) (omega arith) (omega arith) in
    let first : take (a + o) X ≡ seg i false t = ap (take (a + o)) h.2.1 ∙ take_front (seg i false t) h.2.0 (a + o) front in
    let behind : drop (a + o) X ≡ h.2.0 = ap (drop (a + o)) h.2.1 ∙ drop_front (seg i false t) h.2.0 (a + o) front in
    let chunks : cut (a + o) (b + o) X ≡ seg i false t ∷ cut (b + o) (b + o) h.2.0 = more ∙ ap (λ x. x ∷ cut (b + o) (b + o) (drop (a + o) X)) first ∙ ap (λ y. seg i false t ∷ cut (b + o) (b + o) y) behind in
    let others = cut_some (b + o) (b + o) h.2.0 some in
    let unmarked : is_last (cut (b + o) (b + o) h.2.0) ≡ false = ap is_last others.2 in
    rw chunks ((h.0, ap (λ m. seg i m t) unmarked, rest.0), ap suc rest.1)
