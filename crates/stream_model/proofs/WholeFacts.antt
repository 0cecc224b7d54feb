-- Texts that lead to the end of a stream are the stream's texts.
use Rattle.std.proofs.Common.{◌≡◌, ◌⊎◌, inl, inr, ◌<◌, ◌≤◌, ◌+◌, ℕ, zero, suc, Bool, true, false, List, [], ◌∷◌, ◌++◌, length, take, drop, refl, sym, ap, ◌∙◌, arith, length-drop}
use Rattle.std.proofs.lemmas.List.{take-append-drop, length-take}
use Rattle.stream_model.specs.Cut.{cut}
use Rattle.stream_model.specs.Agree.{is_last, Leads}
use Rattle.stream_model.proofs.CutFacts.{cut_none, cut_fits, cut_more, cut_some}
use Rattle.stream_model.specs.Opening.{AreSegments}

fits_or_not : (m n : ℕ) → (m ≤ n) ⊎ (n < m)
fits_or_not zero n = inl (omega arith)
fits_or_not (suc m) zero = inr (omega arith)
fits_or_not (suc m) (suc n) = elim (fits_or_not m n) [ inl h ↦ inl (omega arith) | inr h ↦ inr (omega arith) ]

-- the overhead of each segment
abbrev IsLonger : (ℕ → Bool → List ℕ → List ℕ) → ℕ → Type 0
IsLonger seg o = (i : ℕ) (last : Bool) (t : List ℕ) → length (seg i last t) ≡ length t + o

last_case : (seg : ℕ → Bool → List ℕ → List ℕ) (o i a b : ℕ) (t : List ℕ) (ts : List (List ℕ)) (X : List ℕ) → IsLonger seg o → length X ≤ a + o → Leads seg i (X ∷ []) (t ∷ ts) [] → AreSegments seg i a b X (t ∷ ts)
last_case seg o i a b t [] X l h p = (p.0, omega (arith, l i true t, ap length p.1), sym p.1)
last_case seg o i a b t (u ∷ ts) X l h p = absurd p.2

more_case : (seg : ℕ → Bool → List ℕ → List ℕ) (o i a b : ℕ) (t : List ℕ) (ts : List (List ℕ)) (X : List ℕ) (rest : List (List ℕ)) (v : List ℕ) (vs : List (List ℕ)) → IsLonger seg o → a + o < length X → rest ≡ v ∷ vs
    → Leads seg i (take (a + o) X ∷ rest) (t ∷ ts) [] → ((u : List ℕ) (us : List (List ℕ)) → ts ≡ u ∷ us → AreSegments seg (i + 1) b b (drop (a + o) X) ts) → AreSegments seg i a b X (t ∷ ts)
more_case seg o i a b t [] X rest v vs l h e p more = absurd (let z : [] ≡ v ∷ vs = p.2 ∙ e in cc)
more_case seg o i a b t (u ∷ ts) X rest v vs l h e p more =
    let unmarked : is_last rest ≡ false = ap is_last e in
    let here : seg i false t ≡ take (a + o) X = ap (λ m. seg i m t) (sym unmarked) ∙ p.1 in (
      p.0,
      omega (arith, l i false t, ap length here, length-take (a + o) X),
      (drop (a + o) X, sym (take-append-drop (a + o) X) ∙ ap (λ x. x ++ drop (a + o) X) (sym here), more u ts refl),
    )

-- texts that lead from all chunks to none are those of a stream
pub stream_of_leads : (seg : ℕ → Bool → List ℕ → List ℕ) (o i a b : ℕ) (texts : List (List ℕ)) (X : List ℕ) → IsLonger seg o → 0 < a → 0 < b → 0 < length texts
    → Leads seg i (cut (a + o) (b + o) X) texts [] → AreSegments seg i a b X texts
stream_of_leads seg o i a b [] X l p q some h = absurd (omega arith)
stream_of_leads seg o i a b (t ∷ ts) [] l p q some h = absurd (rw cut_none at h)
stream_of_leads seg o i a b (t ∷ ts) (x ∷ X) l p q some h = elim (fits_or_not (length (x ∷ X)) (a + o)) [
  | inl fits ↦ last_case seg o i a b t ts (x ∷ X) l fits (rw (cut_fits (a + o) (b + o) (x ∷ X) (omega arith) fits) at h)
  | inr more ↦
      let chunks = cut_some (b + o) (b + o) (drop (a + o) (x ∷ X)) (omega (arith, length-drop (a + o) (x ∷ X))) in
      let leads = rw (cut_more (a + o) (b + o) (x ∷ X) more (omega arith) (omega arith)) at h in
      more_case seg o i a b t ts (x ∷ X) (cut (b + o) (b + o) (drop (a + o) (x ∷ X))) chunks.0 chunks.1 l more chunks.2 leads
      (λ u us e. stream_of_leads seg o (i + 1) b b ts (drop (a + o) (x ∷ X)) l q q (omega (arith, ap length e)) leads.2)
]
