-- The segment at the head of held bytes, whose size is computed.
use Rattle.std.proofs.Common.{◌≡◌, ◌⊎◌, inl, inr, ◌≤◌, ◌<◌, ℕ, zero, suc, Bool, List, length, take, ap, sym, subst, ◌∙◌, arith}
use Rattle.std.proofs.lemmas.List.{take_all}
use Rattle.std.specs.Prelude.{nat_le, min}
use Rattle.tink_streaming_segment.specs.Opening.{HeadOpensTo}

pub fits_or_not : (m n : ℕ) → (m ≤ n) ⊎ (n < m)
fits_or_not zero n = inl (omega arith)
fits_or_not (suc m) zero = inr (omega arith)
fits_or_not (suc m) (suc n) = elim (fits_or_not m n) [ inl h ↦ inl (omega arith) | inr h ↦ inr (omega arith) ]

-- the head by the lesser of two lengths
head_cut : (n size : ℕ) (H : List ℕ) → n ≡ min (length H) size → take n H ≡ take size H
head_cut n size H most = elim (fits_or_not (length H) size) [
  | inl fits ↦ take_all n H (omega (arith, most)) ∙ sym (take_all size H fits)
  | inr more ↦ let whole : n ≡ size = omega (arith, most) in ap (λ m. take m H) whole
]

-- the segment at the head of held bytes, whose size is computed
pub head_opens : (seg : ℕ → Bool → List ℕ → List ℕ) (i size room n : ℕ) (H t : List ℕ) → size ≡ room → 0 < n → n ≡ min (length H) size → seg i (nat_le (length H) size) t ≡ take n H → HeadOpensTo seg i room H t
head_opens seg i size room n H t same some most o = subst (λ b. HeadOpensTo seg i b H t) same (record { some = omega (arith, most); segment = o ∙ head_cut n size H most })

pub head_opened : (seg : ℕ → Bool → List ℕ → List ℕ) (i size room n : ℕ) (H t : List ℕ) → size ≡ room → n ≡ min (length H) size → HeadOpensTo seg i room H t → seg i (nat_le (length H) size) t ≡ take n H
head_opened seg i size room n H t same most h = (subst (λ b. seg i (nat_le (length H) b) t ≡ take b H) (sym same) h.segment) ∙ sym (head_cut n size H most)
