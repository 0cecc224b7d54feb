-- What stays of a source and a sink over memory is reflexive and transitive.
use Rattle.std.proofs.Common.{◌≡◌, ◌⊎◌, inl, inr, ℕ, ◌≤◌, List, [], ◌++◌, length, refl, sym, ◌∙◌, ap, append_assoc, arith, length-append}
use Rattle.std.proofs.lemmas.List.{append-nil}
use Rattle.tink_io.specs.Memory.{MemoryLeft, MemoryTaken, SameSource, SameSink}

pub SameSource-refl : (s : MemoryLeft) → SameSource s s
SameSource-refl s = record { fails = refl; count = λ _. refl }

pub SameSource-trans : (s t u : MemoryLeft) → SameSource s t → SameSource t u → SameSource s u
SameSource-trans s t u p q = record { fails = q.fails ∙ p.fails; count = λ none. q.count (p.fails ∙ none) ∙ p.count none }

pub SameSink-refl : (s : MemoryTaken) → SameSink s s
SameSink-refl s = record { fails = refl; room = refl; goes_on = ([], sym (append-nil s.got)); count = λ _. inl refl }

-- what has reached the room still does when it goes on
still_full : (room : ℕ) (xs ys more : List ℕ) → ys ≡ xs ++ more → room ≤ length xs → room ≤ length ys
still_full room xs ys more is full = omega (arith, ap length is, length-append xs more)

-- the count rose in neither call, or the room is used up in the end
no_rise : (i j k room : ℕ) (xs ys more : List ℕ) → ys ≡ xs ++ more → (j ≡ i) ⊎ (room ≤ length xs) → (k ≡ j) ⊎ (room ≤ length ys)
    → (k ≡ i) ⊎ (room ≤ length ys)
no_rise i j k room xs ys more is (inl p) (inl q) = inl (q ∙ p)
no_rise i j k room xs ys more is (inl p) (inr q) = inr q
no_rise i j k room xs ys more is (inr p) q = inr (still_full room xs ys more is p)

pub SameSink-trans : (s t u : MemoryTaken) → SameSink s t → SameSink t u → SameSink s u
SameSink-trans s t u p q = record {
  fails = q.fails ∙ p.fails;
  room = q.room ∙ p.room;
  goes_on = (p.goes_on.0 ++ q.goes_on.0, q.goes_on.1 ∙ ap (λ xs. xs ++ q.goes_on.0) p.goes_on.1 ∙ append_assoc s.got p.goes_on.0 q.goes_on.0);
  count = λ none. no_rise s.faults t.faults u.faults s.room t.got u.got q.goes_on.0 q.goes_on.1 (p.count none)
      (elim (q.count (p.fails ∙ none)) [ inl same ↦ inl same | inr full ↦ inr (omega (arith, p.room)) ]);
}
