-- The arrays of a buffer: what is read for them is the arrays of what is read.
use Rattle.std.proofs.Common.{◌≡◌, ℕ, zero, suc, ◌-◌, ◌*◌, ◌/◌, List, [], take, drop, length, ap, sym, ◌∙◌, refl, arith, inl, inr, length-drop}
use Rattle.std.proofs.lemmas.List.{take_all}
use Rattle.std.proofs.lemmas.Bool.Decides.{eqb_tells}
use Rattle.std.proofs.Math.Nat.{zero-div}
use Rattle.std.specs.Simd.{first_chunks}
use Rattle.cipher.specs.Buffers.{pick, part_of}
use Rattle.cipher.proofs.Parts.{pick-same, pick-nil}

length-first_chunks : {X : Type 0} (n k : ℕ) (xs : List X) → length (first_chunks n k xs) ≡ k
length-first_chunks n zero xs = refl
length-first_chunks n (suc k) xs = ap suc (length-first_chunks n k (drop n xs))

whole_part : {X : Type 0} (i : List X) (n : ℕ) → n ≡ length i → take (n - 0) (drop 0 i) ≡ i
whole_part i n e = take_all (n - 0) (drop 0 i) (omega (arith, length-drop 0 i))

drop-none : {X : Type 0} (n : ℕ) → let none : List X = [] in drop n none ≡ none
drop-none zero = refl
drop-none (suc n) = refl

-- p is the whole of an input that is as long as the output, and else empty
pub chunks_read : {X : Type 0} (N : ℕ) (i o p : List X) → p ≡ part_of i (length o) 0 (length o)
    → pick (first_chunks N (length p / N) p) (first_chunks N (length o / N) o) ≡ first_chunks N (length o / N) (pick i o)
chunks_read {X} N i o p e =
    elim (eqb_tells (length i) (length o)) [
      | inl h ↦
          let q : p ≡ i = e ∙ (rw h.0 (whole_part i (length o) (sym h.1))) in
          let n : length p / N ≡ length o / N = ap (λ xs. length xs / N) q ∙ ap (λ m. m / N) h.1 in
          let same : length (first_chunks N (length p / N) p) ≡ length (first_chunks N (length o / N) o) =
          length-first_chunks N (length p / N) p ∙ (n ∙ sym (length-first_chunks N (length o / N) o)) in
          pick-same (first_chunks N (length p / N) p) (first_chunks N (length o / N) o) same ∙ (ap (λ m. first_chunks N m p) n ∙ ap (first_chunks N (length o / N)) (q ∙ sym (pick-same i o h.1)))
      | inr h ↦
          let q : p ≡ [] = e ∙ (rw h.0 refl) in
          let none : first_chunks N (length p / N) p ≡ [] = ap (λ xs. first_chunks N (length xs / N) xs) q ∙ ap (λ m. first_chunks N m []) (zero-div N) in
          ap (λ xs. pick xs (first_chunks N (length o / N) o)) none ∙ (pick-nil (first_chunks N (length o / N) o) ∙ rw h.0 refl)
    ]

-- and so for the places behind the arrays
pub rest_read : {X : Type 0} (N : ℕ) (i o p : List X) → p ≡ part_of i (length o) 0 (length o)
    → pick (drop (length p / N * N) p) (drop (length o / N * N) o) ≡ drop (length o / N * N) (pick i o)
rest_read {X} N i o p e =
    elim (eqb_tells (length i) (length o)) [
      | inl h ↦
          let q : p ≡ i = e ∙ (rw h.0 (whole_part i (length o) (sym h.1))) in
          let len : length p ≡ length o = ap length q ∙ h.1 in
          let n : length p / N * N ≡ length o / N * N = ap (λ m. m / N * N) len in
          let same : length (drop (length p / N * N) p) ≡ length (drop (length o / N * N) o) =
          length-drop (length p / N * N) p ∙ (ap (λ m. m - m / N * N) len ∙ sym (length-drop (length o / N * N) o)) in
          pick-same (drop (length p / N * N) p) (drop (length o / N * N) o) same ∙ (ap (λ m. drop m p) n ∙ ap (drop (length o / N * N)) (q ∙ sym (pick-same i o h.1)))
      | inr h ↦
          let q : p ≡ [] = e ∙ (rw h.0 refl) in
          let none : drop (length p / N * N) p ≡ [] = ap (λ xs. drop (length xs / N * N) xs) q ∙ drop-none (0 / N * N) in
          ap (λ xs. pick xs (drop (length o / N * N) o)) none ∙ (pick-nil (drop (length o / N * N) o) ∙ rw h.0 refl)
    ]
