-- How many chunks and places so many bytes have, and where the last chunk begins.
use Rattle.std.proofs.Common.{◌≡◌, ◌⊎◌, inl, inr, ◌<◌, ◌≤◌, ◌+◌, ◌-◌, ◌*◌, ◌^◌, ℕ, zero, suc, Fits, w64, List, [], ◌∷◌, length, take, drop, replicate, refl, sym, ap, subst, ◌∙◌, arith, length-drop}
use Rattle.std.proofs.Math.Nat.{mul-le-mul_left}
use Rattle.std.proofs.lemmas.List.{length-replicate, length-take-le, drop-drop}
use Rattle.stream_model.specs.Cut.{cut, last_chunk}
use Rattle.stream_model.proofs.CutFacts.{cut_fits, cut_more, cut_some}
use Rattle.tink_range.specs.Ranges.{all_places, places}
use Rattle.tink_range.specs.Shapes.{HasShape}
use Rattle.tink_range.specs.Slices.{IsShapeOfAny}

fits_or_not : (m n : ℕ) → (m ≤ n) ⊎ (n < m)
fits_or_not zero n = inl (omega arith)
fits_or_not (suc m) zero = inr (omega arith)
fits_or_not (suc m) (suc n) = elim (fits_or_not m n) [ inl h ↦ inl (omega arith) | inr h ↦ inr (omega arith) ]

last_chunk_more : (t : List ℕ) (ts : List (List ℕ)) (u : List ℕ) (us : List (List ℕ)) → ts ≡ u ∷ us → last_chunk (t ∷ ts) ≡ last_chunk ts
last_chunk_more t ts u us e = rw e

-- one chunk
pub shape_fits : (a b over : ℕ) (X : List ℕ) → 0 < length X → length X ≤ a → HasShape a b over X 1 (length X - over) 0
shape_fits a b over X some fits =
    let one = cut_fits a b X some fits in
    record { chunks = ap length one; places = ap (all_places over) one ∙ omega arith; last_is = ap last_chunk one }

-- a full chunk, and those of the rest
shape_more : (a b over count text last : ℕ) (X : List ℕ) → a < length X → 0 < a → 0 < b → HasShape b b over (drop a X) count text last
    → HasShape a b over X (suc count) ((a - over) + text) (a + last)
shape_more a b over count text last X more p q rest =
    let split = cut_more a b X more p q in
    let some = cut_some b b (drop a X) (omega (arith, length-drop a X)) in
    record {
      chunks = ap length split ∙ ap suc rest.chunks;
      places = ap (all_places over) split ∙ ap (λ n. (n - over) + all_places over (cut b b (drop a X))) (length-take-le a X (omega arith)) ∙ ap (λ n. (a - over) + n) rest.places;
      last_is = ap last_chunk split ∙ last_chunk_more (take a X) (cut b b (drop a X)) some.0 some.1 some.2 ∙ rest.last_is ∙ drop-drop last a X;
    }

-- q full chunks and r bytes more
shape_full : (b over q r : ℕ) (X : List ℕ) → length X ≡ q * b + r → 0 < r → r ≤ b → HasShape b b over X (suc q) (q * (b - over) + (r - over)) (q * b)
shape_full b over zero r X size some fits =
    let size_is : length X ≡ r = omega (arith, size) in
    let text : length X - over ≡ 0 * (b - over) + (r - over) = omega (arith, size_is) in
    let start : 0 ≡ 0 * b = omega arith in
    subst (λ (m : ℕ). HasShape b b over X 1 m (0 * b)) text (subst (λ (m : ℕ). HasShape b b over X 1 (length X - over) m) start (shape_fits b b over X (omega (arith, size_is)) (omega (arith, size_is))))
shape_full b over (suc q) r X size some fits =
    let size_is : length X ≡ b + (q * b + r) = omega (arith, size) in
    let rest = shape_full b over q r (drop b X) (omega (arith, length-drop b X, size_is)) some fits in
    let whole = shape_more b b over (suc q) (q * (b - over) + (r - over)) (q * b) X (omega (arith, size_is)) (omega arith) (omega arith) rest in
    let text : (b - over) + (q * (b - over) + (r - over)) ≡ suc q * (b - over) + (r - over) = omega arith in
    let start : b + q * b ≡ suc q * b = omega arith in
    subst (λ (m : ℕ). HasShape b b over X (suc (suc q)) m (suc q * b)) text (subst (λ (m : ℕ). HasShape b b over X (suc (suc q)) ((b - over) + (q * (b - over) + (r - over))) m) start whole)

-- a first chunk, q full ones and r bytes more
pub shape_of_parts : (a b over q r : ℕ) (X : List ℕ) → length X ≡ a + (q * b + r) → 0 < r → r ≤ b → 0 < a
    → HasShape a b over X (suc (suc q)) ((a - over) + (q * (b - over) + (r - over))) (a + q * b)
shape_of_parts a b over q r X size some fits p =
    shape_more a b over (suc q) (q * (b - over) + (r - over)) (q * b) X (omega (arith, size)) p (omega arith)
    (shape_full b over q r (drop a X) (omega (arith, length-drop a X, size)) some fits)

-- lists of one length are cut into chunks of the same lengths
same_shape : (n a b over : ℕ) (X Y : List ℕ) → length X ≤ n → length X ≡ length Y → 0 < a → 0 < b
    → (all_places over (cut a b X) ≡ all_places over (cut a b Y)) × (length (cut a b X) ≡ length (cut a b Y))
same_shape n a b over [] [] few same p q = (refl, refl)
same_shape n a b over [] (y ∷ Y) few same p q = absurd (omega arith)
same_shape n a b over (x ∷ X) [] few same p q = absurd (omega arith)
same_shape zero a b over (x ∷ X) (y ∷ Y) few same p q = absurd (omega arith)
same_shape (suc n) a b over (x ∷ X) (y ∷ Y) few same p q = elim (fits_or_not (length (x ∷ X)) a) [
  | inl fits ↦
      let one = shape_fits a b over (x ∷ X) (omega arith) fits in
      let other = shape_fits a b over (y ∷ Y) (omega arith) (omega arith) in
      (one.places ∙ ap (λ k. k - over) same ∙ sym other.places, one.chunks ∙ sym other.chunks)
  | inr more ↦
      let rest = same_shape n b b over (drop a (x ∷ X)) (drop a (y ∷ Y)) (omega (arith, length-drop a (x ∷ X))) (omega (arith, length-drop a (x ∷ X), length-drop a (y ∷ Y))) q q in
      let one = cut_more a b (x ∷ X) more p q in
      let other = cut_more a b (y ∷ Y) (omega arith) p q in
      let long : length (take a (x ∷ X)) ≡ length (take a (y ∷ Y)) = length-take-le a (x ∷ X) (omega arith) ∙ sym (length-take-le a (y ∷ Y) (omega arith)) in (
        ap (all_places over) one ∙ ap (λ k. (k - over) + all_places over (cut b b (drop a (x ∷ X)))) long ∙ ap (λ k. places over (take a (y ∷ Y)) + k) rest.0 ∙ sym (ap (all_places over) other),
        ap length one ∙ ap suc rest.1 ∙ sym (ap length other),
      )
]

pub shape_of_any : IsShapeOfAny
shape_of_any first size over X p q =
    let zeros : List ℕ = replicate (length X) 0 in
    same_shape (length X) first size over zeros X (omega (arith, length-replicate {A = ℕ} (length X) 0)) (length-replicate {A = ℕ} (length X) 0) (omega arith) (omega arith)

-- the places of the parts are no more than the bytes
module _ (first size over behind q : ℕ) (some : over < first) (fits : first ≤ size) (more : first < behind) (below : q * size ≤ behind - first - 1) where
  fewer : q * (size - over) ≤ q * size
  fewer = let less : size - over ≤ size = omega arith in mul-le-mul_left q less

  pub later_fit : behind < 2 ^ 64 → Fits w64 (q * (size - over))
  later_fit whole = omega (arith, fewer, whole)

  pub full_fit : behind < 2 ^ 64 → Fits w64 (first - over + q * (size - over))
  full_fit whole = omega (arith, fewer, whole)

  pub places_few : (last : ℕ) → last ≡ behind - (first + q * size) - over → first - over + q * (size - over) + last ≤ behind
  places_few last e = omega (arith, fewer)

  pub places_fit : (last : ℕ) → last ≡ behind - (first + q * size) - over → behind < 2 ^ 64 → Fits w64 (first - over + q * (size - over) + last)
  places_fit last e whole = omega (arith, places_few last e, whole)
