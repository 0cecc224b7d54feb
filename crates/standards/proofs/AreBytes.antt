-- Lists whose elements are all bytes.
use Rattle.std.proofs.Common.{ℕ, zero, suc, ◌<◌, List, [], ◌∷◌, ◌++◌, map, get_or, bit_xor, arith, w8, Fits, ◌-◌, ◌≤◌, length, eq-zero-or-pos, inl, inr}
use Rattle.std.specs.Prelude.{All}
use Rattle.std.proofs.lemmas.List.{get_or_past}
use Rattle.std.proofs.lemmas.Nat.{xor_of_8}
use lib.Lanes.{Each1, zip2}
use Rattle.standards.specs.Lists.{AreBytes, xor_bytes}

-- no bytes
pub AreBytes-nil : AreBytes []
AreBytes-nil i = omega arith

-- a byte before a list of bytes
pub AreBytes-cons : (x : ℕ) (xs : List ℕ) → x < 256 → AreBytes xs → AreBytes (x ∷ xs)
AreBytes-cons x xs p h zero = p
AreBytes-cons x xs p h (suc i) = h i

-- two lists of bytes joined
pub AreBytes-append : (xs ys : List ℕ) → AreBytes xs → AreBytes ys → AreBytes (xs ++ ys)
AreBytes-append [] ys p q = q
AreBytes-append (x ∷ xs) ys p q = AreBytes-cons x (xs ++ ys) (p 0) (AreBytes-append xs ys (λ i. p (suc i)) q)

-- a function that keeps bytes, of each
pub AreBytes-map : (f : ℕ → ℕ) (xs : List ℕ) → ((x : ℕ) → x < 256 → f x < 256) → AreBytes xs → AreBytes (map f xs)
AreBytes-map f [] k h = AreBytes-nil
AreBytes-map f (x ∷ xs) k h = AreBytes-cons (f x) (map f xs) (k x (h 0)) (AreBytes-map f xs k (λ i. h (suc i)))

-- places of a list of bytes
pub AreBytes-places : (s ks : List ℕ) → AreBytes s → AreBytes (map (λ k. get_or s k 0) ks)
AreBytes-places s [] h = AreBytes-nil
AreBytes-places s (k ∷ ks) h = AreBytes-cons (get_or s k 0) (map (λ k. get_or s k 0) ks) (h k) (AreBytes-places s ks h)

-- xor by pairs
pub AreBytes-zip2 : (xs ys : List ℕ) → AreBytes xs → AreBytes ys → AreBytes (zip2 bit_xor xs ys)
AreBytes-zip2 [] ys p q = AreBytes-nil
AreBytes-zip2 (x ∷ xs) [] p q = AreBytes-nil
AreBytes-zip2 (x ∷ xs) (y ∷ ys) p q = AreBytes-cons (bit_xor x y) (zip2 bit_xor xs ys) (xor_of_8 x y (p 0) (q 0)) (AreBytes-zip2 xs ys (λ i. p (suc i)) (λ i. q (suc i)))

-- xor as far as the second goes
pub AreBytes-xor_bytes : (xs ys : List ℕ) → AreBytes xs → AreBytes ys → AreBytes (xor_bytes xs ys)
AreBytes-xor_bytes [] ys p q = AreBytes-nil
AreBytes-xor_bytes (x ∷ xs) [] p q = p
AreBytes-xor_bytes (x ∷ xs) (y ∷ ys) p q = AreBytes-cons (bit_xor x y) (xor_bytes xs ys) (xor_of_8 x y (p 0) (q 0)) (AreBytes-xor_bytes xs ys (λ i. p (suc i)) (λ i. q (suc i)))

-- what the type `u8` says of a list's elements
pub AreBytes-from_fits : (xs : List ℕ) → Each1 (Fits w8) xs → AreBytes xs
AreBytes-from_fits [] h = AreBytes-nil
AreBytes-from_fits (x ∷ xs) h = AreBytes-cons x xs (h.0.fits) (AreBytes-from_fits xs h.1)

-- what a clause by `All` says of them
pub AreBytes-from_all : (xs : List ℕ) → All (λ x. x < 256) xs → AreBytes xs
AreBytes-from_all xs h i = elim (eq-zero-or-pos (length xs - i)) [
  | inr some ↦ h i 0 (omega arith)
  | inl none ↦ let past : length xs ≤ i = omega arith in rw (get_or_past xs i 0 past) (omega arith)
]
