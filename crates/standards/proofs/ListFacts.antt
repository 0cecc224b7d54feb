-- Lists known by their places.
use Rattle.std.proofs.Common.{◌≡◌, ◌≤◌, ◌<◌, ◌-◌, ℕ, zero, suc, List, [], ◌∷◌, ◌++◌, length, get_or, map, refl, ap, sym, ◌∙◌, arith, length-append, bit_xor, inl, inr, ◌⊎◌, eq-zero-or-pos}
use Rattle.std.proofs.lemmas.Grind.{same_number_lists}
use Rattle.std.proofs.lemmas.List.{get_or-map, length-map, get_or_append_left, get_or-append_right, get_or_past}
use Rattle.std.proofs.Math.Nat.{eq-or-lt_of_le}
use Rattle.std.specs.Int.Bits.{xor_assoc, xor_self, xor_zero_r}
use lib.Lanes.{zip2}
use Rattle.standards.specs.Lists.{tabulate, xor_bytes}

-- a list is the map of f over xs if it is as long and each place has f of that place
pub map_by_index : (f : ℕ → ℕ) (xs ys : List ℕ) → length ys ≡ length xs → ((k : ℕ) → k < length xs → get_or ys k 0 ≡ f (get_or xs k 0)) → ys ≡ map f xs
map_by_index f xs ys l each =
    same_number_lists ys (map f xs) (l ∙ sym (length-map xs f))
    (λ k h. let in_xs : k < length xs = omega arith in each k in_xs ∙ sym (get_or-map f xs k 0 0 in_xs))

-- a tabulated list has n elements
pub length-tabulate : (n : ℕ) (f : ℕ → ℕ) → length (tabulate n f) ≡ n
length-tabulate zero f = refl
length-tabulate (suc n) f = omega (arith, length-tabulate n f, length-append (tabulate n f) (f n ∷ []))

lt_or_eq : (k n : ℕ) → k < suc n → (k ≡ n) ⊎ (k < n)
lt_or_eq k n h = let le : k ≤ n = omega arith in eq-or-lt_of_le le

-- place k of it has f k
pub get_or-tabulate : (n : ℕ) (f : ℕ → ℕ) (k : ℕ) → k < n → get_or (tabulate n f) k 0 ≡ f k
get_or-tabulate zero f k h = absurd (omega arith)
get_or-tabulate (suc n) f k h = elim (lt_or_eq k n h) [
  | inr below ↦ get_or_append_left (tabulate n f) (f n ∷ []) 0 k (rw length-tabulate below) ∙ get_or-tabulate n f k below
  | inl e ↦ let at_end : k - n ≡ 0 = omega arith in get_or-append_right (tabulate n f) (f n ∷ []) n k 0 (length-tabulate n f) (omega arith) ∙ ap (λ i. get_or (f n ∷ []) i 0) at_end ∙ ap f (sym e)
]

-- a list of n elements with f k at each place k is tabulated
pub tabulate_by_index : (n : ℕ) (f : ℕ → ℕ) (ys : List ℕ) → length ys ≡ n → ((k : ℕ) → k < n → get_or ys k 0 ≡ f k) → ys ≡ tabulate n f
tabulate_by_index n f ys l each =
    same_number_lists ys (tabulate n f) (l ∙ sym (length-tabulate n f))
    (λ k h. let below : k < n = omega arith in each k below ∙ sym (get_or-tabulate n f k below))

-- xor keeps the length of its first list
pub length-xor_bytes : (xs ys : List ℕ) → length (xor_bytes xs ys) ≡ length xs
length-xor_bytes [] ys = refl
length-xor_bytes (x ∷ xs) [] = refl
length-xor_bytes (x ∷ xs) (y ∷ ys) = omega (arith, length-xor_bytes xs ys)

-- it is xor at each place; places past the second list count as 0
pub get_or-xor_bytes : (xs ys : List ℕ) (k : ℕ) → k < length xs → get_or (xor_bytes xs ys) k 0 ≡ bit_xor (get_or xs k 0) (get_or ys k 0)
get_or-xor_bytes [] ys k i = absurd (omega arith)
get_or-xor_bytes (x ∷ xs) [] k i = sym (xor_zero_r (get_or (x ∷ xs) k 0))
get_or-xor_bytes (x ∷ xs) (y ∷ ys) zero i = refl
get_or-xor_bytes (x ∷ xs) (y ∷ ys) (suc k) i = get_or-xor_bytes xs ys k (omega arith)

-- a list is xs xor ys if it is as long as xs and each place is that xor
pub xor_by_index : (xs ys zs : List ℕ) → length zs ≡ length xs → ((k : ℕ) → k < length xs → get_or zs k 0 ≡ bit_xor (get_or xs k 0) (get_or ys k 0)) → zs ≡ xor_bytes xs ys
xor_by_index xs ys zs l each =
    same_number_lists zs (xor_bytes xs ys) (l ∙ sym (length-xor_bytes xs ys))
    (λ k i. let in_xs : k < length xs = omega arith in each k in_xs ∙ sym (get_or-xor_bytes xs ys k in_xs))

-- .. where the second list is read as far as it goes, and the places past it are left
pub xor_prefix : (xs ys zs : List ℕ) → length zs ≡ length xs → ((k : ℕ) → k < length ys → get_or zs k 0 ≡ bit_xor (get_or xs k 0) (get_or ys k 0))
    → ((k : ℕ) → length ys ≤ k → get_or zs k 0 ≡ get_or xs k 0) → zs ≡ xor_bytes xs ys
xor_prefix xs ys zs l each rest =
    xor_by_index xs ys zs l
    (λ k i. elim (eq-zero-or-pos (length ys - k)) [
      | inr some ↦ each k (omega arith)
      | inl none ↦
          let past : length ys ≤ k = omega arith in
          rest k past ∙ sym (ap (bit_xor (get_or xs k 0)) (get_or_past ys k 0 past) ∙ xor_zero_r (get_or xs k 0))
    ])

twice : (x k : ℕ) → bit_xor (bit_xor x k) k ≡ x
twice x k = xor_assoc x k k ∙ ap (bit_xor x) (xor_self k) ∙ xor_zero_r x

-- xor with the same list twice gives the first list back
pub xor_bytes_twice : (xs ks : List ℕ) → xor_bytes (xor_bytes xs ks) ks ≡ xs
xor_bytes_twice [] ks = refl
xor_bytes_twice (x ∷ xs) [] = refl
xor_bytes_twice (x ∷ xs) (k ∷ ks) = ap (λ y. y ∷ xor_bytes (xor_bytes xs ks) ks) (twice x k) ∙ ap (λ ys. x ∷ ys) (xor_bytes_twice xs ks)

-- lists that are equal after xor with the same list are equal
pub xor_bytes_same : (xs ys ks : List ℕ) → xor_bytes xs ks ≡ xor_bytes ys ks → xs ≡ ys
xor_bytes_same xs ys ks e = sym (xor_bytes_twice xs ks) ∙ ap (λ zs. xor_bytes zs ks) e ∙ xor_bytes_twice ys ks

-- xor by pairs is the same where the second list is as long as the first, or longer
pub zip2-xor_bytes : (xs ys : List ℕ) → length xs ≤ length ys → zip2 bit_xor xs ys ≡ xor_bytes xs ys
zip2-xor_bytes [] ys h = refl
zip2-xor_bytes (x ∷ xs) [] h = absurd (omega arith)
zip2-xor_bytes (x ∷ xs) (y ∷ ys) h = ap (λ zs. bit_xor x y ∷ zs) (zip2-xor_bytes xs ys (omega arith))

-- xor of two parts, each with its own
pub xor_bytes-append : (xs ys ks ls : List ℕ) → length xs ≡ length ks → xor_bytes (xs ++ ys) (ks ++ ls) ≡ xor_bytes xs ks ++ xor_bytes ys ls
xor_bytes-append [] ys [] ls e = refl
xor_bytes-append [] ys (k ∷ ks) ls e = absurd (omega arith)
xor_bytes-append (x ∷ xs) ys [] ls e = absurd (omega arith)
xor_bytes-append (x ∷ xs) ys (k ∷ ks) ls e = ap (λ zs. bit_xor x k ∷ zs) (xor_bytes-append xs ys ks ls (omega arith))
