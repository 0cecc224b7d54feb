-- The two parts of a vector of 32 bytes.
use Rattle.std.proofs.Common.{◌≡◌, ℕ, Bool, true, false, zero, suc, ◌+◌, ◌<◌, ◌==◌, cond, Fits, w8, List, [], ◌∷◌, ◌++◌, length, map, take, drop, get_or, replicate, length-append, length-take, length-drop, refl, sym, ap, ap₂, inl, inr, min, ◌-◌, ◌≤◌, ◌∙◌, subst, arith}
use Rattle.std.specs.List.{range_with_len}
use Rattle.std.proofs.lemmas.List.{get_or-take, get_or-drop, map-append, take-append-drop, take_all}
use Rattle.std.proofs.lemmas.Bool.Decides.{eqb_tells}
use Rattle.std.proofs.lemmas.Simd.{pick_l_whole}
use lib.Lanes.{Each1, pick_l, zip2}
use Rattle.cipher.specs.Buffers.{part_of, pick}
use Rattle.cipher.proofs.Parts.{pick-nil, pick-same}
use Rattle.aes_block.specs.BitPlanes.{AT_FIRST, AT_INV_SHIFT, AT_SECOND, AT_SHIFT, picked_at}
use Rattle.aes_block.specs.Parts.{half}
use Rattle.aes_block.specs.Transposition.{IsVector}
use Rattle.aes_block.proofs.Exchanges.{byte_below}
use Rattle.aes_block.proofs.LinearSteps.{same_eight}
use Rattle.aes_block.proofs.PlaneParts.{eight_parts}

pub of_halves : (P : Bool → Type 0) → P true → P false → (b : Bool) → P b
of_halves P p q true = p
of_halves P p q false = q

zip2-nil : {X Y Z : Type 0} (f : X → Y → Z) (xs : List X) → zip2 f xs [] ≡ []
zip2-nil f [] = refl
zip2-nil f (x ∷ xs) = refl

take-zip2 : {X Y Z : Type 0} (f : X → Y → Z) (n : ℕ) (xs : List X) (ys : List Y) → take n (zip2 f xs ys) ≡ zip2 f (take n xs) (take n ys)
take-zip2 f zero xs ys = refl
take-zip2 f (suc n) [] ys = refl
take-zip2 f (suc n) (x ∷ xs) [] = refl
take-zip2 f (suc n) (x ∷ xs) (y ∷ ys) = ap (λ l. f x y ∷ l) (take-zip2 f n xs ys)

drop-zip2 : {X Y Z : Type 0} (f : X → Y → Z) (n : ℕ) (xs : List X) (ys : List Y) → drop n (zip2 f xs ys) ≡ zip2 f (drop n xs) (drop n ys)
drop-zip2 f zero xs ys = refl
drop-zip2 f (suc n) [] ys = refl
drop-zip2 f (suc n) (x ∷ xs) [] = sym (zip2-nil f (drop n xs))
drop-zip2 f (suc n) (x ∷ xs) (y ∷ ys) = drop-zip2 f n xs ys

-- what holds of the first part and of the second
of_half : (P : (List ℕ → List ℕ) → Type 0) → P (take 16) → P (drop 16) → (h : ℕ) → P (half h)
of_half P p q h = of_halves (λ b. P (λ v. cond b (take 16 v) (drop 16 v))) p q (h == 0)

-- an operation on both
pub half-zip2 : (f : ℕ → ℕ → ℕ) (h : ℕ) (xs ys : List ℕ) → half h (zip2 f xs ys) ≡ zip2 f (half h xs) (half h ys)
half-zip2 f h xs ys = of_half (λ part. part (zip2 f xs ys) ≡ zip2 f (part xs) (part ys)) (take-zip2 f 16 xs ys) (drop-zip2 f 16 xs ys) h

-- an operation with the same byte in each place
pub half-with : (f : ℕ → ℕ → ℕ) (h n : ℕ) (xs : List ℕ) → half h (zip2 f xs (replicate 32 n)) ≡ zip2 f (half h xs) (replicate 16 n)
half-with f h n xs = half-zip2 f h xs (replicate 32 n) ∙ ap (zip2 f (half h xs)) (of_half (λ part. part (replicate 32 n) ≡ replicate 16 n) refl refl h)

-- a vector, byte by byte
abbrev bytes : List ℕ → List ℕ
bytes v = pick_l 0 v (range_with_len 0 32)

-- places in the first part, and the same in the second
abbrev twice : List ℕ → List ℕ
twice at = at ++ map (λ k. 16 + k) at

pub half-shift : (h : ℕ) (v : List ℕ) → length v ≡ 32 → half h (pick_l 0 (v ++ v) (twice AT_SHIFT)) ≡ picked_at (half h v) AT_SHIFT
half-shift h v e =
    subst (λ w. half h (pick_l 0 (w ++ w) (twice AT_SHIFT)) ≡ picked_at (half h w) AT_SHIFT) (pick_l_whole 0 v 32 e)
    (of_half (λ part. part (pick_l 0 (bytes v ++ bytes v) (twice AT_SHIFT)) ≡ picked_at (part (bytes v)) AT_SHIFT) refl refl h)

pub half-inv_shift : (h : ℕ) (v : List ℕ) → length v ≡ 32 → half h (pick_l 0 (v ++ v) (twice AT_INV_SHIFT)) ≡ picked_at (half h v) AT_INV_SHIFT
half-inv_shift h v e =
    subst (λ w. half h (pick_l 0 (w ++ w) (twice AT_INV_SHIFT)) ≡ picked_at (half h w) AT_INV_SHIFT) (pick_l_whole 0 v 32 e)
    (of_half (λ part. part (pick_l 0 (bytes v ++ bytes v) (twice AT_INV_SHIFT)) ≡ picked_at (part (bytes v)) AT_INV_SHIFT) refl refl h)

pub half-first : (h : ℕ) (v : List ℕ) → length v ≡ 32 → half h (pick_l 0 (v ++ v) (twice AT_FIRST)) ≡ picked_at (half h v) AT_FIRST
half-first h v e =
    subst (λ w. half h (pick_l 0 (w ++ w) (twice AT_FIRST)) ≡ picked_at (half h w) AT_FIRST) (pick_l_whole 0 v 32 e)
    (of_half (λ part. part (pick_l 0 (bytes v ++ bytes v) (twice AT_FIRST)) ≡ picked_at (part (bytes v)) AT_FIRST) refl refl h)

pub half-second : (h : ℕ) (v : List ℕ) → length v ≡ 32 → half h (pick_l 0 (v ++ v) (twice AT_SECOND)) ≡ picked_at (half h v) AT_SECOND
half-second h v e =
    subst (λ w. half h (pick_l 0 (w ++ w) (twice AT_SECOND)) ≡ picked_at (half h w) AT_SECOND) (pick_l_whole 0 v 32 e)
    (of_half (λ part. part (pick_l 0 (bytes v ++ bytes v) (twice AT_SECOND)) ≡ picked_at (part (bytes v)) AT_SECOND) refl refl h)

-- the second part by its places
pub second-picked : (v : List ℕ) → length v ≡ 32 → pick_l 0 (v ++ v) (range_with_len 16 16) ≡ drop 16 v
second-picked v e = subst (λ w. pick_l 0 (w ++ w) (range_with_len 16 16) ≡ drop 16 w) (pick_l_whole 0 v 32 e) refl

-- both parts are vectors of 16 bytes
pub half-vector : (h : ℕ) (v : List ℕ) → length v ≡ 32 → Each1 (Fits w8) v → IsVector (half h v)
half-vector h v e fits =
    of_half (λ part. IsVector (part v))
    (record { size = length-take 16 v ∙ omega (arith, e); below = λ k l. subst (λ n. n < 256) (sym (get_or-take 16 v k 0 l)) (byte_below v fits k) })
    (record { size = length-drop 16 v ∙ omega (arith, e); below = λ k l. subst (λ n. n < 256) (sym (get_or-drop 16 v k 0)) (byte_below v fits (16 + k)) }) h

-- two vectors of 16 bytes as one
pub joined-whole : (x y : List ℕ) → length x ≡ 16 → length y ≡ 16 → pick_l 0 (x ++ y) (range_with_len 0 32) ≡ x ++ y
joined-whole x y e f = pick_l_whole 0 (x ++ y) 32 (length-append x y ∙ omega (arith, e, f))

pub first-joined : (x y : List ℕ) → length x ≡ 16 → half 0 (x ++ y) ≡ x
first-joined x y e = subst (λ w. take 16 (w ++ y) ≡ w) (pick_l_whole 0 x 16 e) refl

pub second-joined : (x y : List ℕ) → length x ≡ 16 → half 1 (x ++ y) ≡ y
second-joined x y e = subst (λ w. drop 16 (w ++ y) ≡ y) (pick_l_whole 0 x 16 e) refl

pub half-twice : (h : ℕ) (x : List ℕ) → length x ≡ 16 → half h (x ++ x) ≡ x
half-twice h x e = of_half (λ part. part (x ++ x) ≡ x) (first-joined x x e) (second-joined x x e) h

-- the first eight of sixteen, and the others
pub first_eight : (xs : List (List ℕ)) → length xs ≡ 16 → get_or xs 0 [] ∷ get_or xs 1 [] ∷ get_or xs 2 [] ∷ get_or xs 3 [] ∷ get_or xs 4 [] ∷ get_or xs 5 [] ∷ get_or xs 6 [] ∷ get_or xs 7 [] ∷ [] ≡ take 8 xs
first_eight xs e = subst (λ l. get_or l 0 [] ∷ get_or l 1 [] ∷ get_or l 2 [] ∷ get_or l 3 [] ∷ get_or l 4 [] ∷ get_or l 5 [] ∷ get_or l 6 [] ∷ get_or l 7 [] ∷ [] ≡ take 8 l) (pick_l_whole [] xs 16 e) refl

pub last_eight : (xs : List (List ℕ)) → length xs ≡ 16 → get_or xs 8 [] ∷ get_or xs 9 [] ∷ get_or xs 10 [] ∷ get_or xs 11 [] ∷ get_or xs 12 [] ∷ get_or xs 13 [] ∷ get_or xs 14 [] ∷ get_or xs 15 [] ∷ [] ≡ drop 8 xs
last_eight xs e = subst (λ l. get_or l 8 [] ∷ get_or l 9 [] ∷ get_or l 10 [] ∷ get_or l 11 [] ∷ get_or l 12 [] ∷ get_or l 13 [] ∷ get_or l 14 [] ∷ get_or l 15 [] ∷ [] ≡ drop 8 l) (pick_l_whole [] xs 16 e) refl

-- a map on both
pub mapped_eights : (f : List ℕ → List ℕ) (xs : List (List ℕ)) → map f (take 8 xs) ++ map f (drop 8 xs) ≡ map f xs
mapped_eights f xs = sym (map-append f (take 8 xs) (drop 8 xs)) ∙ ap (map f) (take-append-drop 8 xs)

-- what is read in two parts
pub picked_eights : (i o : List (List ℕ)) → 8 ≤ length o → pick (part_of i (length o) 0 8) (take 8 o) ++ pick (part_of i (length o) 8 (length o)) (drop 8 o) ≡ pick i o
picked_eights i o many =
    elim (eqb_tells (length i) (length o)) [
      | inl e ↦
          let same : length i ≡ length o = e.1 in
          let front : length (take 8 i) ≡ length (take 8 o) = length-take 8 i ∙ ap (λ n. min 8 n) same ∙ sym (length-take 8 o) in
          let back : length (take (length o - 8) (drop 8 i)) ≡ length (drop 8 o) = ap length (take_all (length o - 8) (drop 8 i) (omega (arith, same, length-drop 8 i))) ∙ length-drop 8 i ∙ ap (λ n. n - 8) same ∙ sym (length-drop 8 o) in
          rw e.0 (ap₂ (λ x y. x ++ y) (pick-same (take 8 i) (take 8 o) front) (pick-same (take (length o - 8) (drop 8 i)) (drop 8 o) back ∙ take_all (length o - 8) (drop 8 i) (omega (arith, same, length-drop 8 i))) ∙ take-append-drop 8 i)
      | inr e ↦ rw e.0 (ap₂ (λ x y. x ++ y) (pick-nil (take 8 o)) (pick-nil (drop 8 o)) ∙ take-append-drop 8 o)
    ]

-- a map of it, part by part
pub mapped_parts : (f : List ℕ → List ℕ) (i o : List (List ℕ)) → 8 ≤ length o → map f (pick (part_of i (length o) 0 8) (take 8 o)) ++ map f (pick (part_of i (length o) 8 (length o)) (drop 8 o)) ≡ map f (pick i o)
mapped_parts f i o many = sym (map-append f _ _) ∙ ap (map f) (picked_eights i o many)

-- the parts of eight vectors, one by one
pub eight_halves : (h : ℕ) (v : List (List ℕ)) → length v ≡ 8 → (a b c d e f g k : List ℕ) (d0 d1 d2 d3 d4 d5 d6 d7 : List ℕ)
    → a ≡ half h (get_or v 0 d0) → b ≡ half h (get_or v 1 d1) → c ≡ half h (get_or v 2 d2) → d ≡ half h (get_or v 3 d3) → e ≡ half h (get_or v 4 d4) → f ≡ half h (get_or v 5 d5) → g ≡ half h (get_or v 6 d6) → k ≡ half h (get_or v 7 d7)
    → a ∷ b ∷ c ∷ d ∷ e ∷ f ∷ g ∷ k ∷ [] ≡ map (half h) v
eight_halves h v n a b c d e f g k d0 d1 d2 d3 d4 d5 d6 d7 z0 z1 z2 z3 z4 z5 z6 z7 =
    same_eight a b c d e f g k _ _ _ _ _ _ _ _ z0 z1 z2 z3 z4 z5 z6 z7 ∙ sym (eight_parts (half h) v n d0 d1 d2 d3 d4 d5 d6 d7)
