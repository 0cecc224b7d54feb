-- Lists combined with a stream, part by part.
use Rattle.std.proofs.Common.{◌≡◌, ℕ, suc, ◌+◌, ◌≤◌, ◌<◌, List, [], ◌∷◌, ◌++◌, map, get_or, set, take, drop, length, ap, sym, ◌∙◌, refl, arith, append_assoc, length-append, length-take, length-drop, bit_xor, add-zero, add-one, drop-cons}
use Rattle.std.proofs.lemmas.List.{take_at, drop_at, drop-drop, take_all, drop_all, append-nil, take_more, set_at, get_or-drop}
use Rattle.std.proofs.Math.Seq.{take-add}
use Rattle.std.specs.List.{range_with_len}
use Rattle.standards.specs.Lists.{xor_bytes}
use Rattle.cipher_stream.specs.Keystream.{combined, applied}
use borrow.Rule.Slice.PartMut.{put_mid}

pub length-applied : {X Y : Type 0} (op : X → Y → X) (s : ℕ → Y) (xs : List X) → length (applied op s xs) ≡ length xs
length-applied op s [] = refl
length-applied op s (x ∷ xs) = ap suc (length-applied op (λ j. s (1 + j)) xs)

pub applied-same : {X Y : Type 0} (op : X → Y → X) (s t : ℕ → Y) (xs : List X) → ((j : ℕ) → j < length xs → s j ≡ t j) → applied op s xs ≡ applied op t xs
applied-same op s t [] h = refl
applied-same op s t (x ∷ xs) h =
    ap (λ y. op x y ∷ applied op (λ j. s (1 + j)) xs) (h 0 (omega arith)) ∙ ap (λ l. op x (t 0) ∷ l) (applied-same op (λ j. s (1 + j)) (λ j. t (1 + j)) xs (λ j i. h (1 + j) (omega arith)))

pub applied-append : {X Y : Type 0} (op : X → Y → X) (s : ℕ → Y) (xs ys : List X) → applied op s (xs ++ ys) ≡ applied op s xs ++ applied op (λ j. s (length xs + j)) ys
applied-append op s [] ys = applied-same op s (λ j. s (0 + j)) ys (λ j _. let e : j ≡ 0 + j = omega arith in ap s e)
applied-append op s (x ∷ xs) ys =
    ap (λ l. op x (s 0) ∷ l) (applied-append op (λ j. s (1 + j)) xs ys
    ∙ ap (λ l. applied op (λ j. s (1 + j)) xs ++ l) (applied-same op (λ j. s (1 + (length xs + j))) (λ j. s (length (x ∷ xs) + j)) ys (λ j _. let e : 1 + (length xs + j) ≡ suc (length xs) + j = omega arith in ap s e)))

-- a stream's first values, from the place a on
pub combined-range : {X Y : Type 0} (op : X → Y → X) (s : ℕ → Y) (a : ℕ) (xs : List X) → combined op xs (map s (range_with_len a (length xs))) ≡ applied op (λ j. s (a + j)) xs
combined-range op s a [] = refl
combined-range op s a (x ∷ xs) =
    ap (λ l. op x (s a) ∷ l) (combined-range op s (a + 1) xs ∙ applied-same op (λ j. s (a + 1 + j)) (λ j. s (a + (1 + j))) xs (λ j _. let e : a + 1 + j ≡ a + (1 + j) = omega arith in ap s e))
    ∙ ap (λ n. op x (s n) ∷ applied op (λ j. s (a + (1 + j))) xs) (sym (add-zero a))

pub combined-applied : {X Y : Type 0} (op : X → Y → X) (s : ℕ → Y) (xs : List X) (n : ℕ) → n ≡ length xs → combined op xs (map s (range_with_len 0 n)) ≡ applied op s xs
combined-applied op s xs n e =
    ap (λ m. combined op xs (map s (range_with_len 0 m))) e ∙ (combined-range op s 0 xs ∙ applied-same op (λ j. s (0 + j)) s xs (λ j _. let z : 0 + j ≡ j = omega arith in ap s z))

-- bytes xor bytes that are no fewer
pub xor_bytes-applied : (xs ys : List ℕ) → length xs ≤ length ys → xor_bytes xs ys ≡ applied bit_xor (λ j. get_or ys j 0) xs
xor_bytes-applied [] ys h = refl
xor_bytes-applied (x ∷ xs) [] h = absurd (omega arith)
xor_bytes-applied (x ∷ xs) (y ∷ ys) h =
    ap (λ l. bit_xor x y ∷ l) (xor_bytes-applied xs ys (omega arith)
    ∙ applied-same bit_xor (λ j. get_or ys j 0) (λ j. get_or (y ∷ ys) (1 + j) 0) xs (λ j _. let e : 1 + j ≡ suc j = omega arith in ap (λ n. get_or (y ∷ ys) n 0) (sym e)))

-- k places more, from the place a on
pub applied_next : {X Y : Type 0} (op : X → Y → X) (s t : ℕ → Y) (old cur ys : List X) (a k j : ℕ) → j ≡ k → a + k ≤ length old → cur ≡ applied op s (take a old) ++ drop a old
    → ((i : ℕ) → i < k → t i ≡ s (a + i)) → ys ≡ applied op t (take j (drop a cur)) → put_mid a j cur ys ≡ applied op s (take (a + k) old) ++ drop (a + k) old
applied_next {X} {Y} op s t old cur ys a k j q h e same w =
    let front : List X = applied op s (take a old) in
    let la : length (take a old) ≡ a = simp length-take (omega arith) in
    let ln : length front ≡ a = length-applied op s (take a old) ∙ la in
    let tk : take a cur ≡ front = ap (take a) e ∙ take_at front (drop a old) a ln in
    let d : drop a cur ≡ drop a old = ap (drop a) e ∙ drop_at front (drop a old) a ln in
    let part : List X = take k (drop a old) in
    let lp : length part ≡ k = simp (length-take, length-drop) (omega arith) in
    let y : ys ≡ applied op (λ i. s (length (take a old) + i)) part =
    w ∙ (ap (λ n. applied op t (take n (drop a cur))) q ∙ (ap (λ zs. applied op t (take k zs)) d
    ∙ applied-same op t (λ i. s (length (take a old) + i)) part (λ i l. same i (omega arith) ∙ ap (λ n. s (n + i)) (sym la)))) in
    let u : applied op s (take (a + k) old) ≡ front ++ applied op (λ i. s (length (take a old) + i)) part = ap (applied op s) (take-add a k old) ∙ applied-append op s (take a old) part in
    ap (λ n. put_mid a n cur ys) q ∙ rw (tk, d, y, drop-drop, u, append_assoc) refl

pub applied_all : {X Y : Type 0} (op : X → Y → X) (s : ℕ → Y) (old cur : List X) (a : ℕ) → length old ≤ a → cur ≡ applied op s (take a old) ++ drop a old → cur ≡ applied op s old
applied_all {X} op s old cur a h e =
    let none : drop a old ≡ [] = drop_all a old h in
    e ∙ (ap (λ l. applied op s l ++ drop a old) (take_all a old h) ∙ (ap (λ l. applied op s old ++ l) none ∙ append-nil (applied op s old)))

pub length_so_far : {X Y : Type 0} (op : X → Y → X) (s : ℕ → Y) (old cur : List X) (a : ℕ) → cur ≡ applied op s (take a old) ++ drop a old → length cur ≡ length old
length_so_far op s old cur a e = ap length e ∙ simp (length-append, length-applied, length-take, length-drop) (omega arith)

first_of_drop : {X : Type 0} (xs : List X) (a : ℕ) (d : X) → get_or (drop a xs) 0 d ≡ get_or xs a d
first_of_drop xs a d = simp (get_or-drop, add-zero) refl

-- one place more
pub applied_place : {X Y : Type 0} (op : X → Y → X) (s : ℕ → Y) (old cur : List X) (y d : X) (a : ℕ) → a < length old → cur ≡ applied op s (take a old) ++ drop a old → y ≡ op (get_or cur a d) (s a)
    → set cur a y ≡ applied op s (take (a + 1) old) ++ drop (a + 1) old
applied_place {X} {Y} op s old cur y d a h e w =
    let front : List X = applied op s (take a old) in
    let la : length (take a old) ≡ a = simp length-take (omega arith) in
    let ln : length front ≡ a = length-applied op s (take a old) ∙ la in
    let dr : drop a cur ≡ drop a old = ap (drop a) e ∙ drop_at front (drop a old) a ln in
    let od : get_or cur a d ≡ get_or old a d = sym (first_of_drop cur a d) ∙ (ap (λ l. get_or l 0 d) dr ∙ first_of_drop old a d) in
    let v : y ≡ op (get_or old a d) (s a) = w ∙ ap (λ x. op x (s a)) od in
    let st : set cur a y ≡ front ++ y ∷ drop (suc a) old =
    ap (λ l. set l a y) (e ∙ ap (λ l. front ++ l) (drop-cons old a d h)) ∙ set_at front (get_or old a d) (drop (suc a) old) y a ln in
    let at : length (take a old) + 0 ≡ a = add-zero (length (take a old)) ∙ la in
    let more : applied op s (take (a + 1) old) ≡ front ++ y ∷ [] =
    ap (applied op s) (take_more old a d h) ∙ (applied-append op s (take a old) (get_or old a d ∷ []) ∙ ap (λ l. front ++ l) (ap (λ n. op (get_or old a d) (s n) ∷ []) at ∙ ap (λ z. z ∷ []) (sym v))) in
    st ∙ rw (more, append_assoc, add-one) refl

-- the values of a list, no fewer
pub combined-values : {X Y : Type 0} (op : X → Y → X) (xs : List X) (ys : List Y) (d : Y) → length xs ≤ length ys → combined op xs ys ≡ applied op (λ j. get_or ys j d) xs
combined-values op [] ys d h = refl
combined-values op (x ∷ xs) [] d h = absurd (omega arith)
combined-values op (x ∷ xs) (y ∷ ys) d h =
    ap (λ l. op x y ∷ l) (combined-values op xs ys d (omega arith)
    ∙ applied-same op (λ j. get_or ys j d) (λ j. get_or (y ∷ ys) (1 + j) d) xs (λ j _. let e : 1 + j ≡ suc j = omega arith in ap (λ n. get_or (y ∷ ys) n d) (sym e)))
