-- What a buffer reads, part by part.
use Rattle.std.proofs.Common.{◌≡◌, ℕ, suc, ◌+◌, ◌-◌, ◌≤◌, ◌<◌, List, [], ◌∷◌, ◌++◌, map, get_or, set, take, drop, length, ap, sym, ◌∙◌, refl, arith, append_assoc, length-append, length-take, length-drop, inl, inr, add-zero, add-one, drop-cons}
use Rattle.std.proofs.lemmas.List.{length-map, map-append, take_more, take_at, drop_at, drop-drop, take_rest, take_all, drop_all, append-nil, set_at, get_or_default, get_or-take, get_or-drop}
use Rattle.std.proofs.lemmas.List.Edits.{map_over_more}
use Rattle.std.proofs.lemmas.Bool.{eq-eqb}
use Rattle.std.proofs.lemmas.Bool.Decides.{eqb_tells}
use Rattle.std.proofs.Math.Seq.{take-add}
use Rattle.std.proofs.Math.Dec.{eqb-zero-suc}
use Rattle.std.specs.Borrow.{Bor}
use Rattle.cipher.specs.Buffers.{pick, part_of}
use borrow.Rule.Slice.PartMut.{put_mid}

pub length-pick : {X : Type 0} (i o : List X) → length (pick i o) ≡ length o
length-pick i o = elim (eqb_tells (length i) (length o)) [ inl h ↦ rw h.0 h.1 | inr h ↦ rw h.0 refl ]

pub pick-same : {X : Type 0} (i o : List X) → length i ≡ length o → pick i o ≡ i
pick-same i o h = rw (eq-eqb (length i) (length o) h) refl

pub pick-nil : {X : Type 0} (o : List X) → pick [] o ≡ o
pick-nil [] = refl
pick-nil (x ∷ o) = rw eqb-zero-suc refl

part_length : {X : Type 0} (xs : List X) (a k n : ℕ) → n ≡ length xs → a + k ≤ n → length (take k (drop a xs)) ≡ k
part_length xs a k n e h = simp (length-take, length-drop) (omega arith)

-- what a part of the buffer reads is that part of what the buffer reads
pick_part : {X : Type 0} (i o : List X) (a k : ℕ) → a + k ≤ length o → pick (part_of i (length o) a (a + k)) (take k (drop a o)) ≡ take k (drop a (pick i o))
pick_part i o a k h =
    elim (eqb_tells (length i) (length o)) [
      | inl e ↦
          let m : a + k - a ≡ k = omega arith in
          let f : length i ≡ length o = e.1 in
          let l : length (take k (drop a i)) ≡ length (take k (drop a o)) = part_length i a k (length o) (sym f) h ∙ sym (part_length o a k (length o) refl h) in
          rw (e.0, m) (pick-same (take k (drop a i)) (take k (drop a o)) l)
      | inr e ↦ rw e.0 (pick-nil (take k (drop a o)))
    ]

first_of_drop : {X : Type 0} (xs : List X) (a : ℕ) (d : X) → get_or (drop a xs) 0 d ≡ get_or xs a d
first_of_drop xs a d = simp (get_or-drop, add-zero) refl

part_at : {X : Type 0} (i o : List X) (a : ℕ) (d : X) → a < length o → d ≡ get_or o a d → get_or (part_of i (length o) a (a + 1)) 0 d ≡ get_or (pick i o) a d
part_at i o a d h dd =
    elim (eqb_tells (length i) (length o)) [
      | inl e ↦
          let m : a + 1 - a ≡ 1 = omega arith in
          let lt : 0 < 1 = omega arith in rw (e.0, m, get_or-take) (first_of_drop i a d)
      | inr e ↦ rw e.0 dd
    ]

pub read_again : {X : Type 0} (xs : List X) (i : ℕ) (e : X) → i < length xs → get_or xs i e ≡ get_or xs i (get_or xs i e)
read_again xs i e h = get_or_default xs i e (get_or xs i e) h

-- Work over a list in order: `all` of a list is made part by part, `after xs ys` being what ys gives after xs.
pub record InOrder {X : Type 0} (all : List X → List X) (after : List X → List X → List X) : Type 0 where
  pub size : (xs : List X) → length (all xs) ≡ length xs
  pub joins : (xs ys : List X) → all (xs ++ ys) ≡ all xs ++ after xs ys

-- a list up to its place a, worked on, and the rest of it as it was
so_far_size : {X : Type 0} {all : List X → List X} {after : List X → List X → List X} → InOrder all after → (i old : List X) (a : ℕ) → a ≤ length old → length (all (take a (pick i old))) ≡ a
so_far_size o i old a h = o.size (take a (pick i old)) ∙ simp (length-take, length-pick) (omega arith)

pub length_so_far : {X : Type 0} {all : List X → List X} {after : List X → List X → List X} → InOrder all after → (i old cur : List X) (a : ℕ) → a ≤ length old
    → cur ≡ all (take a (pick i old)) ++ drop a old → length cur ≡ length old
length_so_far {X} {all} o i old cur a h e =
    let front : length (all (take a (pick i old))) ≡ a = so_far_size o i old a h in
    ap length e ∙ simp (length-append, length-drop) (omega arith)

parts_more : {X : Type 0} {all : List X → List X} {after : List X → List X → List X} → InOrder all after → (i old cur ys : List X) (a k : ℕ) → a + k ≤ length old
    → cur ≡ all (take a (pick i old)) ++ drop a old → ys ≡ after (take a (pick i old)) (pick (part_of i (length old) a (a + k)) (take k (drop a cur)))
    → put_mid a k cur ys ≡ all (take (a + k) (pick i old)) ++ drop (a + k) old
parts_more {X} {all} {after} o i old cur ys a k h e w =
    let xs : List X = pick i old in
    let ln : length (all (take a xs)) ≡ a = so_far_size o i old a (omega arith) in
    let t : take a cur ≡ all (take a xs) = ap (take a) e ∙ take_at (all (take a xs)) (drop a old) a ln in
    let d : drop a cur ≡ drop a old = ap (drop a) e ∙ drop_at (all (take a xs)) (drop a old) a ln in
    let y : ys ≡ after (take a xs) (take k (drop a xs)) = w ∙ (ap (λ zs. after (take a xs) (pick (part_of i (length old) a (a + k)) (take k zs))) d ∙ ap (after (take a xs)) (pick_part i old a k h)) in
    let u : all (take (a + k) xs) ≡ all (take a xs) ++ after (take a xs) (take k (drop a xs)) = ap all (take-add a k xs) ∙ o.joins (take a xs) (take k (drop a xs)) in
    rw (t, d, y, drop-drop, u, append_assoc) refl

-- the last part
parts_all : {X : Type 0} {all : List X → List X} {after : List X → List X → List X} → InOrder all after → (i old cur ys : List X) (a : ℕ) → a ≤ length old → length cur ≡ length old
    → cur ≡ all (take a (pick i old)) ++ drop a old → ys ≡ after (take a (pick i old)) (pick (part_of i (length old) a (length old)) (drop a cur)) → put_mid a (length cur - a) cur ys ≡ all (pick i old)
parts_all {X} {all} {after} o i old cur ys a h lc e w =
    let xs : List X = pick i old in
    let k : ℕ = length old - a in
    let whole : a + k ≡ length old = omega arith in
    let le : a + k ≤ length old = omega arith in
    let kc : length cur - a ≡ k = ap (λ n. n - a) lc in
    let tk : drop a cur ≡ take k (drop a cur) = sym (ap (λ n. take n (drop a cur)) (sym kc) ∙ take_rest cur a) in
    let w2 : ys ≡ after (take a xs) (pick (part_of i (length old) a (a + k)) (take k (drop a cur))) =
    w ∙ (ap (λ n. after (take a xs) (pick (part_of i (length old) a n) (drop a cur))) (sym whole) ∙ ap (λ zs. after (take a xs) (pick (part_of i (length old) a (a + k)) zs)) tk) in
    let m : put_mid a k cur ys ≡ all (take (a + k) xs) ++ drop (a + k) old = parts_more o i old cur ys a k le e w2 in
    let lx : length xs ≡ length old = length-pick i old in
    let ta : take (a + k) xs ≡ xs = take_all (a + k) xs (omega arith) in
    let da : drop (a + k) old ≡ [] = drop_all (a + k) old (omega arith) in
    ap (λ n. put_mid a n cur ys) kc ∙ (m ∙ (ap (λ zs. all zs ++ drop (a + k) old) ta ∙ (ap (λ zs. all xs ++ zs) da ∙ append-nil (all xs))))

-- these two at the terms of a loop: p is what the part reads from, and j and zs are what the code calls k and the rest
pub parts_next : {X : Type 0} {all : List X → List X} {after : List X → List X → List X} → InOrder all after → (i old cur ys p : List X) (a k j : ℕ) → j ≡ k → a + k ≤ length old
    → cur ≡ all (take a (pick i old)) ++ drop a old → p ≡ part_of i (length old) a (a + k) → ys ≡ after (take a (pick i old)) (pick p (take j (drop a cur)))
    → put_mid a j cur ys ≡ all (take (a + k) (pick i old)) ++ drop (a + k) old
parts_next {X} {all} {after} o i old cur ys p a k j q h e pe w =
    let front : List X = take a (pick i old) in
    ap (λ n. put_mid a n cur ys) q
    ∙ parts_more o i old cur ys a k h e (w ∙ (ap (λ n. after front (pick p (take n (drop a cur)))) q ∙ ap (λ zs. after front (pick zs (take k (drop a cur)))) pe))

pub parts_last : {X : Type 0} {all : List X → List X} {after : List X → List X → List X} → InOrder all after → (i old cur ys p zs : List X) (a : ℕ) → a ≤ length old → length cur ≡ length old
    → cur ≡ all (take a (pick i old)) ++ drop a old → p ≡ part_of i (length old) a (length old) → zs ≡ drop a cur → ys ≡ after (take a (pick i old)) (pick p zs)
    → put_mid a (length cur - a) cur ys ≡ all (pick i old)
parts_last {X} {all} {after} o i old cur ys p zs a h lc e pe ze w =
    let front : List X = take a (pick i old) in
    parts_all o i old cur ys a h lc e (w ∙ (ap (λ z. after front (pick p z)) ze ∙ ap (λ z. after front (pick z (drop a cur))) pe))

-- one place: `one front x` is what x gives after the front
pub place_more : {X : Type 0} {all : List X → List X} {after : List X → List X → List X} → InOrder all after → (one : List X → X → X) → ((front : List X) (x : X) → after front (x ∷ []) ≡ one front x ∷ [])
    → (i old cur p : List X) (y d : X) (a : ℕ) → a < length old → cur ≡ all (take a (pick i old)) ++ drop a old → d ≡ get_or cur a d → p ≡ part_of i (length old) a (a + 1)
    → y ≡ one (take a (pick i old)) (get_or p 0 d) → set cur a y ≡ all (take (a + 1) (pick i old)) ++ drop (a + 1) old
place_more {X} {all} {after} o one ones i old cur p y d a h e dd pe w =
    let xs : List X = pick i old in
    let front : List X = take a xs in
    let lx : length xs ≡ length old = length-pick i old in
    let ln : length (all front) ≡ a = so_far_size o i old a (omega arith) in
    let dr : drop a cur ≡ drop a old = ap (drop a) e ∙ drop_at (all front) (drop a old) a ln in
    let od : d ≡ get_or old a d = dd ∙ (sym (first_of_drop cur a d) ∙ (ap (λ l. get_or l 0 d) dr ∙ first_of_drop old a d)) in
    let v : y ≡ one front (get_or xs a d) = w ∙ (ap (λ z. one front (get_or z 0 d)) pe ∙ ap (one front) (part_at i old a d h od)) in
    let st : set cur a y ≡ all front ++ y ∷ drop (suc a) old =
    ap (λ l. set l a y) (e ∙ ap (λ l. all front ++ l) (drop-cons old a d h)) ∙ set_at (all front) (get_or old a d) (drop (suc a) old) y a ln in
    let hx : a < length xs = omega arith in
    let more : all (take (a + 1) xs) ≡ all front ++ y ∷ [] = ap all (take_more xs a d hx) ∙ (o.joins front (get_or xs a d ∷ []) ∙ ap (λ l. all front ++ l) (ones front (get_or xs a d) ∙ ap (λ z. z ∷ []) (sym v))) in
    st ∙ rw (more, append_assoc, add-one) refl

-- one place more in a loop over a slice that is read and written
pub one_more : {X : Type 0} (f : X → X) (old cur : List X) (y d : X) (a : ℕ) → a < length old → cur ≡ map f (take a old) ++ drop a old → y ≡ f (get_or cur a d)
    → set cur a y ≡ map f (take (a + 1) old) ++ drop (a + 1) old
one_more f old cur y d a h e w =
    let same_length : length cur ≡ length old = ap length e ∙ simp (length-append, length-map, length-take, length-drop) (omega arith) in
    let within : a < length cur = omega arith in
    ap (set cur a) w ∙ map_over_more f old cur a (get_or cur a d) h e (get_or_default cur a d (get_or cur a d) within)

-- a map works in order
pub map-in_order : {X : Type 0} (f : X → X) → InOrder (map f) (λ _ ys. map f ys)
map-in_order f = record { size = λ xs. length-map xs f; joins = λ xs ys. map-append f xs ys }

-- a loop that maps part by part, the last part, and place by place: j is the input as the loop holds it
pub map_next : {X : Type 0} (f : X → X) (i old cur ys p : List X) (a k : ℕ) → a + k ≤ length old → cur ≡ map f (take a (pick i old)) ++ drop a old
    → p ≡ part_of i (length old) a (a + k) → ys ≡ map f (pick p (take (a + k - a) (drop a cur))) → put_mid a (a + k - a) cur ys ≡ map f (take (a + k) (pick i old)) ++ drop (a + k) old
map_next f i old cur ys p a k h e pe w = parts_next (map-in_order f) i old cur ys p a k (a + k - a) (omega arith) h e pe w

pub map_last : {X : Type 0} (f : X → X) (i old cur ys p : List X) (a : ℕ) → a ≤ length old → length cur ≡ length old → cur ≡ map f (take a (pick i old)) ++ drop a old
    → p ≡ part_of i (length old) a (length old) → ys ≡ map f (pick p (take (length cur - a) (drop a cur))) → put_mid a (length cur - a) cur ys ≡ map f (pick i old)
map_last f i old cur ys p a h lc e pe w = parts_last (map-in_order f) i old cur ys p (take (length cur - a) (drop a cur)) a h lc e pe (take_rest cur a) w

pub map_place : {X : Type 0} (f : X → X) (i j : Bor (List X)) (old cur p : List X) (y d : X) (a : ℕ) → a < length old → j ≡ i → cur ≡ map f (take a (pick i.now old)) ++ drop a old
    → p ≡ part_of j.now (length old) a (a + 1) → y ≡ f (get_or p 0 (get_or cur a d)) → set cur a y ≡ map f (take (a + 1) (pick i.now old)) ++ drop (a + 1) old
map_place f i j old cur p y d a h same e pe w =
    let lc : length cur ≡ length old = length_so_far (map-in_order f) i.now old cur a (omega arith) e in
    place_more (map-in_order f) (λ _. f) (λ _ _. refl) i.now old cur p y (get_or cur a d) a h e (read_again cur a d (omega arith)) (pe ∙ ap (λ b. part_of b.now (length old) a (a + 1)) same) w

-- a place that is there at first is there still
pub map_within : {X : Type 0} (f : X → X) (i old cur : List X) (a : ℕ) → a < length old → cur ≡ map f (take a (pick i old)) ++ drop a old → a < length cur
map_within f i old cur a h e =
    let lc : length cur ≡ length old = length_so_far (map-in_order f) i old cur a (omega arith) e in
    omega arith

-- behind the last place all is done
pub map_done : {X : Type 0} (f : X → X) (i old cur : List X) (a : ℕ) → length old ≤ a → cur ≡ map f (take a (pick i old)) ++ drop a old → cur ≡ map f (pick i old)
map_done f i old cur a h e =
    let lx : length (pick i old) ≡ length old = length-pick i old in
    let whole : take a (pick i old) ≡ pick i old = take_all a (pick i old) (omega arith) in
    e ∙ (ap (λ zs. map f zs ++ drop a old) whole ∙ (ap (λ zs. map f (pick i old) ++ zs) (drop_all a old h) ∙ append-nil (map f (pick i old))))

-- what a part reads, and what a place reads, though the places before are written already
pub read_part : {X : Type 0} {all : List X → List X} {after : List X → List X → List X} → InOrder all after → (i old cur p : List X) (a k j : ℕ) → j ≡ k → a + k ≤ length old
    → cur ≡ all (take a (pick i old)) ++ drop a old → p ≡ part_of i (length old) a (a + k) → pick p (take j (drop a cur)) ≡ take k (drop a (pick i old))
read_part {X} {all} {after} o i old cur p a k j q h e pe =
    let ln : length (all (take a (pick i old))) ≡ a = so_far_size o i old a (omega arith) in
    let d : drop a cur ≡ drop a old = ap (drop a) e ∙ drop_at (all (take a (pick i old))) (drop a old) a ln in
    ap (λ n. pick p (take n (drop a cur))) q ∙ (ap (λ zs. pick zs (take k (drop a cur))) pe ∙ (ap (λ zs. pick (part_of i (length old) a (a + k)) (take k zs)) d ∙ pick_part i old a k h))

pub read_rest : {X : Type 0} {all : List X → List X} {after : List X → List X → List X} → InOrder all after → (i old cur p zs : List X) (a : ℕ) → a ≤ length old → length cur ≡ length old
    → cur ≡ all (take a (pick i old)) ++ drop a old → p ≡ part_of i (length old) a (length old) → zs ≡ drop a cur → pick p zs ≡ drop a (pick i old)
read_rest {X} {all} {after} o i old cur p zs a h lc e pe ze =
    let xs : List X = pick i old in
    let k : ℕ = length old - a in
    let whole : length old ≡ a + k = omega arith in
    let kc : k ≡ length cur - a = ap (λ n. n - a) (sym lc) in
    let kx : k ≡ length xs - a = ap (λ n. n - a) (sym (length-pick i old)) in
    let tk : zs ≡ take k (drop a cur) = ze ∙ sym (ap (λ n. take n (drop a cur)) kc ∙ take_rest cur a) in
    ap (pick p) tk ∙ (read_part o i old cur p a k k refl (omega arith) e (pe ∙ ap (part_of i (length old) a) whole) ∙ (ap (λ n. take n (drop a xs)) kx ∙ take_rest xs a))

pub read_place : {X : Type 0} {all : List X → List X} {after : List X → List X → List X} → InOrder all after → (i old cur p : List X) (d : X) (a : ℕ) → a < length old
    → cur ≡ all (take a (pick i old)) ++ drop a old → d ≡ get_or cur a d → p ≡ part_of i (length old) a (a + 1) → get_or p 0 d ≡ get_or (pick i old) a d
read_place {X} {all} {after} o i old cur p d a h e dd pe =
    let ln : length (all (take a (pick i old))) ≡ a = so_far_size o i old a (omega arith) in
    let dr : drop a cur ≡ drop a old = ap (drop a) e ∙ drop_at (all (take a (pick i old))) (drop a old) a ln in
    let od : d ≡ get_or old a d = dd ∙ (sym (first_of_drop cur a d) ∙ (ap (λ l. get_or l 0 d) dr ∙ first_of_drop old a d)) in
    ap (λ z. get_or z 0 d) pe ∙ part_at i old a d h od
