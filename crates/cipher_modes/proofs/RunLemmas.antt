-- The outputs of a mode and the state after them.
use Rattle.std.proofs.Common.{◌≡◌, ℕ, suc, ◌+◌, ◌-◌, ◌<◌, ◌≤◌, List, [], ◌∷◌, ◌++◌, take, drop, set, get_or, length, ap, sym, ◌∙◌, refl, arith}
use Rattle.std.proofs.lemmas.List.{take_more, take-append-drop, take_all, drop_all, append-nil}
use Rattle.std.proofs.Math.Seq.{take-add}
use Rattle.std.specs.Borrow.{Bor}
use Rattle.cipher.specs.Buffers.{pick, part_of}
use Rattle.cipher.specs.Transcript.{Block}
use Rattle.cipher.proofs.Parts.{InOrder, length-pick, length_so_far, parts_next, parts_last, place_more, read_again, read_part, read_rest, read_place}
use Rattle.cipher_modes.specs.Steps.{run_of, state_after}
use borrow.Rule.Slice.PartMut.{put_mid}

pub length-run_of : {S : Type 0} (step : S → Block → Block × S) (s : S) (xs : List Block) → length (run_of step s xs) ≡ length xs
length-run_of step s [] = refl
length-run_of step s (x ∷ xs) = ap suc (length-run_of step (step s x).1 xs)

pub run_of-append : {S : Type 0} (step : S → Block → Block × S) (s : S) (xs ys : List Block) → run_of step s (xs ++ ys) ≡ run_of step s xs ++ run_of step (state_after step s xs) ys
run_of-append step s [] ys = refl
run_of-append step s (x ∷ xs) ys = ap (λ zs. (step s x).0 ∷ zs) (run_of-append step (step s x).1 xs ys)

pub state_after-append : {S : Type 0} (step : S → Block → Block × S) (s : S) (xs ys : List Block) → state_after step s (xs ++ ys) ≡ state_after step (state_after step s xs) ys
state_after-append step s [] ys = refl
state_after-append step s (x ∷ xs) ys = state_after-append step (step s x).1 xs ys

-- a mode works in order
pub run-in_order : {S : Type 0} (step : S → Block → Block × S) (s : S) → InOrder (run_of step s) (λ xs ys. run_of step (state_after step s xs) ys)
run-in_order step s = record { size = length-run_of step s; joins = run_of-append step s }

-- a width that each step leaves
width-kept : {S : Type 0} (step : S → Block → Block × S) (lanes : S → ℕ) → ((s : S) (x : Block) → lanes (step s x).1 ≡ lanes s) → (s : S) (xs : List Block) → lanes (state_after step s xs) ≡ lanes s
width-kept step lanes same s [] = refl
width-kept step lanes same s (x ∷ xs) = width-kept step lanes same (step s x).1 xs ∙ same s x

-- A loop over the parts of a buffer: s is the mode's state when it began and t now, a is the place, xs what the buffer reads.
pub outputs-next : {S : Type 0} (step : S → Block → Block × S) (s t : S) (i old cur ys p : List Block) (a k j : ℕ) → j ≡ k → a + k ≤ length old
    → cur ≡ run_of step s (take a (pick i old)) ++ drop a old → t ≡ state_after step s (take a (pick i old)) → p ≡ part_of i (length old) a (a + k)
    → ys ≡ run_of step t (pick p (take j (drop a cur))) → put_mid a j cur ys ≡ run_of step s (take (a + k) (pick i old)) ++ drop (a + k) old
outputs-next step s t i old cur ys p a k j q h e te pe w =
    parts_next (run-in_order step s) i old cur ys p a k j q h e pe (w ∙ ap (λ u. run_of step u (pick p (take j (drop a cur)))) te)

pub state-next : {S : Type 0} (step : S → Block → Block × S) (s t t' : S) (i old cur p : List Block) (a k j : ℕ) → j ≡ k → a + k ≤ length old
    → cur ≡ run_of step s (take a (pick i old)) ++ drop a old → t ≡ state_after step s (take a (pick i old)) → p ≡ part_of i (length old) a (a + k)
    → t' ≡ state_after step t (pick p (take j (drop a cur))) → t' ≡ state_after step s (take (a + k) (pick i old))
state-next step s t t' i old cur p a k j q h e te pe w =
    let xs : List Block = pick i old in
    w ∙ (ap (state_after step t) (read_part (run-in_order step s) i old cur p a k j q h e pe) ∙ (ap (λ u. state_after step u (take k (drop a xs))) te
    ∙ (sym (state_after-append step s (take a xs) (take k (drop a xs))) ∙ ap (state_after step s) (sym (take-add a k xs)))))

pub outputs-last : {S : Type 0} (step : S → Block → Block × S) (s t : S) (i old cur ys p zs : List Block) (a : ℕ) → a ≤ length old → length cur ≡ length old
    → cur ≡ run_of step s (take a (pick i old)) ++ drop a old → t ≡ state_after step s (take a (pick i old)) → p ≡ part_of i (length old) a (length old) → zs ≡ drop a cur
    → ys ≡ run_of step t (pick p zs) → put_mid a (length cur - a) cur ys ≡ run_of step s (pick i old)
outputs-last step s t i old cur ys p zs a h lc e te pe ze w =
    parts_last (run-in_order step s) i old cur ys p zs a h lc e pe ze (w ∙ ap (λ u. run_of step u (pick p zs)) te)

pub state-last : {S : Type 0} (step : S → Block → Block × S) (s t t' : S) (i old cur p zs : List Block) (a : ℕ) → a ≤ length old → length cur ≡ length old
    → cur ≡ run_of step s (take a (pick i old)) ++ drop a old → t ≡ state_after step s (take a (pick i old)) → p ≡ part_of i (length old) a (length old) → zs ≡ drop a cur
    → t' ≡ state_after step t (pick p zs) → t' ≡ state_after step s (pick i old)
state-last step s t t' i old cur p zs a h lc e te pe ze w =
    let xs : List Block = pick i old in
    w ∙ (ap (state_after step t) (read_rest (run-in_order step s) i old cur p zs a h lc e pe ze) ∙ (ap (λ u. state_after step u (drop a xs)) te
    ∙ (sym (state_after-append step s (take a xs) (drop a xs)) ∙ ap (state_after step s) (take-append-drop a xs))))

-- .. and place by place
pub outputs-one : {S : Type 0} (step : S → Block → Block × S) (s t : S) (i old cur p : List Block) (y d : Block) (a : ℕ) → a < length old
    → cur ≡ run_of step s (take a (pick i old)) ++ drop a old → t ≡ state_after step s (take a (pick i old)) → d ≡ get_or cur a d → p ≡ part_of i (length old) a (a + 1)
    → y ≡ (step t (get_or p 0 d)).0 → set cur a y ≡ run_of step s (take (a + 1) (pick i old)) ++ drop (a + 1) old
outputs-one step s t i old cur p y d a h e te dd pe w =
    place_more (run-in_order step s) (λ front x. (step (state_after step s front) x).0) (λ front x. refl) i old cur p y d a h e dd pe (w ∙ ap (λ u. (step u (get_or p 0 d)).0) te)

pub state-one : {S : Type 0} (step : S → Block → Block × S) (s t t' : S) (i old cur p : List Block) (d : Block) (a : ℕ) → a < length old
    → cur ≡ run_of step s (take a (pick i old)) ++ drop a old → t ≡ state_after step s (take a (pick i old)) → d ≡ get_or cur a d → p ≡ part_of i (length old) a (a + 1)
    → t' ≡ (step t (get_or p 0 d)).1 → t' ≡ state_after step s (take (a + 1) (pick i old))
state-one step s t t' i old cur p d a h e te dd pe w =
    let xs : List Block = pick i old in
    let lx : length xs ≡ length old = length-pick i old in
    let x : Block = get_or xs a d in
    w ∙ (ap (λ z. (step t z).1) (read_place (run-in_order step s) i old cur p d a h e dd pe) ∙ (ap (λ u. (step u x).1) te
    ∙ (sym (state_after-append step s (take a xs) (x ∷ [])) ∙ ap (state_after step s) (sym (take_more xs a d (omega arith))))))

-- .. in a loop that holds the input as j
pub place-within : {S : Type 0} (step : S → Block → Block × S) (s : S) (i old cur : List Block) (a : ℕ) → a < length old → cur ≡ run_of step s (take a (pick i old)) ++ drop a old → a < length cur
place-within step s i old cur a h e =
    let size : length cur ≡ length old = length_so_far (run-in_order step s) i old cur a (omega arith) e in omega arith

pub place-next : {S : Type 0} (step : S → Block → Block × S) (s t t' : S) (i j : Bor (List Block)) (old cur p : List Block) (y d : Block) (a : ℕ) → a < length old → j ≡ i
    → cur ≡ run_of step s (take a (pick i.now old)) ++ drop a old → t ≡ state_after step s (take a (pick i.now old)) → p ≡ part_of j.now (length old) a (a + 1)
    → y ≡ (step t (get_or p 0 (get_or cur a d))).0 → t' ≡ (step t (get_or p 0 (get_or cur a d))).1
    → (set cur a y ≡ run_of step s (take (a + 1) (pick i.now old)) ++ drop (a + 1) old) × (t' ≡ state_after step s (take (a + 1) (pick i.now old)))
place-next step s t t' i j old cur p y d a h same e te pe made stepped =
    let again : get_or cur a d ≡ get_or cur a (get_or cur a d) = read_again cur a d (place-within step s i.now old cur a h e) in
    let read : p ≡ part_of i.now (length old) a (a + 1) = pe ∙ ap (λ b. part_of b.now (length old) a (a + 1)) same in
    (outputs-one step s t i.now old cur p y (get_or cur a d) a h e te again read made, state-one step s t t' i.now old cur p (get_or cur a d) a h e te again read stepped)

pub width-next : {S : Type 0} (step : S → Block → Block × S) (lanes : S → ℕ) → ((s : S) (x : Block) → lanes (step s x).1 ≡ lanes s) → (t t' : S) (xs : List Block) (width : ℕ)
    → t' ≡ state_after step t xs → lanes t ≡ width → lanes t' ≡ width
width-next step lanes same t t' xs width e w = ap lanes e ∙ (width-kept step lanes same t xs ∙ w)

-- .. after its last place
pub outputs-all : {S : Type 0} (step : S → Block → Block × S) (s : S) (i old cur : List Block) (a : ℕ) → length old ≤ a
    → cur ≡ run_of step s (take a (pick i old)) ++ drop a old → cur ≡ run_of step s (pick i old)
outputs-all step s i old cur a end e =
    let xs : List Block = pick i old in
    let size : length xs ≡ length old = length-pick i old in
    e ∙ (ap (λ zs. run_of step s (take a xs) ++ zs) (drop_all a old end) ∙ (append-nil (run_of step s (take a xs)) ∙ ap (run_of step s) (take_all a xs (omega arith))))

pub state-all : {S : Type 0} (step : S → Block → Block × S) (s t : S) (i old : List Block) (a : ℕ) → length old ≤ a → t ≡ state_after step s (take a (pick i old)) → t ≡ state_after step s (pick i old)
state-all step s t i old a end e = let size : length (pick i old) ≡ length old = length-pick i old in e ∙ ap (state_after step s) (take_all a (pick i old) (omega arith))

-- .. in a loop over parts
pub nearer : (n at width : ℕ) → 1 ≤ width → width ≤ n - at → n - (at + width) < n - at
nearer n at width some least = omega arith

pub none_before : (xs : List Block) → 0 ≤ length xs
none_before xs = omega arith
