use Rattle.std.proofs.Common.{◌≡◌, ◌+◌, ℕ, List, drop, take, length, ◌∙◌, sym, ap, ◌-◌, ◌++◌, arith, subst}
use Rattle.std.proofs.lemmas.List.{length-take, take-append-drop, drop-drop}
use Rattle.std.proofs.Math.Seq.{take-append_seam}
use Rattle.tink_io.proofs.memory.give.Goals as goal
use Rattle.tink_io.proofs.memory.give.Goals.{then-piece-gt0, else-piece-gt0}

-- what was left is the n bytes that moved and what is left then
moved : (xs buf front : List ℕ) (at n : ℕ) → length front ≡ n → front ≡ take (at + n - at) (drop at xs)
    → drop at xs ≡ take n (front ++ drop n buf) ++ drop (at + n) xs
moved xs buf front at n len is =
    let copied : front ≡ take n (drop at xs) = is ∙ ap (λ k. take k (drop at xs)) (omega arith) in
    let given : take n (front ++ drop n buf) ≡ front = subst (λ (k : ℕ). take k (front ++ drop n buf) ≡ front) len (take-append_seam front (drop n buf)) in
    sym (take-append-drop n (drop at xs)) ∙ ap (λ ys. take n (drop at xs) ++ ys) (drop-drop n at xs)
    ∙ ap (λ ys. ys ++ drop (at + n) xs) (sym copied ∙ sym given)

pub returns-clause-moved : goal.returns-clause-moved
returns-clause-moved c =
    let len : length c.copy_from_slice.new.self ≡ c.if-piece-gt0.n = elim c.if-piece-gt0.branch [
      | then-piece-gt0 w ↦ omega (arith, c.copy_from_slice.ensures.len, length-take {A = ℕ})
      | else-piece-gt0 w ↦ omega (arith, c.copy_from_slice.ensures.len, length-take {A = ℕ})
    ] in
    moved c.args.bytes.now c.args.buf.now c.copy_from_slice.new.self c.args.at c.if-piece-gt0.n len c.copy_from_slice.ensures.after
