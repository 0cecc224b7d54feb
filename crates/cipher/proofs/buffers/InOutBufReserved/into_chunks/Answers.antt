use Rattle.std.proofs.Common.{◌≡◌, ◌+◌, ◌*◌, ◌/◌, ◌≤◌, ℕ, List, take, length, ap, ap₂, ◌∙◌, arith}
use Rattle.std.proofs.lemmas.List.{length-take-le}
use Rattle.std.proofs.lemmas.Nat.{div-mul-add}
use Rattle.std.proofs.Math.Nat.{div-mul-le_self}
use Rattle.std.specs.Simd.{first_chunks}
use Rattle.cipher.proofs.buffers.InOutBufReserved.into_chunks.Goals as goal

-- as many arrays of w as there are in n places
count : {X : Type 0} (n w : ℕ) (xs ys : List X) → 1 ≤ w → n ≤ length xs → ys ≡ take (n / w * w) xs → length ys / w ≡ n / w
count n w xs ys positive room is =
    let size : length ys ≡ n / w * w = ap length is ∙ length-take-le (n / w * w) xs (omega (arith, div-mul-le_self n w)) in
    let none : n / w * w ≡ n / w * w + 0 = omega arith in
    ap (λ k. k / w) (size ∙ none) ∙ div-mul-add (n / w) w 0 (omega arith)

pub returns-clause-front : goal.returns-clause-front
returns-clause-front g c =
    c.into_chunks-chunks.ensures.front
    ∙ ap₂ (first_chunks g.row.N) (count c.args.self.len g.row.N c.args.self.output.now _ c.requires.positive c.requires.room c.split_at-front.ensures.written_front) c.split_at-front.ensures.front

pub returns-clause-written_front : goal.returns-clause-written_front
returns-clause-written_front g c =
    c.into_chunks-chunks.ensures.written_front
    ∙ ap₂ (first_chunks g.row.N) (count c.args.self.len g.row.N c.args.self.output.now _ c.requires.positive c.requires.room c.split_at-front.ensures.written_front) c.split_at-front.ensures.written_front
