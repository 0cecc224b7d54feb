use Rattle.std.proofs.Common.{◌≡◌, ◌≤◌, ◌+◌, ◌-◌, ℕ, List, length, take, drop, ap, sym, ◌∙◌, arith, length-drop, zero-add}
use lib.Seq.{paste}
use Rattle.std.proofs.lemmas.List.{drop-take}
use Rattle.std.proofs.lemmas.List.Edits.{take-paste}
use Rattle.tink_streaming_segment.proofs.held.carry.Goals as goal

-- a part that was copied to the start
at_front : (place filled : ℕ) (xs : List ℕ) → place ≤ filled → filled ≤ length xs → take (filled - place) (paste xs 0 (drop place xs) (filled - place)) ≡ drop place (take filled xs)
at_front place filled xs h f =
    let m : ℕ = filled - place in
    let all : place + m ≡ filled = omega arith in
    ap (λ k. take k (paste xs 0 (drop place xs) m)) (sym (zero-add m)) ∙ take-paste xs 0 (drop place xs) m (omega arith) (omega (arith, length-drop place xs)) ∙ sym (drop-take place m xs) ∙ ap (λ k. drop place (take k xs)) all

pub returns-clause-bytes : goal.returns-clause-bytes
returns-clause-bytes c =
    ap (take (c.args.filled - c.args.place)) c.copy_within.ensures.items
    ∙ at_front c.args.place c.args.filled c.args.buffer.now.items c.requires.place (omega (arith, c.args.buffer.now.ok.0))
