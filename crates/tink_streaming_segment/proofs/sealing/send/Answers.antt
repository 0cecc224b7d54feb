use Rattle.std.proofs.Common.{◌≡◌, ◌≤◌, ◌+◌, ◌-◌, ℕ, List, ◌++◌, length, take, drop, ap, ◌∙◌, subst, arith}
use Rattle.std.proofs.Math.Seq.{take-append_seam}
use Rattle.std.proofs.lemmas.List.{length-take-le, take-take}
use Rattle.tink_streaming_segment.specs.Sealers.{segment_map}
use Rattle.tink_streaming_segment.proofs.sealing.send.Goals as goal

-- the prefix of a buffer that was sealed in its place
sealed_front : (seg : List ℕ → List ℕ) (filled over : ℕ) (old new : List ℕ) → filled + over ≤ length old → length new ≡ length (take (filled + over) old)
    → new ≡ seg (take (length (take (filled + over) old) - over) (take (filled + over) old)) → take (filled + over) (new ++ drop (filled + over) old) ≡ seg (take filled old)
sealed_front seg filled over old new room same is =
    let all : length (take (filled + over) old) ≡ filled + over = length-take-le (filled + over) old room in
    let text : length (take (filled + over) old) - over ≡ filled = omega (arith, all) in
    subst (λ (k : ℕ). take k (new ++ drop (filled + over) old) ≡ new) (same ∙ all) (take-append_seam new (drop (filled + over) old))
    ∙ is ∙ ap (λ k. seg (take k (take (filled + over) old))) text ∙ ap seg (take-take filled (filled + over) old (omega arith))

pub returns-clause-ok : goal.returns-clause-ok
returns-clause-ok g c =
    rw (sealed_front (segment_map c.args.sealer.now c.args.number c.args.last) c.args.filled c.args.sealer.now.overhead c.args.segment.now c.seal_in_place.new.segment (omega arith) c.seal_in_place.auto.segment c.seal_in_place.ensures) at c.write_all.ensures.written

pub returns-clause-prefix : goal.returns-clause-prefix
returns-clause-prefix g c =
    rw (sealed_front (segment_map c.args.sealer.now c.args.number c.args.last) c.args.filled c.args.sealer.now.overhead c.args.segment.now c.seal_in_place.new.segment (omega arith) c.seal_in_place.auto.segment c.seal_in_place.ensures) at c.write_all.ensures.prefix
