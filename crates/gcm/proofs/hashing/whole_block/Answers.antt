use Rattle.std.proofs.Common.{◌≡◌, ◌≤◌, ◌+◌, ◌-◌, ◌*◌, ◌%◌, ℕ, List, length, take, drop, replicate, ap, sym, ◌∙◌, arith}
use Rattle.std.proofs.lemmas.List.{drop-append-le, length-drop, take-append-le}
use Rattle.standards.specs.Blocks.{block_at, zero_padded}
use Rattle.gcm.specs.Orders.{number_of}
use Rattle.gcm.proofs.hashing.whole_block.Goals as goal

-- the padding changes no whole block
whole : (bytes : List ℕ) (i : ℕ) → 16 * i + 16 ≤ length bytes → take 16 (drop (16 * i) bytes) ≡ block_at (zero_padded bytes) i
whole bytes i within =
    let zeros : List ℕ = replicate ((16 - length bytes % 16) % 16) 0 in
    let r = drop (16 * i) bytes in
    sym (ap (take 16) (drop-append-le (16 * i) bytes zeros (omega arith)) ∙ take-append-le 16 r zeros (omega (arith, length-drop (16 * i) bytes)))

pub returns : goal.returns
returns c =
    let bytes = c.args.bytes.now in
    let i = c.args.i in
    let e : 16 * i + 16 - 16 * i ≡ 16 = omega arith in
    c.number_of.ensures ∙ ap (number_of c.args.order) (c.copy_from_slice.ensures.after ∙ ap (λ k. take k (drop (16 * i) bytes)) e ∙ whole bytes i (omega arith))
