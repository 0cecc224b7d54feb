use Rattle.std.proofs.Common.{◌≡◌, ◌+◌, ◌*◌, ◌∙◌, ap, arith, bit_xor, get_or, set}
use lib.Lanes.{chunk, put_chunk, zip2}
use Rattle.cipher.proofs.Lanes.{all_done, chunk_step, done, set_step}
use Rattle.cipher.proofs.xor.xor_in_place.Goals as goal

pub lanes-preserved : goal.lanes-preserved
lanes-preserved c =
    let n = 16 * c.lanes.i in
    let xs = c.args.output.now in
    let ws = c.args.bytes.now in
    let e : n + 16 ≡ 16 * (c.lanes.i + 1) = omega arith in
    ap (λ l. put_chunk n l (zip2 bit_xor (chunk n 16 l) (chunk n 16 ws))) c.lanes.invariant ∙ chunk_step n 16 xs ws c.requires (omega arith) ∙ ap (λ m. done m xs ws) e

pub rest-preserved : goal.rest-preserved
rest-preserved c =
    let n = c.rest.i in
    let ws = c.args.bytes.now in
    ap (λ l. set l n (bit_xor (get_or l n 0) (get_or ws n 0))) c.rest.invariant ∙ set_step n c.args.output.now ws c.requires (omega arith)

pub returns : goal.returns
returns c = record { value = c.rest.invariant ∙ all_done c.rest.i c.args.output.now c.args.bytes.now (omega arith) }
