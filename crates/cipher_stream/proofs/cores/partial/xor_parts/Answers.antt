use Rattle.std.proofs.Common.{◌≡◌, ℕ, ◌+◌, ◌-◌, ◌*◌, ◌≤◌, ◌++◌, ◌∙◌, [], sym, ap, get_or, take, drop, length, arith}
use Rattle.std.proofs.lemmas.List.{get_or_default}
use Rattle.std.specs.Prelude.{bit_xor}
use Rattle.cipher_stream.specs.Keystream.{joined, applied}
use Rattle.cipher_stream.proofs.Applied.{applied_next, applied_all}
use Rattle.cipher_stream.proofs.BlockBytes.{joined_in, block_within}
use Rattle.cipher_stream.proofs.cores.partial.xor_parts.Goals as goal

pub loop-i-preserved : goal.loop-i-preserved
loop-i-preserved g c =
    let B = g.row.B in
    let i = c.loop-i.i in
    let keys = c.args.keys.now in
    let old = c.args.bytes.now in
    let at : ℕ = i * B in
    let j : at + B - at ≡ B = omega arith in
    let more : at + B ≡ (i + 1) * B = omega arith in
    let key : c.index-keys-i.result ≡ get_or keys i [] = c.index-keys-i.is ∙ get_or_default keys i _ [] c.loop-i-test.true in
    let within : at + B ≤ length old = block_within i (length keys) B (length old) c.loop-i-test.true c.requires in
    applied_next bit_xor (joined B keys) (λ k. get_or _ k 0) old c.loop-i.bytes c.xor_part.new.out at B (at + B - at) j within c.loop-i.invariant (λ k h. ap (λ b. get_or b k 0) key ∙ sym (joined_in B keys i k h)) c.xor_part.ensures.value
    ∙ ap (λ n. applied bit_xor (joined B keys) (take n old) ++ drop n old) more

pub returns : goal.returns
returns g c =
    let all : c.loop-i.i ≡ length c.args.keys.now = omega arith in
    let end : length c.args.bytes.now ≤ c.loop-i.i * g.row.B = let e : length c.args.bytes.now ≡ c.loop-i.i * g.row.B = c.requires ∙ ap (λ n. n * g.row.B) (sym all) in omega arith in
    record { value = applied_all bit_xor (joined g.row.B c.args.keys.now) c.args.bytes.now c.loop-i.bytes (c.loop-i.i * g.row.B) end c.loop-i.invariant }
