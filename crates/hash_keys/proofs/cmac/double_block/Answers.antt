use Rattle.std.proofs.Common.{◌≡◌, ◌*◌, ◌/◌, ◌%◌, ◌^◌, ℕ, List, ap, ◌∙◌, bit_xor, arith}
use Rattle.std.specs.Int.{w128, from_be_bytes, to_be_bytes}
use Rattle.standards.specs.Cmac.{double_block}
use Rattle.standards.specs.Cmac as K
use Rattle.hash_keys.proofs.cmac.double_block.Goals as goal

-- the number shifted, and reduced by the bit that goes out
doubled_is : (block out : List ℕ) (n : ℕ) → n ≡ from_be_bytes w128 block → out ≡ to_be_bytes w128 (bit_xor (n * 2 % 2 ^ 128) (n / 2 ^ 127 * 0x87)) → out ≡ double_block block
unfolding double_block
doubled_is block out n n_is out_is =
    let e : n * 2 ≡ 2 * n = omega arith in
    out_is ∙ ap (λ v. to_be_bytes w128 (bit_xor (v % 2 ^ 128) (n / 2 ^ 127 * 0x87))) e ∙ ap (λ v. to_be_bytes w128 (K.doubled v)) n_is

pub returns : goal.returns
returns c = doubled_is c.args.block c.to_be_bytes.result c.from_be_bytes-n.result c.from_be_bytes-n.ensures c.to_be_bytes.ensures
