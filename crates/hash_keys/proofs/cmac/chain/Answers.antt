use Rattle.std.proofs.Common.{◌≡◌, ◌*◌, ◌+◌, ◌-◌, suc, ap, ap₂, ◌∙◌, take, drop, refl, arith}
use Rattle.standards.specs.Blocks.{over_blocks}
use Rattle.standards.specs.Cmac.{chain_step}
use Rattle.standards.specs.Lists.{xor_bytes}
use Rattle.hash_keys.proofs.cmac.chain.Goals as goal

pub loop-i-init : goal.loop-i-init
unfolding over_blocks
loop-i-init g c = refl

pub loop-i-preserved : goal.loop-i-preserved
unfolding over_blocks
loop-i-preserved g c =
    let E = g.C.BlockCipherEncrypt.encrypts c.args.c.now in
    let i = c.loop-i.i in
    let size : 16 * i + 16 - 16 * i ≡ 16 = omega arith in
    let next : suc i ≡ i + 1 = omega arith in
    c.encrypt_block.ensures.value
    ∙ ap E (c.xor_in_place.ensures.value ∙ ap₂ (λ b k. xor_bytes b (take k (drop (16 * i) c.args.text.now))) c.loop-i.invariant size)
    ∙ ap (over_blocks (chain_step E) c.args.start c.args.text.now) next
