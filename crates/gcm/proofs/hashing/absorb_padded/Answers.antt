use Rattle.std.proofs.Common.{◌≡◌, ◌+◌, ◌*◌, suc, ap, ap₂, ◌∙◌, refl, arith}
use Rattle.standards.specs.Blocks.{over_blocks, zero_padded}
use Rattle.gcm.specs.Orders.{absorb}
use Rattle.gcm.proofs.Hashes.{four_more}
use Rattle.gcm.proofs.hashing.absorb_padded.Goals as goal

pub fours-init : goal.fours-init
unfolding over_blocks
fours-init g c = refl

pub fours-preserved : goal.fours-preserved
fours-preserved g c =
    let f = absorb c.args.order (g.K.Products.element c.args.key.now) in
    let m = zero_padded c.args.bytes.now in
    let next : 4 * c.fours.i + 4 ≡ 4 * (c.fours.i + 1) = omega arith in
    c.absorb_four-next.ensures ∙ four_more f c.args.y c.fours.state m (4 * c.fours.i) c.fours.invariant ∙ ap (over_blocks f c.args.y m) next

pub rest-preserved : goal.rest-preserved
unfolding over_blocks
rest-preserved g c =
    let f = absorb c.args.order (g.K.Products.element c.args.key.now) in
    let next : suc c.rest.i ≡ c.rest.i + 1 = omega arith in
    c.absorb-next.ensures ∙ ap₂ f c.rest.invariant c.padded_block.ensures ∙ ap (over_blocks f c.args.y (zero_padded c.args.bytes.now)) next
