use Rattle.std.proofs.Common.{ap₂, map, ◌++◌, ◌∙◌}
use Rattle.cipher.specs.Buffers.{pick}
use Rattle.aes_block.proofs.Halves.{mapped_parts}
use Rattle.aes_block.proofs.blocks.run_halves.Goals as goal

pub returns : goal.returns
returns g c =
    let f = g.D.Direction.of c.args.schedule.now in
    ap₂ (λ x y. x ++ y)
    (c.run_eight.ensures ∙ ap₂ (λ i o. map f (pick i o)) c.part_of.ensures.value c.split_at_mut-front.ensures.front)
    (c.run_few.ensures ∙ ap₂ (λ i o. map f (pick i o)) c.part_of-2.ensures.value c.split_at_mut-front.ensures.back)
    ∙ mapped_parts f c.args.input.now c.args.output.now c.requires.many
