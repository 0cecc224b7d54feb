use Rattle.std.proofs.Common.{ap, ap₂, map, ◌++◌, ◌∙◌}
use Rattle.standards.specs.Aes.{cipher}
use Rattle.aes_block.proofs.Halves.{mapped_eights}
use Rattle.aes_block.proofs.planes.encipher_sixteen.Goals as goal

pub returns : goal.returns
returns c ks k =
    let f = cipher c.args.rounds ks in
    c.wide_arrays.ensures
    ∙ ap₂ (λ x y. x ++ y) (c.encipher_vectors.ensures 0 ks k ∙ ap (map f) c.wide_vectors.ensures.first) (c.encipher_vectors.ensures 1 ks k ∙ ap (map f) c.wide_vectors.ensures.second)
    ∙ mapped_eights f c.args.blocks.now
