use Rattle.std.proofs.Common.{arith, map, ◌∙◌}
use Rattle.std.proofs.lemmas.List.{length-map}
use Rattle.standards.specs.Aes.{cipher}
use Rattle.aes_block.proofs.LinearSteps.{planes_of_transposed, transposed_back}
use Rattle.aes_block.proofs.planes.encipher_vectors.Goals as goal

pub returns : goal.returns
returns g c p ks k =
    let part = g.P.Plane.part p in
    let b = map part c.args.v in
    transposed_back (map (cipher c.args.rounds ks) b) (map part c.encipher_planes.result) (map part c.transpose-2.result)
    (c.encipher_planes.ensures p b ks (planes_of_transposed b (map part c.transpose.result) (length-map c.args.v part ∙ omega arith) (c.transpose.ensures p)) k) (c.transpose-2.ensures p)
