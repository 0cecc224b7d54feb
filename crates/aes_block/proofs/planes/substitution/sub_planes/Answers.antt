use Rattle.std.proofs.Common.{refl}
use Rattle.standards.specs.Aes.{sub_byte}
use Rattle.standards.proofs.Bytes.{sub_byte_below}
use Rattle.aes_block.specs.TruthTables.{SUBSTITUTED}
use Rattle.aes_block.proofs.TableBits.{substituted_are}
use Rattle.aes_block.proofs.PlaneWires.{from_wires, to_wires}
use Rattle.aes_block.proofs.planes.substitution.sub_planes.Goals as goal

pub returns : goal.returns
returns g c p X h =
    let factors = c.factors-y.ensures p X (to_wires X _ h) in
    let inverse = c.inverse-t.ensures p X (c.sums.ensures p X factors) in
    from_wires X SUBSTITUTED sub_byte _ refl sub_byte_below substituted_are h.below (c.bits.ensures p X h.below (c.terms.ensures p X factors inverse))
