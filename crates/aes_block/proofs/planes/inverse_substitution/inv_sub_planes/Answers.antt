use Rattle.standards.specs.Aes.{sub_byte}
use Rattle.standards.specs.AesInverse.{inv_affine_bits, inv_sub_byte}
use Rattle.aes_block.proofs.LinearSteps.{same_planes}
use Rattle.aes_block.proofs.TableBits.{undone_around}
use Rattle.aes_block.proofs.planes.inverse_substitution.inv_sub_planes.Goals as goal

pub returns : goal.returns
returns g c p X h =
    let before = c.undo_affine.ensures p X h in
    let within = c.sub_planes.ensures p (λ k i. inv_affine_bits (X k i) 8) before in
    let behind = c.undo_affine-2.ensures p (λ k i. sub_byte (inv_affine_bits (X k i) 8)) within in
    same_planes _ (λ k i. inv_sub_byte (X k i)) _ (λ k i l m. undone_around (X k i) (h.below k i l m)) behind
