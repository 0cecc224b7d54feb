use Rattle.std.proofs.Common.{lit<, refl}
use Rattle.standards.specs.AesInverse.{inv_affine_bits}
use Rattle.aes_block.specs.TruthTables.{BITS, UNDONE}
use Rattle.aes_block.proofs.Gates.{ones_gate, part_wire, xor_gate}
use Rattle.aes_block.proofs.PlaneWires.{from_wires, to_wires}
use Rattle.aes_block.proofs.TableBits.{undone_are, undone_below}
use Rattle.aes_block.proofs.planes.inverse_substitution.undo_affine.Goals as goal

pub returns : goal.returns
returns g c p X h =
    let part = g.P.Plane.part p in
    let bits = to_wires X _ h in
    let ones = ones_gate X _ h.below (c.splat-ones.ensures p) in
    let b0 = part_wire part X BITS c.args.q bits 0 (lit< tt) c.index-q-0.result in
    let b1 = part_wire part X BITS c.args.q bits 1 (lit< tt) c.index-q-1.result in
    let b2 = part_wire part X BITS c.args.q bits 2 (lit< tt) c.index-q-2.result in
    let b3 = part_wire part X BITS c.args.q bits 3 (lit< tt) c.index-q-3.result in
    let b4 = part_wire part X BITS c.args.q bits 4 (lit< tt) c.index-q-4.result in
    let b5 = part_wire part X BITS c.args.q bits 5 (lit< tt) c.index-q-5.result in
    let b6 = part_wire part X BITS c.args.q bits 6 (lit< tt) c.index-q-6.result in
    let b7 = part_wire part X BITS c.args.q bits 7 (lit< tt) c.index-q-7.result in
    let u0 = xor_gate X _ _ _ _ _ (xor_gate X _ _ _ _ _ (xor_gate X _ _ _ _ _ b2 b5 (c.xor.ensures p)) b7 (c.xor-2.ensures p)) ones (c.xor-3.ensures p) in
    let u1 = xor_gate X _ _ _ _ _ (xor_gate X _ _ _ _ _ b3 b6 (c.xor-4.ensures p)) b0 (c.xor-5.ensures p) in
    let u2 = xor_gate X _ _ _ _ _ (xor_gate X _ _ _ _ _ (xor_gate X _ _ _ _ _ b4 b7 (c.xor-6.ensures p)) b1 (c.xor-7.ensures p)) ones (c.xor-8.ensures p) in
    let u3 = xor_gate X _ _ _ _ _ (xor_gate X _ _ _ _ _ b5 b0 (c.xor-9.ensures p)) b2 (c.xor-10.ensures p) in
    let u4 = xor_gate X _ _ _ _ _ (xor_gate X _ _ _ _ _ b6 b1 (c.xor-11.ensures p)) b3 (c.xor-12.ensures p) in
    let u5 = xor_gate X _ _ _ _ _ (xor_gate X _ _ _ _ _ b7 b2 (c.xor-13.ensures p)) b4 (c.xor-14.ensures p) in
    let u6 = xor_gate X _ _ _ _ _ (xor_gate X _ _ _ _ _ b0 b3 (c.xor-15.ensures p)) b5 (c.xor-16.ensures p) in
    let u7 = xor_gate X _ _ _ _ _ (xor_gate X _ _ _ _ _ b1 b4 (c.xor-17.ensures p)) b6 (c.xor-18.ensures p) in
    from_wires X UNDONE (λ x. inv_affine_bits x 8) _ refl undone_below undone_are h.below (u0, (u1, (u2, (u3, (u4, (u5, (u6, (u7, refl))))))))
