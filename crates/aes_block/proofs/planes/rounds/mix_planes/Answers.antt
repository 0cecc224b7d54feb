use Rattle.std.proofs.Common.{ℕ, List, [], ◌∷◌, get_or, lit<, refl}
use Rattle.aes_block.specs.BitPlanes.{AT_FIRST}
use Rattle.aes_block.proofs.ColumnSums.{sum_bit, taken_bit}
use Rattle.aes_block.proofs.LinearSteps.{xor_bit_is}
use Rattle.aes_block.proofs.PlaneParts.{blocks_of_parts}
use Rattle.aes_block.proofs.MixedPlanes.{mixed_bit, mixed_blocks}
use Rattle.aes_block.proofs.planes.rounds.mix_planes.Goals as goal

pub returns : goal.returns
returns g c p b g_is =
    let part = g.P.Plane.part p in
    let q : List (List ℕ) = part (get_or c.args.q 0 c.index-q-0.result) ∷ part (get_or c.args.q 1 c.index-q-1.result) ∷ part (get_or c.args.q 2 c.index-q-2.result) ∷ part (get_or c.args.q 3 c.index-q-3.result) ∷ part (get_or c.args.q 4 c.index-q-4.result) ∷ part (get_or c.args.q 5 c.index-q-5.result) ∷ part (get_or c.args.q 6 c.index-q-6.result) ∷ part (get_or c.args.q 7 c.index-q-7.result) ∷ [] in
    let h = blocks_of_parts part c.args.q b g_is c.index-q-0.result c.index-q-1.result c.index-q-2.result c.index-q-3.result c.index-q-4.result c.index-q-5.result c.index-q-6.result c.index-q-7.result in
    let r0 = taken_bit AT_FIRST refl tt b q h 0 (part c.first_on-r0.result) (lit< tt) (c.first_on-r0.ensures p) in
    let r1 = taken_bit AT_FIRST refl tt b q h 1 (part c.first_on-r1.result) (lit< tt) (c.first_on-r1.ensures p) in
    let r2 = taken_bit AT_FIRST refl tt b q h 2 (part c.first_on-r2.result) (lit< tt) (c.first_on-r2.ensures p) in
    let r3 = taken_bit AT_FIRST refl tt b q h 3 (part c.first_on-r3.result) (lit< tt) (c.first_on-r3.ensures p) in
    let r4 = taken_bit AT_FIRST refl tt b q h 4 (part c.first_on-r4.result) (lit< tt) (c.first_on-r4.ensures p) in
    let r5 = taken_bit AT_FIRST refl tt b q h 5 (part c.first_on-r5.result) (lit< tt) (c.first_on-r5.ensures p) in
    let r6 = taken_bit AT_FIRST refl tt b q h 6 (part c.first_on-r6.result) (lit< tt) (c.first_on-r6.ensures p) in
    let r7 = taken_bit AT_FIRST refl tt b q h 7 (part c.first_on-r7.result) (lit< tt) (c.first_on-r7.ensures p) in
    let d0 = sum_bit AT_FIRST refl tt b q h 0 (part c.first_on-r0.result) (part c.xor-d0.result) (lit< tt) (c.first_on-r0.ensures p) (c.xor-d0.ensures p) in
    let d1 = sum_bit AT_FIRST refl tt b q h 1 (part c.first_on-r1.result) (part c.xor-d1.result) (lit< tt) (c.first_on-r1.ensures p) (c.xor-d1.ensures p) in
    let d2 = sum_bit AT_FIRST refl tt b q h 2 (part c.first_on-r2.result) (part c.xor-d2.result) (lit< tt) (c.first_on-r2.ensures p) (c.xor-d2.ensures p) in
    let d3 = sum_bit AT_FIRST refl tt b q h 3 (part c.first_on-r3.result) (part c.xor-d3.result) (lit< tt) (c.first_on-r3.ensures p) (c.xor-d3.ensures p) in
    let d4 = sum_bit AT_FIRST refl tt b q h 4 (part c.first_on-r4.result) (part c.xor-d4.result) (lit< tt) (c.first_on-r4.ensures p) (c.xor-d4.ensures p) in
    let d5 = sum_bit AT_FIRST refl tt b q h 5 (part c.first_on-r5.result) (part c.xor-d5.result) (lit< tt) (c.first_on-r5.ensures p) (c.xor-d5.ensures p) in
    let d6 = sum_bit AT_FIRST refl tt b q h 6 (part c.first_on-r6.result) (part c.xor-d6.result) (lit< tt) (c.first_on-r6.ensures p) (c.xor-d6.ensures p) in
    let d7 = sum_bit AT_FIRST refl tt b q h 7 (part c.first_on-r7.result) (part c.xor-d7.result) (lit< tt) (c.first_on-r7.ensures p) (c.xor-d7.ensures p) in
    mixed_blocks b q _ _ _ _ _ _ _ _ h
    (mixed_bit b q 0 _ _ _ (part c.second_on.result) _ _ h (lit< tt) d7 r0 d0 (c.second_on.ensures p) (c.xor.ensures p) (c.xor-2.ensures p))
    (mixed_bit b q 1 _ _ _ (part c.second_on-2.result) _ _ h (lit< tt) (xor_bit_is _ _ _ _ _ d0 d7 (c.xor-3.ensures p)) r1 d1 (c.second_on-2.ensures p) (c.xor-4.ensures p) (c.xor-5.ensures p))
    (mixed_bit b q 2 _ _ _ (part c.second_on-3.result) _ _ h (lit< tt) d1 r2 d2 (c.second_on-3.ensures p) (c.xor-6.ensures p) (c.xor-7.ensures p))
    (mixed_bit b q 3 _ _ _ (part c.second_on-4.result) _ _ h (lit< tt) (xor_bit_is _ _ _ _ _ d2 d7 (c.xor-8.ensures p)) r3 d3 (c.second_on-4.ensures p) (c.xor-9.ensures p) (c.xor-10.ensures p))
    (mixed_bit b q 4 _ _ _ (part c.second_on-5.result) _ _ h (lit< tt) (xor_bit_is _ _ _ _ _ d3 d7 (c.xor-11.ensures p)) r4 d4 (c.second_on-5.ensures p) (c.xor-12.ensures p) (c.xor-13.ensures p))
    (mixed_bit b q 5 _ _ _ (part c.second_on-6.result) _ _ h (lit< tt) d4 r5 d5 (c.second_on-6.ensures p) (c.xor-14.ensures p) (c.xor-15.ensures p))
    (mixed_bit b q 6 _ _ _ (part c.second_on-7.result) _ _ h (lit< tt) d5 r6 d6 (c.second_on-7.ensures p) (c.xor-16.ensures p) (c.xor-17.ensures p))
    (mixed_bit b q 7 _ _ _ (part c.second_on-8.result) _ _ h (lit< tt) d6 r7 d7 (c.second_on-8.ensures p) (c.xor-18.ensures p) (c.xor-19.ensures p))
