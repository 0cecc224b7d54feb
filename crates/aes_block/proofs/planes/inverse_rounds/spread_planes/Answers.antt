use Rattle.std.proofs.Common.{ℕ, List, [], ◌∷◌, get_or, lit<, refl}
use Rattle.aes_block.specs.BitPlanes.{AT_SECOND}
use Rattle.aes_block.proofs.ColumnSums.{sum_bit}
use Rattle.aes_block.proofs.LinearSteps.{xor_bit_is}
use Rattle.aes_block.proofs.PlaneParts.{blocks_of_parts}
use Rattle.aes_block.proofs.SpreadPlanes.{spread_bit, spread_blocks}
use Rattle.aes_block.proofs.planes.inverse_rounds.spread_planes.Goals as goal

pub returns : goal.returns
returns g c p b g_is =
    let part = g.P.Plane.part p in
    let q : List (List ℕ) = part (get_or c.args.q 0 c.index-q-0.result) ∷ part (get_or c.args.q 1 c.index-q-1.result) ∷ part (get_or c.args.q 2 c.index-q-2.result) ∷ part (get_or c.args.q 3 c.index-q-3.result) ∷ part (get_or c.args.q 4 c.index-q-4.result) ∷ part (get_or c.args.q 5 c.index-q-5.result) ∷ part (get_or c.args.q 6 c.index-q-6.result) ∷ part (get_or c.args.q 7 c.index-q-7.result) ∷ [] in
    let h = blocks_of_parts part c.args.q b g_is c.index-q-0.result c.index-q-1.result c.index-q-2.result c.index-q-3.result c.index-q-4.result c.index-q-5.result c.index-q-6.result c.index-q-7.result in
    let e0 = sum_bit AT_SECOND refl tt b q h 0 (part c.second_on.result) (part c.xor-e0.result) (lit< tt) (c.second_on.ensures p) (c.xor-e0.ensures p) in
    let e1 = sum_bit AT_SECOND refl tt b q h 1 (part c.second_on-2.result) (part c.xor-e1.result) (lit< tt) (c.second_on-2.ensures p) (c.xor-e1.ensures p) in
    let e2 = sum_bit AT_SECOND refl tt b q h 2 (part c.second_on-3.result) (part c.xor-e2.result) (lit< tt) (c.second_on-3.ensures p) (c.xor-e2.ensures p) in
    let e3 = sum_bit AT_SECOND refl tt b q h 3 (part c.second_on-4.result) (part c.xor-e3.result) (lit< tt) (c.second_on-4.ensures p) (c.xor-e3.ensures p) in
    let e4 = sum_bit AT_SECOND refl tt b q h 4 (part c.second_on-5.result) (part c.xor-e4.result) (lit< tt) (c.second_on-5.ensures p) (c.xor-e4.ensures p) in
    let e5 = sum_bit AT_SECOND refl tt b q h 5 (part c.second_on-6.result) (part c.xor-e5.result) (lit< tt) (c.second_on-6.ensures p) (c.xor-e5.ensures p) in
    let e6 = sum_bit AT_SECOND refl tt b q h 6 (part c.second_on-7.result) (part c.xor-e6.result) (lit< tt) (c.second_on-7.ensures p) (c.xor-e6.ensures p) in
    let e7 = sum_bit AT_SECOND refl tt b q h 7 (part c.second_on-8.result) (part c.xor-e7.result) (lit< tt) (c.second_on-8.ensures p) (c.xor-e7.ensures p) in
    let e67 = xor_bit_is _ _ _ _ _ e6 e7 (c.xor-e67.ensures p) in
    spread_blocks b q _ _ _ _ _ _ _ _ h
    (spread_bit b q 0 _ _ h (lit< tt) e6 (c.xor.ensures p))
    (spread_bit b q 1 _ _ h (lit< tt) e67 (c.xor-2.ensures p))
    (spread_bit b q 2 _ _ h (lit< tt) (xor_bit_is _ _ _ _ _ e0 e7 (c.xor-3.ensures p)) (c.xor-4.ensures p))
    (spread_bit b q 3 _ _ h (lit< tt) (xor_bit_is _ _ _ _ _ e1 e6 (c.xor-5.ensures p)) (c.xor-6.ensures p))
    (spread_bit b q 4 _ _ h (lit< tt) (xor_bit_is _ _ _ _ _ e2 e67 (c.xor-7.ensures p)) (c.xor-8.ensures p))
    (spread_bit b q 5 _ _ h (lit< tt) (xor_bit_is _ _ _ _ _ e3 e7 (c.xor-9.ensures p)) (c.xor-10.ensures p))
    (spread_bit b q 6 _ _ h (lit< tt) e4 (c.xor-11.ensures p))
    (spread_bit b q 7 _ _ h (lit< tt) e5 (c.xor-12.ensures p))
