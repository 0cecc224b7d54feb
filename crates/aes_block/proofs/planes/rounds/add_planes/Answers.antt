use Rattle.std.proofs.Common.{ℕ, List, [], ◌∷◌, get_or, subst, sym}
use Rattle.aes_block.specs.BitPlanes.{AreBlocks}
use Rattle.aes_block.proofs.LinearSteps.{added, same_eight}
use Rattle.aes_block.proofs.PlaneParts.{blocks_of_parts, key_of_parts}
use Rattle.aes_block.proofs.planes.rounds.add_planes.Goals as goal

pub returns : goal.returns
returns g c p b key h k =
    let part = g.P.Plane.part p in
    let q : List (List ℕ) = part (get_or c.args.q 0 c.index-q-0.result) ∷ part (get_or c.args.q 1 c.index-q-1.result) ∷ part (get_or c.args.q 2 c.index-q-2.result) ∷ part (get_or c.args.q 3 c.index-q-3.result) ∷ part (get_or c.args.q 4 c.index-q-4.result) ∷ part (get_or c.args.q 5 c.index-q-5.result) ∷ part (get_or c.args.q 6 c.index-q-6.result) ∷ part (get_or c.args.q 7 c.index-q-7.result) ∷ [] in
    let ks : List (List ℕ) = part (get_or c.args.k 0 c.index-k-0.result) ∷ part (get_or c.args.k 1 c.index-k-1.result) ∷ part (get_or c.args.k 2 c.index-k-2.result) ∷ part (get_or c.args.k 3 c.index-k-3.result) ∷ part (get_or c.args.k 4 c.index-k-4.result) ∷ part (get_or c.args.k 5 c.index-k-5.result) ∷ part (get_or c.args.k 6 c.index-k-6.result) ∷ part (get_or c.args.k 7 c.index-k-7.result) ∷ [] in
    subst (AreBlocks _) (sym (same_eight _ _ _ _ _ _ _ _ _ _ _ _ _ _ _ _ (c.xor.ensures p) (c.xor-2.ensures p) (c.xor-3.ensures p) (c.xor-4.ensures p) (c.xor-5.ensures p) (c.xor-6.ensures p) (c.xor-7.ensures p) (c.xor-8.ensures p)))
    (added b q ks key (blocks_of_parts part c.args.q b h c.index-q-0.result c.index-q-1.result c.index-q-2.result c.index-q-3.result c.index-q-4.result c.index-q-5.result c.index-q-6.result c.index-q-7.result) (key_of_parts part c.args.k key k c.index-k-0.result c.index-k-1.result c.index-k-2.result c.index-k-3.result c.index-k-4.result c.index-k-5.result c.index-k-6.result c.index-k-7.result))
