use Rattle.std.proofs.Common.{◌≡◌, List, ℕ, [], ◌∷◌, get_or, refl}
use Rattle.aes_block.specs.BitPlanes.{AT_SHIFT, picked_at}
use Rattle.aes_block.proofs.LinearSteps.{moved_bytes}
use Rattle.aes_block.proofs.Cases.{below_8}
use Rattle.aes_block.proofs.PlaneParts.{blocks_of_parts}
use Rattle.aes_block.proofs.planes.rounds.shift_planes.Goals as goal

pub returns : goal.returns
returns g c p b h =
    let part = g.P.Plane.part p in
    let q : List (List ℕ) = part (get_or c.args.q 0 c.index-q-0.result) ∷ part (get_or c.args.q 1 c.index-q-1.result) ∷ part (get_or c.args.q 2 c.index-q-2.result) ∷ part (get_or c.args.q 3 c.index-q-3.result) ∷ part (get_or c.args.q 4 c.index-q-4.result) ∷ part (get_or c.args.q 5 c.index-q-5.result) ∷ part (get_or c.args.q 6 c.index-q-6.result) ∷ part (get_or c.args.q 7 c.index-q-7.result) ∷ [] in
    let r : List (List ℕ) = part c.shift_rows.result ∷ part c.shift_rows-2.result ∷ part c.shift_rows-3.result ∷ part c.shift_rows-4.result ∷ part c.shift_rows-5.result ∷ part c.shift_rows-6.result ∷ part c.shift_rows-7.result ∷ part c.shift_rows-8.result ∷ [] in
    moved_bytes AT_SHIFT refl tt b q r (blocks_of_parts part c.args.q b h c.index-q-0.result c.index-q-1.result c.index-q-2.result c.index-q-3.result c.index-q-4.result c.index-q-5.result c.index-q-6.result c.index-q-7.result) refl
    (below_8 (λ j. get_or r j [] ≡ picked_at (get_or q j []) AT_SHIFT) (c.shift_rows.ensures p) (c.shift_rows-2.ensures p) (c.shift_rows-3.ensures p) (c.shift_rows-4.ensures p) (c.shift_rows-5.ensures p) (c.shift_rows-6.ensures p) (c.shift_rows-7.ensures p) (c.shift_rows-8.ensures p))
