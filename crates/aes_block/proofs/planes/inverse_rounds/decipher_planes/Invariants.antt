use Rattle.std.proofs.Common.{◌-◌, List, ℕ, map}
use Rattle.standards.specs.AesInverse.{inv_state_after}
use Rattle.aes_block.specs.BitPlanes.{AreBlocks, AreKeys}
use Rattle.aes_block.proofs.planes.inverse_rounds.decipher_planes.Given as goal

abbrev pub invariant-rounds : goal.invariant-rounds
invariant-rounds g l = (p : ℕ) (b ks : List (List ℕ)) → AreBlocks b (map (g.P.Plane.part p) l.fn.q) → AreKeys l.rounds ks l.keys → AreBlocks (map (λ v. inv_state_after l.rounds ks v (l.i - 1)) b) (map (g.P.Plane.part p) l.s)
