use Rattle.std.proofs.Common.{◌≡◌, ◌<◌, ℕ, [], length, get_or}
use Rattle.aes_block.specs.BitPlanes.{IsKey, planes_at}
use Rattle.aes_block.proofs.planes.round_key_planes.Given as goal

abbrev pub invariant-each : goal.invariant-each
invariant-each l = record {
  size : length l.planes ≡ 15;
  done : (n : ℕ) → n < l.r → IsKey (get_or l.keys n []) (planes_at l.planes n);
}
