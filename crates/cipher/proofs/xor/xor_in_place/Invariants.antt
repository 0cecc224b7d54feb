use Rattle.std.proofs.Common.{◌≡◌, ◌*◌}
use Rattle.cipher.proofs.Lanes.{done}
use Rattle.cipher.proofs.xor.xor_in_place.Given as goal

abbrev pub invariant-lanes : goal.invariant-lanes
invariant-lanes l = l.output ≡ done (16 * l.i) l.fn.output l.bytes

abbrev pub invariant-rest : goal.invariant-rest
invariant-rest l = l.output ≡ done l.i l.fn.output l.bytes
