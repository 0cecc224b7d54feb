use Rattle.std.proofs.Common.{◌≡◌, ◌*◌, length, take}
use Rattle.standards.specs.GcmSiv.{derived}
use Rattle.gcm.proofs.siv.derive_into.Given as goal

-- the pieces so far stand in front
abbrev pub invariant-loop-i : goal.invariant-loop-i
invariant-loop-i g l = record {
  size : length l.key ≡ length l.fn.key;
  done : take (8 * l.i) l.key ≡ derived (g.C.BlockCipherEncrypt.encrypts l.c) l.nonce l.first l.i;
}
