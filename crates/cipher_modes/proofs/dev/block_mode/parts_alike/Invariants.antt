use Rattle.std.proofs.Common.{◌≡◌, ◌-◌, length}
use Rattle.cipher_modes.proofs.dev.block_mode.parts_alike.Given as goal

abbrev pub invariant-loop-at : goal.invariant-loop-at
invariant-loop-at g l = l.mode ≡ l.other

abbrev pub decreases-loop-at : goal.decreases-loop-at
decreases-loop-at g l = length l.bytes - l.at
