use Rattle.std.proofs.Common.{◌≡◌, ◌++◌, map, length, take, drop, ◌≤◌, ◌-◌}
use Rattle.cipher.specs.Buffers.{pick}
use Rattle.cipher.proofs.blocks.contexts.decrypt_in_parts.Given as goal

abbrev pub invariant-loop-at : goal.invariant-loop-at
invariant-loop-at g l = record {
  within : l.at ≤ length l.initial.output;
  so_far : l.output ≡ map (g.K.BlockCipherDecBackend.decrypts l.backend) (take l.at (pick l.input l.initial.output)) ++ drop l.at l.initial.output;
}

abbrev pub decreases-loop-at : goal.decreases-loop-at
decreases-loop-at g l = length l.initial.output - l.at
