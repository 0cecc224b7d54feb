use Rattle.std.proofs.Common.{◌≡◌, ◌++◌, ◌≤◌, ◌-◌, drop, length}
use Rattle.cipher_stream.specs.Keystream.{next, IsMoved}
use Rattle.cipher_stream.proofs.cores.contexts.write_in_parts.Given as goal

abbrev pub invariant-loop-at : goal.invariant-loop-at
invariant-loop-at g l =
    let k = g.K.StreamCipherBackend in
    record {
      within : l.at ≤ length l.initial.blocks;
      kept : k.keeps l.initial.backend l.backend;
      same_lanes : k.lanes l.backend ≡ k.lanes l.initial.backend;
      is_moved : IsMoved (k.keystream l.initial.backend) l.at (k.keystream l.backend);
      so_far : l.blocks ≡ next l.at (k.keystream l.initial.backend) ++ drop l.at l.initial.blocks;
    }

abbrev pub decreases-loop-at : goal.decreases-loop-at
decreases-loop-at g l = length l.initial.blocks - l.at
