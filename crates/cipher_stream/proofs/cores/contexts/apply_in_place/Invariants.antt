use Rattle.std.proofs.Common.{◌≡◌, ◌++◌, ◌≤◌, ◌-◌, take, drop, length}
use Rattle.standards.specs.Lists.{xor_bytes}
use Rattle.cipher_stream.specs.Keystream.{stream_of, applied, IsMoved}
use Rattle.cipher_stream.proofs.cores.contexts.apply_in_place.Given as goal

abbrev pub invariant-loop-at : goal.invariant-loop-at
invariant-loop-at g l =
    let k = g.K.StreamCipherBackend in
    record {
      within : l.at ≤ length l.initial.output;
      kept : k.keeps l.initial.backend l.backend;
      same_lanes : k.lanes l.backend ≡ k.lanes l.initial.backend;
      is_moved : IsMoved (k.keystream l.initial.backend) l.at (k.keystream l.backend);
      so_far : l.output ≡ applied xor_bytes (stream_of (k.keystream l.initial.backend)) (take l.at l.initial.output) ++ drop l.at l.initial.output;
    }

abbrev pub decreases-loop-at : goal.decreases-loop-at
decreases-loop-at g l = length l.initial.output - l.at
