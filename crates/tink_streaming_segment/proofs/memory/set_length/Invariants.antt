use Rattle.std.proofs.Common.{◌≡◌, ◌≤◌, ◌-◌, vec_len, vec_capacity}
use Rattle.tink_streaming_segment.proofs.memory.set_length.Given as goal

abbrev pub invariant-loop-bytes : goal.invariant-loop-bytes
invariant-loop-bytes l = record {
  within : vec_len l.bytes ≤ l.n;
  capacity : vec_capacity l.bytes ≡ vec_capacity l.fn.bytes;
}

abbrev pub decreases-loop-bytes : goal.decreases-loop-bytes
decreases-loop-bytes l = l.n - vec_len l.bytes
