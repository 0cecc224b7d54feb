use Rattle.std.proofs.Common.{◌≡◌, ◌≤◌, ◌-◌, replicate, vec_len, vec_capacity}
use Rattle.tink_streaming_segment.proofs.segment_traits.zeros.Given as goal

abbrev pub invariant-loop-bytes : goal.invariant-loop-bytes
invariant-loop-bytes l = record {
  value : l.bytes.items ≡ replicate (vec_len l.bytes) 0;
  within : vec_len l.bytes ≤ l.n;
  capacity : vec_capacity l.bytes ≡ l.n;
}

abbrev pub decreases-loop-bytes : goal.decreases-loop-bytes
decreases-loop-bytes l = l.n - vec_len l.bytes
