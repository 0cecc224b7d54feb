use Rattle.std.proofs.Common.{◌≡◌, ◌-◌, ◌≤◌, drop, length, replicate}
use Rattle.cipher_modes.proofs.padding.end_of_text.Given as goal

abbrev pub invariant-loop-end : goal.invariant-loop-end
invariant-loop-end l = record {
  from : l.front ≤ l.end;
  within : l.end ≤ length l.bytes;
  zeros : drop l.end l.bytes ≡ replicate (length l.bytes - l.end) 0;
}

abbrev pub decreases-loop-end : goal.decreases-loop-end
decreases-loop-end l = l.end
