use Rattle.std.proofs.Common.{◌≡◌, take, true, false}
use Rattle.tink_core_subtle.proofs.hashes.constant_time_compare.Given as goal

abbrev pub invariant-loop-i : goal.invariant-loop-i
invariant-loop-i l = record {
  same : l.differ ≡ false → take l.i l.a ≡ take l.i l.b;
  other : l.differ ≡ true → l.a ≡ l.b → ⊥;
}
