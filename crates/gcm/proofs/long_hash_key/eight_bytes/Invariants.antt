use Rattle.std.proofs.Common.{◌≡◌, ℕ, ◌+◌, ◌*◌, ◌/◌, ◌^◌, ◌≤◌, get_or}
use Rattle.gcm.specs.Carries.{AreEightBytes, IsSummed}
use Rattle.gcm.proofs.long_hash_key.eight_bytes.Given as goal

-- the bytes that are left, and what is summed of the others
abbrev pub invariant-loop-k : goal.invariant-loop-k
invariant-loop-k l = record {
  of_a : l.a ≡ get_or l.fn.x 0 0 / 2 ^ (8 * l.k);
  of_b : l.b ≡ get_or l.fn.x 1 0 / 2 ^ (8 * l.k);
  of_c : l.c ≡ get_or l.fn.x 2 0 / 2 ^ (8 * l.k);
  of_d : l.d ≡ get_or l.fn.x 3 0 / 2 ^ (8 * l.k);
  summed : (a b c d i : ℕ) → i ≤ 8 → AreEightBytes a b c d i l.fn.x
      → IsSummed l.p l.q l.r l.s a b c d i l.fn.from.0 l.fn.from.1
      → IsSummed l.p l.q l.r l.s a b c d (i + l.k) l.high l.low;
}
