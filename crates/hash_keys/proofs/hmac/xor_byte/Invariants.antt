use Rattle.std.proofs.Common.{◌≡◌, ◌<◌, ℕ, get_or, length, bit_xor}
use Rattle.hash_keys.proofs.hmac.xor_byte.Given as goal

-- the bytes so far are padded
abbrev pub invariant-loop-i : goal.invariant-loop-i
invariant-loop-i l = record {
  size : length l.out ≡ 128;
  done : (k : ℕ) → k < l.i → get_or l.out k 0 ≡ bit_xor (get_or l.block k 0) l.byte;
}
