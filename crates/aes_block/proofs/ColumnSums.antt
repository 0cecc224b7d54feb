-- Each byte and one of the others in its column, bit by bit.
use Rattle.std.proofs.Common.{◌≡◌, ℕ, ◌<◌, T, ltb, List, [], length, get_or, bit_xor, sym}
use Rattle.std.specs.Int.{bit_at}
use Rattle.std.proofs.lemmas.Nat.{xor_lt}
use Rattle.std.proofs.lemmas.Nat.Bits.{bit_at_xor}
use lib.Lanes.{zip2}
use Rattle.standards.proofs.Bytes.{all_below}
use Rattle.aes_block.specs.BitPlanes.{AreBlocks, byte_of, picked_at}
use Rattle.aes_block.proofs.LinearSteps.{IsBit, picked_bit, places, plane_bit, same_bit, xor_bit_is}

-- the byte that each place takes, and its sum with that of the place
abbrev pub taken_of : List ℕ → List (List ℕ) → ℕ → ℕ → ℕ
taken_of at b k i = byte_of b (get_or at k 0) i

abbrev pub sum_of : List ℕ → List (List ℕ) → ℕ → ℕ → ℕ
sum_of at b k i = bit_xor (byte_of b k i) (taken_of at b k i)

module _ (at : List ℕ) (size : length at ≡ 16) (within : T (all_below (λ k. ltb (get_or at k 0) 16) 16)) (b q : List (List ℕ)) (h : AreBlocks b q) where
  pub taken_below : (k i : ℕ) → k < 16 → i < 8 → taken_of at b k i < 256
  taken_below k i l m = h.planes.below (get_or at k 0) i (places at within k l) m

  pub sum_below : (k i : ℕ) → k < 16 → i < 8 → sum_of at b k i < 256
  sum_below k i l m = xor_lt 8 (byte_of b k i) (taken_of at b k i) (h.planes.below k i l m) (taken_below k i l m)

  -- plane j of the bytes that are taken, and of the sums
  pub taken_bit : (j : ℕ) (r : List ℕ) → j < 8 → r ≡ picked_at (get_or q j []) at → IsBit r (λ k i. bit_at (taken_of at b k i) j)
  taken_bit j r l is = picked_bit at size within (get_or q j []) r _ is (plane_bit (byte_of b) q h.planes j l)

  pub sum_bit : (j : ℕ) (r s : List ℕ) → j < 8 → r ≡ picked_at (get_or q j []) at → s ≡ zip2 bit_xor (get_or q j []) r → IsBit s (λ k i. bit_at (sum_of at b k i) j)
  sum_bit j r s l is sum =
      same_bit _ _ _ (λ k i l m. sym (bit_at_xor (byte_of b k i) (taken_of at b k i) j))
      (xor_bit_is (get_or q j []) r s _ _ (plane_bit (byte_of b) q h.planes j l) (taken_bit j r l is) sum)
