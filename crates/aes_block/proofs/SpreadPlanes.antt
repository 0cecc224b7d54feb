-- The circulant 5, 0, 4, 0 on columns, bit by bit.
use Rattle.std.proofs.Common.{◌≡◌, ℕ, Bool, zero, suc, ◌+◌, ◌%◌, ◌<◌, eqb, eqb→eq, ltb, ltb→lt, List, [], ◌∷◌, map, get_or, bit_xor, sym, ap, ◌∙◌, refl}
use Rattle.std.specs.Int.{bit_at}
use Rattle.std.proofs.lemmas.Nat.{xor_lt}
use Rattle.std.proofs.lemmas.Nat.Bits.{bit_at_xor}
use lib.Lanes.{zip2}
use Rattle.standards.specs.Aes.{times, times_terms}
use Rattle.standards.proofs.Bytes.{all_below, every_below}
use Rattle.aes_block.specs.BitPlanes.{AT_SECOND, AreBlocks, byte_of, spread, spread_byte}
use Rattle.aes_block.proofs.Cases.{below_8}
use Rattle.aes_block.proofs.ColumnSums.{sum_below, sum_of, taken_of}
use Rattle.aes_block.proofs.LinearSteps.{IsBit, mapped, plane_bit, planes_of, same_bit, xor_bit_is}
use Rattle.aes_block.proofs.Cases.{below_16}

-- bit j of 4 times x
abbrev pub four_bit : ℕ → ℕ → ℕ
four_bit x zero = bit_at x 6
four_bit x (suc zero) = (bit_at x 6 + bit_at x 7) % 2
four_bit x (suc (suc zero)) = (bit_at x 0 + bit_at x 7) % 2
four_bit x (suc (suc (suc zero))) = (bit_at x 1 + bit_at x 6) % 2
four_bit x (suc (suc (suc (suc zero)))) = (bit_at x 2 + (bit_at x 6 + bit_at x 7) % 2) % 2
four_bit x (suc (suc (suc (suc (suc zero))))) = (bit_at x 3 + bit_at x 7) % 2
four_bit x (suc (suc (suc (suc (suc (suc zero)))))) = bit_at x 4
four_bit x (suc (suc (suc (suc (suc (suc (suc j))))))) = bit_at x 5

abbrev has_four : ℕ → ℕ → Bool
has_four x j = eqb (four_bit x j) (bit_at (times 4 x) j)

four_are : (x j : ℕ) → x < 256 → j < 8 → four_bit x j ≡ bit_at (times 4 x) j
unfolding times times_terms
four_are x j h l = eqb→eq _ _ (every_below (has_four x) 8 (every_below (λ x. all_below (has_four x) 8) 256 tt x h) j l)

four_below : (x : ℕ) → x < 256 → times 4 x < 256
unfolding times times_terms
four_below x h = ltb→lt _ _ (every_below (λ x. ltb (times 4 x) 256) 256 tt x h)

abbrev spread_of : List (List ℕ) → ℕ → ℕ → ℕ
spread_of b k i = spread_byte (byte_of b k i) (taken_of AT_SECOND b k i)

-- plane j of what is made of the sums
pub spread_bit : (b q : List (List ℕ)) (j : ℕ) (w r : List ℕ) → AreBlocks b q → j < 8 → IsBit w (λ k i. four_bit (sum_of AT_SECOND b k i) j)
    → r ≡ zip2 bit_xor (get_or q j []) w → IsBit r (λ k i. bit_at (spread_of b k i) j)
spread_bit b q j w r h l is sum =
    same_bit _ _ _ (λ k i n m.
    ap (λ z. (bit_at (byte_of b k i) j + z) % 2) (four_are (sum_of AT_SECOND b k i) j (sum_below AT_SECOND refl tt b q h k i n m) l)
    ∙ sym (bit_at_xor (byte_of b k i) (times 4 (sum_of AT_SECOND b k i)) j)) (xor_bit_is (get_or q j []) w r _ _ (plane_bit (byte_of b) q h.planes j l) is sum)

column : (s : List ℕ) (k : ℕ) → k < 16 → get_or (spread s) k 0 ≡ spread_byte (get_or s k 0) (get_or s (get_or AT_SECOND k 0) 0)
column s = below_16 (λ k. get_or (spread s) k 0 ≡ spread_byte (get_or s k 0) (get_or s (get_or AT_SECOND k 0) 0)) refl refl refl refl refl refl refl refl refl refl refl refl refl refl refl refl

pub spread_blocks : (b q : List (List ℕ)) (r0 r1 r2 r3 r4 r5 r6 r7 : List ℕ) → AreBlocks b q
    → IsBit r0 (λ k i. bit_at (spread_of b k i) 0) → IsBit r1 (λ k i. bit_at (spread_of b k i) 1) → IsBit r2 (λ k i. bit_at (spread_of b k i) 2) → IsBit r3 (λ k i. bit_at (spread_of b k i) 3)
    → IsBit r4 (λ k i. bit_at (spread_of b k i) 4) → IsBit r5 (λ k i. bit_at (spread_of b k i) 5) → IsBit r6 (λ k i. bit_at (spread_of b k i) 6) → IsBit r7 (λ k i. bit_at (spread_of b k i) 7)
    → AreBlocks (map spread b) (r0 ∷ r1 ∷ r2 ∷ r3 ∷ r4 ∷ r5 ∷ r6 ∷ r7 ∷ [])
spread_blocks b q r0 r1 r2 r3 r4 r5 r6 r7 h a0 a1 a2 a3 a4 a5 a6 a7 =
    let r = r0 ∷ r1 ∷ r2 ∷ r3 ∷ r4 ∷ r5 ∷ r6 ∷ r7 ∷ [] in
    mapped b r spread (spread_of b) h.count h.size (λ s e. refl) (λ k i l m. column (get_or b i []) k l)
    (planes_of (spread_of b) r (λ k i l m. xor_lt 8 (byte_of b k i) (times 4 (sum_of AT_SECOND b k i)) (h.planes.below k i l m) (four_below (sum_of AT_SECOND b k i) (sum_below AT_SECOND refl tt b q h k i l m))) refl
    (below_8 (λ j. IsBit (get_or r j []) (λ k i. bit_at (spread_of b k i) j)) a0 a1 a2 a3 a4 a5 a6 a7))
