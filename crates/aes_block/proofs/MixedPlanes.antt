-- MixColumns, bit by bit: to 2 times the sum of a byte and the next of its column that next and the two behind it.
use Rattle.std.proofs.Common.{◌≡◌, ℕ, Bool, zero, suc, ◌+◌, ◌%◌, ◌<◌, eqb, eqb→eq, List, [], ◌∷◌, map, get_or, bit_xor, sym, ap, ◌∙◌, refl}
use Rattle.std.specs.Int.{bit_at}
use Rattle.std.specs.Int.Bits.{xor_assoc}
use Rattle.std.proofs.lemmas.Nat.Bits.{bit_at_xor}
use lib.Lanes.{zip2}
use Rattle.standards.specs.Aes.{mix_byte, mix_columns, times, times_terms}
use Rattle.standards.proofs.AesBytes.{mix_byte_below}
use Rattle.standards.proofs.AesUndo.{times_linear}
use Rattle.standards.proofs.Bytes.{agree, all_below, every_below}
use Rattle.aes_block.specs.BitPlanes.{AT_FIRST, AT_SECOND, AreBlocks, byte_of, picked_at}
use Rattle.aes_block.proofs.Cases.{below_16, below_8}
use Rattle.aes_block.proofs.ColumnSums.{sum_below, sum_of, taken_below, taken_of}
use Rattle.aes_block.proofs.LinearSteps.{IsBit, mapped, picked_bit, places, planes_of, same_bit, xor_bit_is}

-- bit j of 2 times x
abbrev pub two_bit : ℕ → ℕ → ℕ
two_bit x zero = bit_at x 7
two_bit x (suc zero) = (bit_at x 0 + bit_at x 7) % 2
two_bit x (suc (suc zero)) = bit_at x 1
two_bit x (suc (suc (suc zero))) = (bit_at x 2 + bit_at x 7) % 2
two_bit x (suc (suc (suc (suc zero)))) = (bit_at x 3 + bit_at x 7) % 2
two_bit x (suc (suc (suc (suc (suc j))))) = bit_at x (4 + j)

abbrev has_two : ℕ → ℕ → Bool
has_two x j = eqb (two_bit x j) (bit_at (times 2 x) j)

two_are : (x j : ℕ) → x < 256 → j < 8 → two_bit x j ≡ bit_at (times 2 x) j
unfolding times times_terms
two_are x j h l = eqb→eq _ _ (every_below (has_two x) 8 (every_below (λ x. all_below (has_two x) 8) 256 tt x h) j l)

thrice : (x : ℕ) → x < 256 → bit_xor (times 2 x) x ≡ times 3 x
unfolding times times_terms
thrice = agree (λ x. bit_xor (times 2 x) x) (times 3) tt

by_sum : (a b c d : ℕ) → b < 256 → bit_xor (bit_xor (times 2 (bit_xor a b)) b) (bit_xor c d) ≡ mix_byte a b c d
by_sum a b c d l =
    ap (λ v. bit_xor (bit_xor v b) (bit_xor c d)) (times_linear 2 a b)
    ∙ ap (λ v. bit_xor v (bit_xor c d)) (xor_assoc (times 2 a) (times 2 b) b ∙ ap (bit_xor (times 2 a)) (thrice b l))
    ∙ sym (xor_assoc (bit_xor (times 2 a) (times 3 b)) c d)

abbrev next_of : List (List ℕ) → ℕ → ℕ → ℕ
next_of b k i = taken_of AT_FIRST b k i

abbrev mixed_of : List (List ℕ) → ℕ → ℕ → ℕ
mixed_of b k i = mix_byte (byte_of b k i) (next_of b k i) (byte_of b (get_or AT_SECOND k 0) i) (next_of b (get_or AT_SECOND k 0) i)

-- plane j, of that of twice the sums, of the next bytes and of the sums two further
pub mixed_bit : (b q : List (List ℕ)) (j : ℕ) (w r d s x y : List ℕ) → AreBlocks b q → j < 8 → IsBit w (λ k i. two_bit (sum_of AT_FIRST b k i) j)
    → IsBit r (λ k i. bit_at (next_of b k i) j) → IsBit d (λ k i. bit_at (sum_of AT_FIRST b k i) j) → s ≡ picked_at d AT_SECOND
    → x ≡ zip2 bit_xor w r → y ≡ zip2 bit_xor x s → IsBit y (λ k i. bit_at (mixed_of b k i) j)
mixed_bit b q j w r d s x y h l twice next sums is sum all =
    let far = picked_bit AT_SECOND refl tt d s _ is sums in
    same_bit _ _ _ (λ k i n m.
    let sum = sum_of AT_FIRST b k i in
    let far_sum = sum_of AT_FIRST b (get_or AT_SECOND k 0) i in
    ap (λ z. ((z + bit_at (next_of b k i) j) % 2 + bit_at far_sum j) % 2) (two_are sum j (sum_below AT_FIRST refl tt b q h k i n m) l)
    ∙ ap (λ z. (z + bit_at far_sum j) % 2) (sym (bit_at_xor (times 2 sum) (next_of b k i) j))
    ∙ sym (bit_at_xor (bit_xor (times 2 sum) (next_of b k i)) far_sum j)
    ∙ ap (λ z. bit_at z j) (by_sum (byte_of b k i) (next_of b k i) (byte_of b (get_or AT_SECOND k 0) i) (next_of b (get_or AT_SECOND k 0) i) (taken_below AT_FIRST refl tt b q h k i n m)))
    (xor_bit_is _ _ _ _ _ (xor_bit_is _ _ _ _ _ twice next sum) far all)

column : (s : List ℕ) (k : ℕ) → k < 16 → get_or (mix_columns s) k 0 ≡ mix_byte (get_or s k 0) (get_or s (get_or AT_FIRST k 0) 0) (get_or s (get_or AT_SECOND k 0) 0) (get_or s (get_or AT_FIRST (get_or AT_SECOND k 0) 0) 0)
column s = below_16 (λ k. get_or (mix_columns s) k 0 ≡ mix_byte (get_or s k 0) (get_or s (get_or AT_FIRST k 0) 0) (get_or s (get_or AT_SECOND k 0) 0) (get_or s (get_or AT_FIRST (get_or AT_SECOND k 0) 0) 0)) refl refl refl refl refl refl refl refl refl refl refl refl refl refl refl refl

pub mixed_blocks : (b q : List (List ℕ)) (r0 r1 r2 r3 r4 r5 r6 r7 : List ℕ) → AreBlocks b q
    → IsBit r0 (λ k i. bit_at (mixed_of b k i) 0) → IsBit r1 (λ k i. bit_at (mixed_of b k i) 1) → IsBit r2 (λ k i. bit_at (mixed_of b k i) 2) → IsBit r3 (λ k i. bit_at (mixed_of b k i) 3)
    → IsBit r4 (λ k i. bit_at (mixed_of b k i) 4) → IsBit r5 (λ k i. bit_at (mixed_of b k i) 5) → IsBit r6 (λ k i. bit_at (mixed_of b k i) 6) → IsBit r7 (λ k i. bit_at (mixed_of b k i) 7)
    → AreBlocks (map mix_columns b) (r0 ∷ r1 ∷ r2 ∷ r3 ∷ r4 ∷ r5 ∷ r6 ∷ r7 ∷ [])
mixed_blocks b q r0 r1 r2 r3 r4 r5 r6 r7 h a0 a1 a2 a3 a4 a5 a6 a7 =
    let r = r0 ∷ r1 ∷ r2 ∷ r3 ∷ r4 ∷ r5 ∷ r6 ∷ r7 ∷ [] in
    let next = taken_below AT_FIRST refl tt b q h in
    let far = places AT_SECOND tt in
    mapped b r mix_columns (mixed_of b) h.count h.size (λ s e. refl) (λ k i l m. column (get_or b i []) k l)
    (planes_of (mixed_of b) r (λ k i l m. mix_byte_below _ _ _ _ (h.planes.below k i l m) (next k i l m) (h.planes.below _ i (far k l) m) (next _ i (far k l) m)) refl
    (below_8 (λ j. IsBit (get_or r j []) (λ k i. bit_at (mixed_of b k i) j)) a0 a1 a2 a3 a4 a5 a6 a7))
