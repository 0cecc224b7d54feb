-- The steps of AES and of its inverse undo each other.
use Rattle.std.proofs.Common.{◌≡◌, ℕ, zero, suc, ◌*◌, ◌/◌, ◌%◌, ◌<◌, List, [], ◌∷◌, ◌++◌, map, length, bit_xor, refl, sym, ap, ap₂, ◌∙◌, arith}
use Rattle.std.proofs.lemmas.Nat.{xor_comm, xor_mod, xor_shr}
use Rattle.std.proofs.lemmas.Simd.{pick_l_whole, length-zip2}
use Rattle.std.specs.Int.Bits.{xor_assoc, xor_zero_r}
use Rattle.std.specs.Prelude.{slice_index}
use Rattle.standards.specs.Lists.{AreBytes, xor_bytes}
use Rattle.standards.specs.Aes.{add_round_key, mix_byte, mix_column, mix_columns, shift_rows, sub_bytes, times, times_terms, xtime}
use Rattle.standards.specs.AesInverse.{inv_mix_byte, inv_mix_column, inv_mix_columns, inv_shift_rows, inv_sub_bytes}
use Rattle.standards.proofs.Bytes.{agree, inv_sub_byte-sub_byte, sub_byte-inv_sub_byte}
use Rattle.standards.proofs.Xor.{bits_times, exchange}
use Rattle.standards.proofs.ListFacts.{xor_bytes_twice, zip2-xor_bytes}

terms_linear : (n a u v : ℕ) → times_terms n a (bit_xor u v) ≡ bit_xor (times_terms n a u) (times_terms n a v)
unfolding times_terms
terms_linear zero a u v = refl
terms_linear (suc n) a u v =
    ap (λ w. bit_xor (w * a) (times_terms n (xtime a) (bit_xor u v / 2))) (xor_mod u v 1)
    ∙ ap (λ w. bit_xor w (times_terms n (xtime a) (bit_xor u v / 2))) (bits_times (u % 2) (v % 2) a (omega arith) (omega arith))
    ∙ ap (λ w. bit_xor (bit_xor (u % 2 * a) (v % 2 * a)) w) (ap (times_terms n (xtime a)) (xor_shr u v 1) ∙ terms_linear n (xtime a) (u / 2) (v / 2))
    ∙ exchange (u % 2 * a) (v % 2 * a) (times_terms n (xtime a) (u / 2)) (times_terms n (xtime a) (v / 2))

-- the product is linear in its second factor
pub times_linear : (k u v : ℕ) → times k (bit_xor u v) ≡ bit_xor (times k u) (times k v)
unfolding times
times_linear k u v = terms_linear 8 k u v

abbrev sum4 : ℕ → ℕ → ℕ → ℕ → ℕ
sum4 a b c d = bit_xor (bit_xor (bit_xor a b) c) d

linear4 : (k a b c d : ℕ) → times k (sum4 a b c d) ≡ sum4 (times k a) (times k b) (times k c) (times k d)
linear4 k a b c d =
    times_linear k (bit_xor (bit_xor a b) c) d
    ∙ ap (λ v. bit_xor v (times k d)) (times_linear k (bit_xor a b) c ∙ ap (λ v. bit_xor v (times k c)) (times_linear k a b))

turn : (a b c d : ℕ) → sum4 a b c d ≡ sum4 d a b c
turn a b c d =
    xor_comm (bit_xor (bit_xor a b) c) d
    ∙ sym (xor_assoc d (bit_xor a b) c) ∙ ap (λ v. bit_xor v c) (sym (xor_assoc d a b))

pairs : (a b c d p q r s : ℕ) → bit_xor (sum4 a b c d) (sum4 p q r s) ≡ sum4 (bit_xor a p) (bit_xor b q) (bit_xor c r) (bit_xor d s)
pairs a b c d p q r s =
    exchange (bit_xor (bit_xor a b) c) d (bit_xor (bit_xor p q) r) s
    ∙ ap (λ v. bit_xor v (bit_xor d s)) (exchange (bit_xor a b) c (bit_xor p q) r ∙ ap (λ v. bit_xor v (bit_xor c r)) (exchange a b p q))

alone : (w x y z a : ℕ) → w ≡ a → x ≡ 0 → y ≡ 0 → z ≡ 0 → sum4 w x y z ≡ a
alone w x y z a e f g h = rw (e, f, g, h) (ap (λ v. bit_xor (bit_xor v 0) 0) (xor_zero_r a) ∙ ap (λ v. bit_xor v 0) (xor_zero_r a) ∙ xor_zero_r a)

-- four rows of four, added by columns
columns : (a a1 a2 a3 b b1 b2 b3 c c1 c2 c3 d d1 d2 d3 x : ℕ) → sum4 a a1 a2 a3 ≡ x → sum4 b b1 b2 b3 ≡ 0 → sum4 c c1 c2 c3 ≡ 0 → sum4 d d1 d2 d3 ≡ 0
    → sum4 (sum4 a b c d) (sum4 a1 b1 c1 d1) (sum4 a2 b2 c2 d2) (sum4 a3 b3 c3 d3) ≡ x
columns a a1 a2 a3 b b1 b2 b3 c c1 c2 c3 d d1 d2 d3 x e f g h =
    ap (λ v. bit_xor (bit_xor v (sum4 a2 b2 c2 d2)) (sum4 a3 b3 c3 d3)) (pairs a b c d a1 b1 c1 d1)
    ∙ ap (λ v. bit_xor v (sum4 a3 b3 c3 d3)) (pairs (bit_xor a a1) (bit_xor b b1) (bit_xor c c1) (bit_xor d d1) a2 b2 c2 d2)
    ∙ pairs (bit_xor (bit_xor a a1) a2) (bit_xor (bit_xor b b1) b2) (bit_xor (bit_xor c c1) c2) (bit_xor (bit_xor d d1) d2) a3 b3 c3 d3
    ∙ alone (sum4 a a1 a2 a3) (sum4 b b1 b2 b3) (sum4 c c1 c2 c3) (sum4 d d1 d2 d3) x e f g h

mixed_a : (x : ℕ) → x < 256 → sum4 (times 14 (times 2 x)) (times 11 x) (times 13 x) (times 9 (times 3 x)) ≡ x
unfolding times times_terms
mixed_a = agree (λ x. sum4 (times 14 (times 2 x)) (times 11 x) (times 13 x) (times 9 (times 3 x))) (λ x. x) tt

mixed_b : (x : ℕ) → x < 256 → sum4 (times 14 (times 3 x)) (times 11 (times 2 x)) (times 13 x) (times 9 x) ≡ 0
unfolding times times_terms
mixed_b = agree (λ x. sum4 (times 14 (times 3 x)) (times 11 (times 2 x)) (times 13 x) (times 9 x)) (λ x. 0) tt

mixed_c : (x : ℕ) → x < 256 → sum4 (times 14 x) (times 11 (times 3 x)) (times 13 (times 2 x)) (times 9 x) ≡ 0
unfolding times times_terms
mixed_c = agree (λ x. sum4 (times 14 x) (times 11 (times 3 x)) (times 13 (times 2 x)) (times 9 x)) (λ x. 0) tt

mixed_d : (x : ℕ) → x < 256 → sum4 (times 14 x) (times 11 x) (times 13 (times 3 x)) (times 9 (times 2 x)) ≡ 0
unfolding times times_terms
mixed_d = agree (λ x. sum4 (times 14 x) (times 11 x) (times 13 (times 3 x)) (times 9 (times 2 x))) (λ x. 0) tt

-- a row of InvMixColumns over the rows of MixColumns gives the first byte
pub inv_mix_byte-mix_byte : (a b c d : ℕ) → a < 256 → b < 256 → c < 256 → d < 256 → inv_mix_byte (mix_byte a b c d) (mix_byte b c d a) (mix_byte c d a b) (mix_byte d a b c) ≡ a
inv_mix_byte-mix_byte a b c d A B C D =
    let r0 = linear4 14 (times 2 a) (times 3 b) c d in
    let r1 = linear4 11 (times 2 b) (times 3 c) d a ∙ turn (times 11 (times 2 b)) (times 11 (times 3 c)) (times 11 d) (times 11 a) in
    let r2 = linear4 13 (times 2 c) (times 3 d) a b ∙ turn (times 13 (times 2 c)) (times 13 (times 3 d)) (times 13 a) (times 13 b)
    ∙ turn (times 13 b) (times 13 (times 2 c)) (times 13 (times 3 d)) (times 13 a) in
    let r3 = linear4 9 (times 2 d) (times 3 a) b c ∙ sym (turn (times 9 (times 3 a)) (times 9 b) (times 9 c) (times 9 (times 2 d))) in
    rw (r0, r1, r2, r3) (columns (times 14 (times 2 a)) (times 11 a) (times 13 a) (times 9 (times 3 a)) (times 14 (times 3 b)) (times 11 (times 2 b)) (times 13 b) (times 9 b) (times 14 c) (times 11 (times 3 c)) (times 13 (times 2 c)) (times 9 c) (times 14 d) (times 11 d) (times 13 (times 3 d)) (times 9 (times 2 d)) a (mixed_a a A) (mixed_b b B) (mixed_c c C) (mixed_d d D))

inv_mixed_a : (x : ℕ) → x < 256 → sum4 (times 2 (times 14 x)) (times 3 (times 9 x)) (times 13 x) (times 11 x) ≡ x
unfolding times times_terms
inv_mixed_a = agree (λ x. sum4 (times 2 (times 14 x)) (times 3 (times 9 x)) (times 13 x) (times 11 x)) (λ x. x) tt

inv_mixed_b : (x : ℕ) → x < 256 → sum4 (times 2 (times 11 x)) (times 3 (times 14 x)) (times 9 x) (times 13 x) ≡ 0
unfolding times times_terms
inv_mixed_b = agree (λ x. sum4 (times 2 (times 11 x)) (times 3 (times 14 x)) (times 9 x) (times 13 x)) (λ x. 0) tt

inv_mixed_c : (x : ℕ) → x < 256 → sum4 (times 2 (times 13 x)) (times 3 (times 11 x)) (times 14 x) (times 9 x) ≡ 0
unfolding times times_terms
inv_mixed_c = agree (λ x. sum4 (times 2 (times 13 x)) (times 3 (times 11 x)) (times 14 x) (times 9 x)) (λ x. 0) tt

inv_mixed_d : (x : ℕ) → x < 256 → sum4 (times 2 (times 9 x)) (times 3 (times 13 x)) (times 11 x) (times 14 x) ≡ 0
unfolding times times_terms
inv_mixed_d = agree (λ x. sum4 (times 2 (times 9 x)) (times 3 (times 13 x)) (times 11 x) (times 14 x)) (λ x. 0) tt

-- and the other way
pub mix_byte-inv_mix_byte : (a b c d : ℕ) → a < 256 → b < 256 → c < 256 → d < 256
    → mix_byte (inv_mix_byte a b c d) (inv_mix_byte b c d a) (inv_mix_byte c d a b) (inv_mix_byte d a b c) ≡ a
mix_byte-inv_mix_byte a b c d A B C D =
    let r0 = linear4 2 (times 14 a) (times 11 b) (times 13 c) (times 9 d) in
    let r1 = linear4 3 (times 14 b) (times 11 c) (times 13 d) (times 9 a) ∙ turn (times 3 (times 14 b)) (times 3 (times 11 c)) (times 3 (times 13 d)) (times 3 (times 9 a)) in
    let r2 = turn (times 14 c) (times 11 d) (times 13 a) (times 9 b) ∙ turn (times 9 b) (times 14 c) (times 11 d) (times 13 a) in
    let r3 = sym (turn (times 11 a) (times 13 b) (times 9 c) (times 14 d)) in
    ap₂ bit_xor (ap₂ bit_xor (ap₂ bit_xor r0 r1) r2) r3
    ∙ columns (times 2 (times 14 a)) (times 3 (times 9 a)) (times 13 a) (times 11 a) (times 2 (times 11 b)) (times 3 (times 14 b)) (times 9 b) (times 13 b) (times 2 (times 13 c)) (times 3 (times 11 c)) (times 14 c) (times 9 c) (times 2 (times 9 d)) (times 3 (times 13 d)) (times 11 d) (times 14 d) a (inv_mixed_a a A) (inv_mixed_b b B) (inv_mixed_c c C) (inv_mixed_d d D)

four : (a b c d p q r s : ℕ) → a ≡ p → b ≡ q → c ≡ r → d ≡ s → a ∷ b ∷ c ∷ d ∷ [] ≡ p ∷ q ∷ r ∷ s ∷ []
four a b c d p q r s e f g h = cc

undo_column : (a b c d : ℕ) → a < 256 → b < 256 → c < 256 → d < 256 → inv_mix_column (mix_byte a b c d) (mix_byte b c d a) (mix_byte c d a b) (mix_byte d a b c) ≡ a ∷ b ∷ c ∷ d ∷ []
undo_column a b c d A B C D =
    four _ _ _ _ a b c d (inv_mix_byte-mix_byte a b c d A B C D) (inv_mix_byte-mix_byte b c d a B C D A) (inv_mix_byte-mix_byte c d a b C D A B) (inv_mix_byte-mix_byte d a b c D A B C)

redo_column : (a b c d : ℕ) → a < 256 → b < 256 → c < 256 → d < 256 → mix_column (inv_mix_byte a b c d) (inv_mix_byte b c d a) (inv_mix_byte c d a b) (inv_mix_byte d a b c) ≡ a ∷ b ∷ c ∷ d ∷ []
redo_column a b c d A B C D =
    four _ _ _ _ a b c d (mix_byte-inv_mix_byte a b c d A B C D) (mix_byte-inv_mix_byte b c d a B C D A) (mix_byte-inv_mix_byte c d a b C D A B) (mix_byte-inv_mix_byte d a b c D A B C)

joined4 : (a b c d p q r s : List ℕ) → a ≡ p → b ≡ q → c ≡ r → d ≡ s → a ++ b ++ c ++ d ≡ p ++ q ++ r ++ s
joined4 a b c d p q r s e f g h = cc

-- a block by its sixteen places
sixteen : (s : List ℕ) → length s ≡ 16 → map (λ k. slice_index s k) (0 ∷ 1 ∷ 2 ∷ 3 ∷ 4 ∷ 5 ∷ 6 ∷ 7 ∷ 8 ∷ 9 ∷ 10 ∷ 11 ∷ 12 ∷ 13 ∷ 14 ∷ 15 ∷ []) ≡ s
sixteen s e = pick_l_whole 0 s 16 e

-- InvMixColumns undoes MixColumns
pub inv_mix_columns-mix_columns : (s : List ℕ) → length s ≡ 16 → AreBytes s → inv_mix_columns (mix_columns s) ≡ s
inv_mix_columns-mix_columns s e h =
    joined4 _ _ _ _ _ _ _ _ (undo_column _ _ _ _ (h 0) (h 1) (h 2) (h 3)) (undo_column _ _ _ _ (h 4) (h 5) (h 6) (h 7)) (undo_column _ _ _ _ (h 8) (h 9) (h 10) (h 11)) (undo_column _ _ _ _ (h 12) (h 13) (h 14) (h 15))
    ∙ sixteen s e

-- MixColumns undoes InvMixColumns
pub mix_columns-inv_mix_columns : (s : List ℕ) → length s ≡ 16 → AreBytes s → mix_columns (inv_mix_columns s) ≡ s
mix_columns-inv_mix_columns s e h =
    joined4 _ _ _ _ _ _ _ _ (redo_column _ _ _ _ (h 0) (h 1) (h 2) (h 3)) (redo_column _ _ _ _ (h 4) (h 5) (h 6) (h 7)) (redo_column _ _ _ _ (h 8) (h 9) (h 10) (h 11)) (redo_column _ _ _ _ (h 12) (h 13) (h 14) (h 15))
    ∙ sixteen s e

-- InvShiftRows undoes ShiftRows
pub inv_shift_rows-shift_rows : (s : List ℕ) → length s ≡ 16 → inv_shift_rows (shift_rows s) ≡ s
inv_shift_rows-shift_rows s e = sixteen s e

-- ShiftRows undoes InvShiftRows
pub shift_rows-inv_shift_rows : (s : List ℕ) → length s ≡ 16 → shift_rows (inv_shift_rows s) ≡ s
shift_rows-inv_shift_rows s e = sixteen s e

-- InvSubBytes undoes SubBytes
pub inv_sub_bytes-sub_bytes : (s : List ℕ) → AreBytes s → inv_sub_bytes (sub_bytes s) ≡ s
inv_sub_bytes-sub_bytes [] h = refl
inv_sub_bytes-sub_bytes (x ∷ xs) h = ap₂ (λ y ys. y ∷ ys) (inv_sub_byte-sub_byte x (h 0)) (inv_sub_bytes-sub_bytes xs (λ i. h (suc i)))

-- SubBytes undoes InvSubBytes
pub sub_bytes-inv_sub_bytes : (s : List ℕ) → AreBytes s → sub_bytes (inv_sub_bytes s) ≡ s
sub_bytes-inv_sub_bytes [] h = refl
sub_bytes-inv_sub_bytes (x ∷ xs) h = ap₂ (λ y ys. y ∷ ys) (sub_byte-inv_sub_byte x (h 0)) (sub_bytes-inv_sub_bytes xs (λ i. h (suc i)))

-- AddRoundKey twice gives the state back
pub add_round_key_twice : (s k : List ℕ) → length s ≡ length k → add_round_key (add_round_key s k) k ≡ s
add_round_key_twice s k e =
    let once = zip2-xor_bytes s k (omega arith) in
    zip2-xor_bytes (add_round_key s k) k (omega (arith, length-zip2 bit_xor s k e)) ∙ ap (λ v. xor_bytes v k) once ∙ xor_bytes_twice s k
