-- AES and its inverse stay within bytes.
use Rattle.std.proofs.Common.{◌≡◌, ◌≤◌, ◌<◌, ◌+◌, ◌-◌, ◌*◌, ◌/◌, ◌%◌, ℕ, zero, suc, cond, eqb, ◌&&◌, Bool, true, false, T, ltb, List, [], ◌∷◌, ◌++◌, length, get_or, bit_xor, sym, subst, arith, ltb→lt}
use Rattle.std.specs.Prelude.{slice_index}
use Rattle.std.proofs.lemmas.Nat.{xor_of_8}
use Rattle.standards.specs.Lists.{AreBytes}
use Rattle.standards.specs.Aes.{add_round_key, key_at, mix_at, mix_byte, mix_column, mix_columns, shift_rows, state_after, sub_bytes, times, times_terms, sub_byte}
use Rattle.standards.specs.AesKeys.{aes, key_words, keys_of, mixed, power_of_x, rot_word, schedule, sub_word, word_after, word_at, xor_word}
use Rattle.standards.specs.AesInverse.{aes_inverse, inv_mix_at, inv_mix_byte, inv_mix_column, inv_mix_columns, inv_shift_rows, inv_state_after, inv_sub_byte, inv_sub_bytes}
use Rattle.standards.proofs.AesLengths.{get_or-round_keys, length-key_words, length-schedule, push_place}
use Rattle.standards.proofs.AreBytes.{AreBytes-append, AreBytes-cons, AreBytes-map, AreBytes-nil, AreBytes-places, AreBytes-zip2}
use Rattle.standards.proofs.Bytes.{all_below, every_below, inv_sub_byte_below, sub_byte_below}

-- a product with k is a byte where it is computed to be one at each byte
below : (k : ℕ) → T (all_below (λ x. ltb (times k x) 256) 256) → (x : ℕ) → x < 256 → times k x < 256
below k t x h = ltb→lt _ _ (every_below (λ x. ltb (times k x) 256) 256 t x h)

times_2 : (x : ℕ) → x < 256 → times 2 x < 256
unfolding times times_terms
times_2 = below 2 tt

times_3 : (x : ℕ) → x < 256 → times 3 x < 256
unfolding times times_terms
times_3 = below 3 tt

times_9 : (x : ℕ) → x < 256 → times 9 x < 256
unfolding times times_terms
times_9 = below 9 tt

times_11 : (x : ℕ) → x < 256 → times 11 x < 256
unfolding times times_terms
times_11 = below 11 tt

times_13 : (x : ℕ) → x < 256 → times 13 x < 256
unfolding times times_terms
times_13 = below 13 tt

times_14 : (x : ℕ) → x < 256 → times 14 x < 256
unfolding times times_terms
times_14 = below 14 tt

sum_below : (a b c d : ℕ) → a < 256 → b < 256 → c < 256 → d < 256 → bit_xor (bit_xor (bit_xor a b) c) d < 256
sum_below a b c d p q r s = xor_of_8 _ d (xor_of_8 _ c (xor_of_8 a b p q) r) s

-- a byte of MixColumns
pub mix_byte_below : (a b c d : ℕ) → a < 256 → b < 256 → c < 256 → d < 256 → mix_byte a b c d < 256
mix_byte_below a b c d p q r s = sum_below (times 2 a) (times 3 b) c d (times_2 a p) (times_3 b q) r s

-- a byte of InvMixColumns
pub inv_mix_byte_below : (a b c d : ℕ) → a < 256 → b < 256 → c < 256 → d < 256 → inv_mix_byte a b c d < 256
inv_mix_byte_below a b c d p q r s = sum_below (times 14 a) (times 11 b) (times 13 c) (times 9 d) (times_14 a p) (times_11 b q) (times_13 c r) (times_9 d s)

four : (a b c d : ℕ) → a < 256 → b < 256 → c < 256 → d < 256 → AreBytes (a ∷ b ∷ c ∷ d ∷ [])
four a b c d p q r s =
    AreBytes-cons a (b ∷ c ∷ d ∷ []) p (AreBytes-cons b (c ∷ d ∷ []) q (AreBytes-cons c (d ∷ []) r (AreBytes-cons d [] s AreBytes-nil)))

joined : (a b c d : List ℕ) → AreBytes a → AreBytes b → AreBytes c → AreBytes d → AreBytes (a ++ b ++ c ++ d)
joined a b c d p q r s = AreBytes-append (a ++ b ++ c) d (AreBytes-append (a ++ b) c (AreBytes-append a b p q) r) s

column : (a b c d : ℕ) → a < 256 → b < 256 → c < 256 → d < 256 → AreBytes (mix_column a b c d)
column a b c d p q r s =
    four (mix_byte a b c d) (mix_byte b c d a) (mix_byte c d a b) (mix_byte d a b c)
    (mix_byte_below a b c d p q r s) (mix_byte_below b c d a q r s p) (mix_byte_below c d a b r s p q) (mix_byte_below d a b c s p q r)

inv_column : (a b c d : ℕ) → a < 256 → b < 256 → c < 256 → d < 256 → AreBytes (inv_mix_column a b c d)
inv_column a b c d p q r s =
    four (inv_mix_byte a b c d) (inv_mix_byte b c d a) (inv_mix_byte c d a b) (inv_mix_byte d a b c)
    (inv_mix_byte_below a b c d p q r s) (inv_mix_byte_below b c d a q r s p) (inv_mix_byte_below c d a b r s p q) (inv_mix_byte_below d a b c s p q r)

mix_at_bytes : (s : List ℕ) (i : ℕ) → AreBytes s → AreBytes (mix_at s i)
mix_at_bytes s i h = column (slice_index s i) (slice_index s (i + 1)) (slice_index s (i + 2)) (slice_index s (i + 3)) (h i) (h (i + 1)) (h (i + 2)) (h (i + 3))

inv_mix_at_bytes : (s : List ℕ) (i : ℕ) → AreBytes s → AreBytes (inv_mix_at s i)
inv_mix_at_bytes s i h = inv_column (slice_index s i) (slice_index s (i + 1)) (slice_index s (i + 2)) (slice_index s (i + 3)) (h i) (h (i + 1)) (h (i + 2)) (h (i + 3))

-- MixColumns of bytes
pub AreBytes-mix_columns : (s : List ℕ) → AreBytes s → AreBytes (mix_columns s)
AreBytes-mix_columns s h = joined (mix_at s 0) (mix_at s 4) (mix_at s 8) (mix_at s 12) (mix_at_bytes s 0 h) (mix_at_bytes s 4 h) (mix_at_bytes s 8 h) (mix_at_bytes s 12 h)

-- InvMixColumns of bytes
pub AreBytes-inv_mix_columns : (s : List ℕ) → AreBytes s → AreBytes (inv_mix_columns s)
AreBytes-inv_mix_columns s h = joined (inv_mix_at s 0) (inv_mix_at s 4) (inv_mix_at s 8) (inv_mix_at s 12) (inv_mix_at_bytes s 0 h) (inv_mix_at_bytes s 4 h) (inv_mix_at_bytes s 8 h) (inv_mix_at_bytes s 12 h)

-- ShiftRows of bytes
pub AreBytes-shift_rows : (s : List ℕ) → AreBytes s → AreBytes (shift_rows s)
AreBytes-shift_rows s = AreBytes-places s (0 ∷ 5 ∷ 10 ∷ 15 ∷ 4 ∷ 9 ∷ 14 ∷ 3 ∷ 8 ∷ 13 ∷ 2 ∷ 7 ∷ 12 ∷ 1 ∷ 6 ∷ 11 ∷ [])

-- InvShiftRows of bytes
pub AreBytes-inv_shift_rows : (s : List ℕ) → AreBytes s → AreBytes (inv_shift_rows s)
AreBytes-inv_shift_rows s = AreBytes-places s (0 ∷ 13 ∷ 10 ∷ 7 ∷ 4 ∷ 1 ∷ 14 ∷ 11 ∷ 8 ∷ 5 ∷ 2 ∷ 15 ∷ 12 ∷ 9 ∷ 6 ∷ 3 ∷ [])

-- ---- the key
xtime_power : (k : ℕ) → power_of_x k < 256
unfolding power_of_x
xtime_power zero = omega arith
xtime_power (suc k) = times_2 (power_of_x k) (xtime_power k)

mixed_bytes : (n : ℕ) (w : List ℕ) (i : ℕ) → AreBytes w → AreBytes (mixed n w i)
mixed_bytes n w i h = go (eqb (i % n) 0) (eqb n 8 && eqb (i % 8) 4)
  where
    go : (a b : Bool) → AreBytes (cond a (xor_word (sub_word (rot_word w)) (power_of_x (i / n - 1) ∷ 0 ∷ 0 ∷ 0 ∷ [])) (cond b (sub_word w) w))
    go true b =
        AreBytes-zip2 (sub_word (rot_word w)) (power_of_x (i / n - 1) ∷ 0 ∷ 0 ∷ 0 ∷ [])
        (AreBytes-map sub_byte (rot_word w) sub_byte_below (four (slice_index w 1) (slice_index w 2) (slice_index w 3) (slice_index w 0) (h 1) (h 2) (h 3) (h 0)))
        (four (power_of_x (i / n - 1)) 0 0 0 (xtime_power (i / n - 1)) (omega arith) (omega arith) (omega arith))
    go false true = AreBytes-map sub_byte w sub_byte_below h
    go false false = h

word_bytes : (key : List ℕ) (i : ℕ) → AreBytes key → AreBytes (word_at key i)
word_bytes key i h = four (slice_index key i) (slice_index key (i + 1)) (slice_index key (i + 2)) (slice_index key (i + 3)) (h i) (h (i + 1)) (h (i + 2)) (h (i + 3))

key_word : (key : List ℕ) (m i : ℕ) → AreBytes key → i < m → AreBytes (get_or (key_words key m) i [])
unfolding key_words
key_word key zero i h l = absurd (omega arith)
key_word key (suc m) i h l = push_place (key_words key m) (word_at key (4 * m)) [] AreBytes m i (length-key_words key m) l (λ j k. key_word key m j h k) (word_bytes key (4 * m) h)

schedule_within : (n : ℕ) (key : List ℕ) (m i : ℕ) → AreBytes key → 0 < n → i < n + m → AreBytes (get_or (schedule n key m) i [])
unfolding schedule
schedule_within n key zero i h pos l = key_word key n i h (omega arith)
schedule_within n key (suc m) i h pos l =
    let ws = schedule n key m in
    push_place ws (word_after n ws (n + m)) [] AreBytes (n + m) i (length-schedule n key m) (omega arith) (λ j k. schedule_within n key m j h pos k)
    (AreBytes-zip2 (get_or ws (n + m - n) []) (mixed n (get_or ws (n + m - 1) []) (n + m)) (schedule_within n key m (n + m - n) h pos (omega arith))
    (mixed_bytes n (get_or ws (n + m - 1) []) (n + m) (schedule_within n key m (n + m - 1) h pos (omega arith))))

-- the round keys of a key of bytes
pub AreBytes-key_at : (key : List ℕ) (i : ℕ) → AreBytes key → 4 ≤ length key → i < length key / 4 + 7 → AreBytes (key_at (keys_of key) i)
unfolding keys_of
AreBytes-key_at key i h long l =
    let n = length key / 4 in
    let m = 4 * (n + 7) - n in
    let ws = schedule n key m in
    let pos : 0 < n = omega arith in
    let total : n + m ≡ 4 * (n + 7) = omega arith in
    let word = λ (j : ℕ) (k : j < n + m). schedule_within n key m j h pos k in
    subst AreBytes (sym (get_or-round_keys ws (n + 7) i l))
    (joined (get_or ws (4 * i) []) (get_or ws (4 * i + 1) []) (get_or ws (4 * i + 2) []) (get_or ws (4 * i + 3) []) (word (4 * i) (omega arith)) (word (4 * i + 1) (omega arith)) (word (4 * i + 2) (omega arith)) (word (4 * i + 3) (omega arith)))

-- ---- the state
-- the state of the cipher, as far as the round keys are bytes
pub AreBytes-state_after : (ks : List (List ℕ)) (s : List ℕ) (n : ℕ) → AreBytes s → ((i : ℕ) → i ≤ n → AreBytes (key_at ks i)) → AreBytes (state_after ks s n)
unfolding state_after
AreBytes-state_after ks s zero h k = AreBytes-zip2 s (key_at ks 0) h (k 0 (omega arith))
AreBytes-state_after ks s (suc n) h k =
    let t = state_after ks s n in
    let before = AreBytes-state_after ks s n h (λ i l. k i (omega arith)) in
    AreBytes-zip2 (mix_columns (shift_rows (sub_bytes t))) (key_at ks (suc n))
    (AreBytes-mix_columns (shift_rows (sub_bytes t)) (AreBytes-shift_rows (sub_bytes t) (AreBytes-map sub_byte t sub_byte_below before)))
    (k (suc n) (omega arith))

-- the state of the inverse cipher
pub AreBytes-inv_state_after : (r : ℕ) (ks : List (List ℕ)) (s : List ℕ) (n : ℕ) → AreBytes s → ((i : ℕ) → i ≤ r → AreBytes (key_at ks i)) → AreBytes (inv_state_after r ks s n)
unfolding inv_state_after
AreBytes-inv_state_after r ks s zero h k = AreBytes-zip2 s (key_at ks r) h (k r (omega arith))
AreBytes-inv_state_after r ks s (suc n) h k =
    let t = inv_state_after r ks s n in
    let before = AreBytes-inv_state_after r ks s n h k in
    let u = inv_sub_bytes (inv_shift_rows t) in
    AreBytes-inv_mix_columns (add_round_key u (key_at ks (r - suc n)))
    (AreBytes-zip2 u (key_at ks (r - suc n)) (AreBytes-map inv_sub_byte (inv_shift_rows t) inv_sub_byte_below (AreBytes-inv_shift_rows t before)) (k (r - suc n) (omega arith)))

-- AES gives bytes
pub AreBytes-aes : (key block : List ℕ) → 4 ≤ length key → AreBytes key → AreBytes block → AreBytes (aes key block)
unfolding aes
AreBytes-aes key block long h b =
    let r = length key / 4 + 6 in
    let ks = keys_of key in
    let t = state_after ks block (r - 1) in
    AreBytes-zip2 (shift_rows (sub_bytes t)) (key_at ks r)
    (AreBytes-shift_rows (sub_bytes t) (AreBytes-map sub_byte t sub_byte_below (AreBytes-state_after ks block (r - 1) b (λ i l. AreBytes-key_at key i h long (omega arith)))))
    (AreBytes-key_at key r h long (omega arith))

-- so does its inverse
pub AreBytes-aes_inverse : (key block : List ℕ) → 4 ≤ length key → AreBytes key → AreBytes block → AreBytes (aes_inverse key block)
unfolding aes_inverse
AreBytes-aes_inverse key block long h b =
    let r = length key / 4 + 6 in
    let ks = keys_of key in
    let t = inv_state_after r ks block (r - 1) in
    AreBytes-zip2 (inv_sub_bytes (inv_shift_rows t)) (key_at ks 0)
    (AreBytes-map inv_sub_byte (inv_shift_rows t) inv_sub_byte_below (AreBytes-inv_shift_rows t (AreBytes-inv_state_after r ks block (r - 1) b (λ i l. AreBytes-key_at key i h long (omega arith)))))
    (AreBytes-key_at key 0 h long (omega arith))
