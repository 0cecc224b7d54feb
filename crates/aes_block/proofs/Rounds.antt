-- The rounds of both ciphers, one after the other, and blocks by their bytes.
use Rattle.std.proofs.Common.{◌≡◌, ℕ, zero, suc, ◌+◌, ◌-◌, ◌<◌, ◌≤◌, List, [], ◌++◌, length, take, bit_xor, ap, ◌∙◌, sym, refl, arith}
use Rattle.std.specs.List.{range_with_len}
use Rattle.std.proofs.lemmas.List.{get_or-take}
use Rattle.std.proofs.lemmas.Simd.{pick_l_whole}
use lib.Lanes.{pick_l, zip2}
use Rattle.standards.specs.Aes.{add_round_key, cipher, key_at, mix_columns, shift_rows, state_after, sub_bytes}
use Rattle.standards.specs.AesInverse.{inv_cipher, inv_mix_columns, inv_shift_rows, inv_state_after, inv_sub_bytes}

abbrev by_bytes : ℕ → List ℕ → List ℕ
by_bytes n w = pick_l 0 w (range_with_len 0 n)

-- two blocks added byte by byte
pub added_by_bytes : (s k : List ℕ) → length s ≡ 16 → length k ≡ 16 → zip2 bit_xor (by_bytes 16 s) (by_bytes 16 k) ≡ add_round_key s k
added_by_bytes s k e f = ap (λ v. zip2 bit_xor v (by_bytes 16 k)) (pick_l_whole 0 s 16 e) ∙ ap (λ v. zip2 bit_xor s v) (pick_l_whole 0 k 16 f)

-- SubBytes and ShiftRows by bytes
pub shifted_by_bytes : (s : List ℕ) → length s ≡ 16 → shift_rows (sub_bytes (by_bytes 16 s)) ≡ shift_rows (sub_bytes s)
shifted_by_bytes s e = ap (λ v. shift_rows (sub_bytes v)) (pick_l_whole 0 s 16 e)

-- four words by their bytes
pub joined_by_bytes : (v w x y : List ℕ) → length v ≡ 4 → length w ≡ 4 → length x ≡ 4 → length y ≡ 4 → by_bytes 4 v ++ by_bytes 4 w ++ by_bytes 4 x ++ by_bytes 4 y ≡ v ++ w ++ x ++ y
joined_by_bytes v w x y e f g h =
    ap (λ l. l ++ by_bytes 4 w ++ by_bytes 4 x ++ by_bytes 4 y) (pick_l_whole 0 v 4 e)
    ∙ ap (λ l. v ++ l ++ by_bytes 4 x ++ by_bytes 4 y) (pick_l_whole 0 w 4 f)
    ∙ ap (λ l. v ++ w ++ l ++ by_bytes 4 y) (pick_l_whole 0 x 4 g)
    ∙ ap (λ l. v ++ w ++ x ++ l) (pick_l_whole 0 y 4 h)

-- four words by their bytes, each equal to another
pub same_words : (v w x y a b c d : List ℕ) → v ≡ a → w ≡ b → x ≡ c → y ≡ d
    → by_bytes 4 v ++ by_bytes 4 w ++ by_bytes 4 x ++ by_bytes 4 y ≡ by_bytes 4 a ++ by_bytes 4 b ++ by_bytes 4 c ++ by_bytes 4 d
same_words v w x y a b c d e f g h = rw (e, f, g, h) refl

-- SubBytes, ShiftRows and MixColumns by bytes
pub mixed_by_bytes : (s : List ℕ) → length s ≡ 16 → mix_columns (shift_rows (sub_bytes (by_bytes 16 s))) ≡ mix_columns (shift_rows (sub_bytes s))
mixed_by_bytes s e = ap (λ v. mix_columns (shift_rows (sub_bytes v))) (pick_l_whole 0 s 16 e)

-- one whole round more of the cipher
pub state_step : (ks : List (List ℕ)) (s : List ℕ) (i : ℕ) → 1 ≤ i
    → add_round_key (mix_columns (shift_rows (sub_bytes (state_after ks s (i - 1))))) (key_at ks i) ≡ state_after ks s (i + 1 - 1)
unfolding state_after
state_step ks s zero h = absurd (omega arith)
state_step ks s (suc n) h =
    let e : suc n + 1 - 1 ≡ suc n = omega arith in
    let f : suc n - 1 ≡ n = omega arith in
    ap (λ m. add_round_key (mix_columns (shift_rows (sub_bytes (state_after ks s m)))) (key_at ks (suc n))) f ∙ ap (λ m. state_after ks s m) (sym e)

-- one whole round more of the inverse cipher
pub inv_state_step : (r : ℕ) (ks : List (List ℕ)) (s : List ℕ) (i : ℕ) → 1 ≤ i
    → inv_mix_columns (add_round_key (inv_sub_bytes (inv_shift_rows (inv_state_after r ks s (i - 1)))) (key_at ks (r - i))) ≡ inv_state_after r ks s (i + 1 - 1)
unfolding inv_state_after
inv_state_step r ks s zero h = absurd (omega arith)
inv_state_step r ks s (suc n) h =
    let e : suc n + 1 - 1 ≡ suc n = omega arith in
    let f : suc n - 1 ≡ n = omega arith in
    ap (λ m. inv_mix_columns (add_round_key (inv_sub_bytes (inv_shift_rows (inv_state_after r ks s m))) (key_at ks (r - suc n)))) f ∙ ap (λ m. inv_state_after r ks s m) (sym e)

-- ---- round keys behind the last do not matter
state_after-take : (ks : List (List ℕ)) (s : List ℕ) (m n : ℕ) → n < m → state_after (take m ks) s n ≡ state_after ks s n
unfolding state_after
state_after-take ks s m zero h = ap (add_round_key s) (get_or-take m ks 0 [] h)
state_after-take ks s m (suc n) h =
    ap (add_round_key (mix_columns (shift_rows (sub_bytes (state_after (take m ks) s n))))) (get_or-take m ks (suc n) [] h)
    ∙ ap (λ v. add_round_key (mix_columns (shift_rows (sub_bytes v))) (key_at ks (suc n))) (state_after-take ks s m n (omega arith))

pub cipher-take : (ks : List (List ℕ)) (s : List ℕ) (r : ℕ) → cipher r (take (r + 1) ks) s ≡ cipher r ks s
cipher-take ks s r =
    ap (add_round_key (shift_rows (sub_bytes (state_after (take (r + 1) ks) s (r - 1))))) (get_or-take (r + 1) ks r [] (omega arith))
    ∙ ap (λ v. add_round_key (shift_rows (sub_bytes v)) (key_at ks r)) (state_after-take ks s (r + 1) (r - 1) (omega arith))

inv_state_after-take : (ks : List (List ℕ)) (s : List ℕ) (r n : ℕ) → inv_state_after r (take (r + 1) ks) s n ≡ inv_state_after r ks s n
unfolding inv_state_after
inv_state_after-take ks s r zero = ap (add_round_key s) (get_or-take (r + 1) ks r [] (omega arith))
inv_state_after-take ks s r (suc n) =
    ap (λ k. inv_mix_columns (add_round_key (inv_sub_bytes (inv_shift_rows (inv_state_after r (take (r + 1) ks) s n))) k)) (get_or-take (r + 1) ks (r - suc n) [] (omega arith))
    ∙ ap (λ v. inv_mix_columns (add_round_key (inv_sub_bytes (inv_shift_rows v)) (key_at ks (r - suc n)))) (inv_state_after-take ks s r n)

pub inv_cipher-take : (ks : List (List ℕ)) (s : List ℕ) (r : ℕ) → inv_cipher r (take (r + 1) ks) s ≡ inv_cipher r ks s
inv_cipher-take ks s r =
    ap (add_round_key (inv_sub_bytes (inv_shift_rows (inv_state_after r (take (r + 1) ks) s (r - 1))))) (get_or-take (r + 1) ks 0 [] (omega arith))
    ∙ ap (λ v. add_round_key (inv_sub_bytes (inv_shift_rows v)) (key_at ks 0)) (inv_state_after-take ks s r (r - 1))
