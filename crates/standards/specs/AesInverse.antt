-- The inverse cipher of AES (FIPS 197, 2001, 5.3), the straightforward one, which takes the round keys of the cipher from the last to the first.
use Rattle.std.specs.Prelude.{ℕ, zero, suc, ◌+◌, ◌-◌, ◌*◌, ◌/◌, ◌%◌, ◌^◌, List, [], ◌∷◌, ◌++◌, map, bit_xor, length, slice_index}
use Rattle.standards.specs.Aes.{bit_at, inverse, times, add_round_key, key_at}
use Rattle.standards.specs.AesKeys.{keys_of}

-- bit i of the inverse of the affine map (5.3.2)
unfoldable pub inv_affine_bit : ℕ → ℕ → ℕ
inv_affine_bit b i = (bit_at b (i + 2) + bit_at b (i + 5) + bit_at b (i + 7) + bit_at 0x05 i) % 2

-- its lowest n bits
unfoldable pub inv_affine_bits : ℕ → ℕ → ℕ
inv_affine_bits b zero = 0
inv_affine_bits b (suc n) = inv_affine_bits b n + 2 ^ n * inv_affine_bit b n

-- InvSubBytes at one byte (5.3.2)
unfoldable pub inv_sub_byte : ℕ → ℕ
inv_sub_byte b = inverse (inv_affine_bits b 8)

-- InvSubBytes (5.3.2)
abbrev pub inv_sub_bytes : List ℕ → List ℕ
inv_sub_bytes s = map inv_sub_byte s

-- InvShiftRows (5.3.1): place r + 4 c takes row r of column c - r
abbrev pub inv_shift_rows : List ℕ → List ℕ
inv_shift_rows s = map (λ k. slice_index s k) (0 ∷ 13 ∷ 10 ∷ 7 ∷ 4 ∷ 1 ∷ 14 ∷ 11 ∷ 8 ∷ 5 ∷ 2 ∷ 15 ∷ 12 ∷ 9 ∷ 6 ∷ 3 ∷ [])

-- a row of InvMixColumns: the circulant 14, 11, 13, 9 (5.3.3)
abbrev pub inv_mix_byte : ℕ → ℕ → ℕ → ℕ → ℕ
inv_mix_byte a b c d = bit_xor (bit_xor (bit_xor (times 14 a) (times 11 b)) (times 13 c)) (times 9 d)

-- a column of InvMixColumns (5.3.3)
abbrev pub inv_mix_column : ℕ → ℕ → ℕ → ℕ → List ℕ
inv_mix_column a b c d = inv_mix_byte a b c d ∷ inv_mix_byte b c d a ∷ inv_mix_byte c d a b ∷ inv_mix_byte d a b c ∷ []

-- the column that begins at place i
abbrev pub inv_mix_at : List ℕ → ℕ → List ℕ
inv_mix_at s i = inv_mix_column (slice_index s i) (slice_index s (i + 1)) (slice_index s (i + 2)) (slice_index s (i + 3))

-- InvMixColumns (5.3.3)
abbrev pub inv_mix_columns : List ℕ → List ℕ
inv_mix_columns s = inv_mix_at s 0 ++ inv_mix_at s 4 ++ inv_mix_at s 8 ++ inv_mix_at s 12

-- the state after the first n whole rounds of r, with the round keys ks (5.3)
unfoldable pub inv_state_after : ℕ → List (List ℕ) → List ℕ → ℕ → List ℕ
inv_state_after r ks s zero = add_round_key s (key_at ks r)
inv_state_after r ks s (suc n) = inv_mix_columns (add_round_key (inv_sub_bytes (inv_shift_rows (inv_state_after r ks s n))) (key_at ks (r - suc n)))

-- the block s deciphered in r rounds (5.3)
abbrev pub inv_cipher : ℕ → List (List ℕ) → List ℕ → List ℕ
inv_cipher r ks s = add_round_key (inv_sub_bytes (inv_shift_rows (inv_state_after r ks s (r - 1)))) (key_at ks 0)

-- the block deciphered under the key, of 16, 24 or 32 bytes (5.3)
unfoldable pub aes_inverse : List ℕ → List ℕ → List ℕ
aes_inverse key block = inv_cipher (length key / 4 + 6) (keys_of key) block
