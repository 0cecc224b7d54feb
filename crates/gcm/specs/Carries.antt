-- Products of which the part from x ^ 128 on is kept apart.
use Rattle.std.specs.Prelude.{◌≡◌, ℕ, zero, suc, ◌-◌, ◌*◌, ◌/◌, ◌%◌, ◌^◌, ◌<◌, List, bit_xor, slice_index}
use Rattle.std.specs.Int.{w128, to_le_bytes}
use Rattle.standards.specs.Ghash.{product_low, times_x}
use Rattle.gcm.specs.Multiples.{multiple8, sum4}

-- the 16 bytes of a number, the lowest first
abbrev pub bytes_of : ℕ → List ℕ
bytes_of n = to_le_bytes w128 n

-- x to the power n, times z
unfoldable pub powers : ℕ → ℕ → ℕ
powers zero z = z
powers (suc n) z = times_x (powers n z)

-- 1 + x + x^2 + x^7, which is x^128, times z
abbrev pub rest : ℕ → ℕ
rest z = sum4 (powers 7 z) (powers 2 z) (powers 1 z) z

-- the part from x ^ 128 on where both parts are shifted by a byte
abbrev pub carried : ℕ → ℕ → ℕ
carried high low = bit_xor (low / 256) (high * 2 ^ 120 % 2 ^ 128)

-- the sum of four multiples by the bytes from bit n on, as it is made
abbrev pub entries : ℕ → ℕ → ℕ → ℕ → ℕ → ℕ → ℕ → ℕ → ℕ → ℕ
entries p q r s a b c d n =
    bit_xor (bit_xor (multiple8 p (a / 2 ^ n % 256)) (multiple8 q (b / 2 ^ n % 256))) (bit_xor (multiple8 r (c / 2 ^ n % 256)) (multiple8 s (d / 2 ^ n % 256)))

-- the sum of the products with the polynomials of the lowest n bits
abbrev pub sums : ℕ → ℕ → ℕ → ℕ → ℕ → ℕ → ℕ → ℕ → ℕ → ℕ
sums p q r s a b c d n = sum4 (product_low p a n) (product_low q b n) (product_low r c n) (product_low s d n)

-- eight bytes of each of four numbers, from byte i on
pub record AreEightBytes (a b c d i : ℕ) (x : List ℕ) : Type 0 where
  pub of_a : slice_index x 0 ≡ a / 2 ^ (8 * i) % 2 ^ 64
  pub of_b : slice_index x 1 ≡ b / 2 ^ (8 * i) % 2 ^ 64
  pub of_c : slice_index x 2 ≡ c / 2 ^ (8 * i) % 2 ^ 64
  pub of_d : slice_index x 3 ≡ d / 2 ^ (8 * i) % 2 ^ 64

-- Two parts of the sum of the products with the polynomials of the lowest i bytes. The low part is not yet reduced.
pub record IsSummed (p q r s a b c d i : ℕ) (high low : List ℕ) : Type 0 where
  pub h : ℕ
  pub l : ℕ
  pub high_is : high ≡ bytes_of h
  pub low_is : low ≡ bytes_of l
  pub high_fits : h < 2 ^ 128
  pub low_fits : l < 2 ^ 128
  pub begins : i ≡ 0 → h ≡ 0
  pub room : l % 2 ^ (136 - 8 * i) ≡ 0
  pub both : bit_xor h (rest l) ≡ sums p q r s a b c d (8 * i)
