-- The multiples of a number by four bits.
use Rattle.std.specs.Prelude.{◌≡◌, ℕ, ◌*◌, ◌/◌, ◌%◌, ◌^◌, ◌<◌, List, [], bit_xor, get_or}
use Rattle.std.specs.Int.{w128, to_le_bytes}
use Rattle.standards.specs.Ghash.{product, times_x}

-- the product with x ^ 4
abbrev pub four : ℕ → ℕ
four z = times_x (times_x (times_x (times_x z)))

-- the product of y and the polynomial of four bits, the highest of them the coefficient of x ^ 0
abbrev pub multiple : ℕ → ℕ → ℕ
multiple y n = bit_xor (bit_xor (bit_xor (n % 2 * times_x (times_x (times_x y))) (n / 2 % 2 * times_x (times_x y))) (n / 4 % 2 * times_x y)) (n / 8 % 2 * y)

-- the table holds the 16 multiples of y
abbrev pub IsTable : ℕ → List ℕ → Type 0
IsTable y t = (n : ℕ) → n < 16 → get_or t n 0 ≡ multiple y n

-- the product with x ^ 8
abbrev pub eight : ℕ → ℕ
eight z = four (four z)

-- the product of y and the polynomial of eight bits, the highest of them the coefficient of x ^ 0
abbrev pub multiple8 : ℕ → ℕ → ℕ
multiple8 y n = bit_xor (four (multiple y (n % 16))) (multiple y (n / 16 % 16))

-- the table holds the bytes of the 256 multiples of y, the lowest first
abbrev pub IsLargeTable : ℕ → List (List ℕ) → Type 0
IsLargeTable y t = (n : ℕ) → n < 256 → get_or t n [] ≡ to_le_bytes w128 (multiple8 y n)

-- and y is a block's number
pub record AreLargeMultiples (y : ℕ) (t : List (List ℕ)) : Type 0 where
  pub fits : y < 2 ^ 128
  pub table : IsLargeTable y t

abbrev pub sum4 : ℕ → ℕ → ℕ → ℕ → ℕ
sum4 a b c d = bit_xor (bit_xor (bit_xor a b) c) d

-- (((a h + b) h + c) h + d) h
abbrev pub horner : ℕ → ℕ → ℕ → ℕ → ℕ → ℕ
horner h a b c d = product (bit_xor (product (bit_xor (product (bit_xor (product a h) b) h) c) h) d) h

-- h, which is a block's number, and its powers
pub record ArePowers (h h2 h3 h4 : ℕ) : Type 0 where
  pub fits : h < 2 ^ 128
  pub second : h2 ≡ product h h
  pub third : h3 ≡ product h2 h
  pub fourth : h4 ≡ product h3 h
