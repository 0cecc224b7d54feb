-- POLYVAL (RFC 8452, 2019, 3). A block is the number of its 16 bytes, low byte first: bit i is the coefficient of x ^ i.
use Rattle.std.specs.Prelude.{ℕ, zero, suc, ◌+◌, ◌*◌, ◌/◌, ◌%◌, ◌^◌, List, ◌++◌, length, bit_xor}
use Rattle.std.specs.Int.{w64, w128, from_le_bytes, to_le_bytes}
use Rattle.standards.specs.Blocks.{over_blocks, zero_padded}

-- the product with x ^ -1, modulo x^128 + x^127 + x^126 + x^121 + 1: an odd polynomial is first made even by the modulus
unfoldable pub over_x : ℕ → ℕ
over_x v = bit_xor (v / 2) (v % 2 * (2 ^ 127 + 2 ^ 126 + 2 ^ 125 + 2 ^ 120))

-- the product of b, the polynomial of the m lowest bits of a and x ^ -m, one bit at a time
unfoldable pub dot_low : ℕ → ℕ → ℕ → ℕ
dot_low b a zero = 0
dot_low b a (suc m) = over_x (bit_xor (dot_low b a m) (a / 2 ^ m % 2 * b))

-- a * b * x ^ -128 (3)
abbrev pub dot : ℕ → ℕ → ℕ
dot a b = dot_low b a 128

-- one block more after S, under h (3)
abbrev pub absorb : ℕ → ℕ → List ℕ → ℕ
absorb h s block = dot (bit_xor s (from_le_bytes w128 block)) h

-- S n: the first n blocks of m under h (3)
abbrev pub polyval_after : ℕ → List ℕ → ℕ → ℕ
polyval_after h m n = over_blocks (absorb h) 0 m n

-- the lengths of data and text in bits, 64 bits each, low byte first, modulo 2 ^ 64 (4)
abbrev pub length_block_le : List ℕ → List ℕ → List ℕ
length_block_le aad text = to_le_bytes w64 (8 * length aad % 2 ^ 64) ++ to_le_bytes w64 (8 * length text % 2 ^ 64)

-- POLYVAL under the key, a block, of data, text and their lengths (4)
unfoldable pub polyval : List ℕ → List ℕ → List ℕ → List ℕ
polyval key aad text =
    let m = zero_padded aad ++ zero_padded text ++ length_block_le aad text in
    to_le_bytes w128 (polyval_after (from_le_bytes w128 key) m (length m / 16))
