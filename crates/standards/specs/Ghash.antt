-- GHASH (SP 800-38D, 2007). A block is the number of its 16 bytes, high byte first: its highest bit is the coefficient of x ^ 0.
use Rattle.std.specs.Prelude.{ℕ, zero, suc, ◌*◌, ◌/◌, ◌%◌, ◌^◌, List, ◌++◌, length, bit_xor}
use Rattle.std.specs.Int.{w64, w128, from_be_bytes, to_be_bytes}
use Rattle.standards.specs.Blocks.{over_blocks, zero_padded}

-- the product with x, modulo x^128 + x^7 + x^2 + x + 1 (6.3, V i + 1 from V i)
unfoldable pub times_x : ℕ → ℕ
times_x v = bit_xor (v / 2) (v % 2 * 0xe1000000000000000000000000000000)

-- the product of y and the polynomial of the m lowest bits of x, one bit at a time, the highest power first
unfoldable pub product_low : ℕ → ℕ → ℕ → ℕ
product_low y x zero = 0
product_low y x (suc m) = bit_xor (times_x (product_low y x m)) (x / 2 ^ m % 2 * y)

-- the product of two blocks (6.3)
abbrev pub product : ℕ → ℕ → ℕ
product x y = product_low y x 128

-- one block more after Y, under the hash subkey h (6.4, step 3)
abbrev pub absorb : ℕ → ℕ → List ℕ → ℕ
absorb h y block = product (bit_xor y (from_be_bytes w128 block)) h

-- Y n: the first n blocks of m (6.4)
abbrev pub ghash_after : ℕ → List ℕ → ℕ → ℕ
ghash_after h m n = over_blocks (absorb h) 0 m n

-- the lengths of data and text in bits, 64 bits each, high byte first, modulo 2 ^ 64
abbrev pub length_block : List ℕ → List ℕ → List ℕ
length_block aad text = to_be_bytes w64 (8 * length aad % 2 ^ 64) ++ to_be_bytes w64 (8 * length text % 2 ^ 64)

-- GHASH under the key, a block, of data, text and their lengths (7.1, step 5)
unfoldable pub ghash : List ℕ → List ℕ → List ℕ → List ℕ
ghash key aad text =
    let m = zero_padded aad ++ zero_padded text ++ length_block aad text in
    to_be_bytes w128 (ghash_after (from_be_bytes w128 key) m (length m / 16))
