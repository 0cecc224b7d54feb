-- Blocks by the order of their bytes: GCM has the high byte first (SP 800-38D, 6), GCM-SIV the low byte (RFC 8452, 3, 4).
use Rattle.std.specs.Prelude.{ℕ, ◌+◌, ◌*◌, ◌/◌, ◌%◌, ◌^◌, List, ◌++◌, length, bit_xor}
use Rattle.std.specs.Int.{w32, w64, w128, from_be_bytes, from_le_bytes, to_be_bytes, to_le_bytes}
use Rattle.standards.specs.Blocks.{block_at, over_blocks, zero_padded}
use Rattle.standards.specs.Counter.{plus_be, plus_le}
use Rattle.standards.specs.Ghash.{product}
use Rattle.gcm.specs.declared.order.ByteOrder.{ByteOrder}
use Rattle.gcm.specs.declared.order.ByteOrder.TheVariants.{BigEndian, LittleEndian}

-- the number of a block
abbrev pub number_of : ByteOrder → List ℕ → ℕ
number_of BigEndian block = from_be_bytes w128 block
number_of LittleEndian block = from_le_bytes w128 block

-- the block of a number
abbrev pub block_of : ByteOrder → ℕ → List ℕ
block_of BigEndian n = to_be_bytes w128 n
block_of LittleEndian n = to_le_bytes w128 n

-- i added to the 32 bits that count: the last with the high byte first, the first with the low byte first
abbrev pub counted : ByteOrder → List ℕ → ℕ → List ℕ
counted BigEndian = plus_be w32
counted LittleEndian = plus_le w32

-- two numbers of 64 bits
abbrev pub pair_of : ByteOrder → ℕ → ℕ → List ℕ
pair_of BigEndian a b = to_be_bytes w64 a ++ to_be_bytes w64 b
pair_of LittleEndian a b = to_le_bytes w64 a ++ to_le_bytes w64 b

-- one block more after y, under the element h: the sum times h, GHASH's product
abbrev pub absorb : ByteOrder → ℕ → ℕ → List ℕ → ℕ
absorb order h y block = product (bit_xor y (number_of order block)) h

-- the blocks of n bytes after y, the last of them with zeros up to a whole block
abbrev pub absorbed : ByteOrder → ℕ → ℕ → List ℕ → ℕ → ℕ
absorbed order h y bytes n = over_blocks (absorb order h) y (zero_padded bytes) ((n + 15) / 16)

-- the four blocks from block i on after y
abbrev pub four_absorbed : ByteOrder → ℕ → ℕ → List ℕ → ℕ → ℕ
four_absorbed order h y bytes i =
    let m = zero_padded bytes in
    let f = absorb order h in
    f (f (f (f y (block_at m i)) (block_at m (i + 1))) (block_at m (i + 2))) (block_at m (i + 3))

-- the hash under the element h, by data, text and their lengths in bits, modulo 2 ^ 64
abbrev pub hash_of : ByteOrder → ℕ → List ℕ → List ℕ → ℕ
hash_of order h aad text =
    let front = absorbed order h 0 aad (length aad) in
    let both = absorbed order h front text (length text) in
    absorb order h both (pair_of order (8 * length aad % 2 ^ 64) (8 * length text % 2 ^ 64))
