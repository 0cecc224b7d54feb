-- The keystreams of the tests' cores.
use Rattle.std.specs.Prelude.{ℕ, ◌-◌, ◌*◌, ◌%◌, ◌^◌, List, ◌++◌, Option, Some, None, cond, ◌==◌, replicate, bit_xor}
use Rattle.std.specs.Int.{w32, w64, rotate_left, to_le_bytes}
use Rattle.cipher_stream.specs.Keystream.{Keystream}

-- two numbers that are mixed of a key and the block's number
abbrev pub mixed_block : ℕ → ℕ → List ℕ
mixed_block key number =
    let b : ℕ = bit_xor number 5545529020109919103 in
    let a : ℕ = rotate_left w64 (bit_xor key 9782798678568883157) 13 * b % 2 ^ 64 in
    let d : ℕ = rotate_left w64 b 13 * a % 2 ^ 64 in
    to_le_bytes w64 a ++ to_le_bytes w64 d

abbrev pub mixed : ℕ → ℕ → Keystream
mixed key number = record { block_at = mixed_block key; period = 2 ^ 64; position = number }

-- five times one byte
abbrev pub constant : ℕ → ℕ → Keystream
constant byte number = record { block_at = λ _. replicate 5 byte; period = 2 ^ 64; position = number }

-- the block's number, xor one word
abbrev pub numbers : ℕ → Keystream
numbers number = record { block_at = λ n. to_le_bytes w32 (bit_xor n 50462976); period = 2 ^ 32; position = number }

-- none for 255, and else what is left of this number of blocks
abbrev pub left_of : ℕ → ℕ → Option ℕ
left_of total used = cond (total == 255) None (Some (total - used))
