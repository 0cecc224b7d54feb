-- CMAC (SP 800-38B, 2005), over a one-block map E on 16 bytes.
use Rattle.std.specs.Prelude.{ℕ, ◌-◌, ◌*◌, ◌/◌, ◌%◌, ◌^◌, List, length, drop, replicate, bit_xor, nat_eq, if◌then◌else◌}
use Rattle.std.specs.Int.{w128, from_be_bytes, to_be_bytes}
use Rattle.standards.specs.Lists.{xor_bytes}
use Rattle.standards.specs.Blocks.{bit_padded, over_blocks}

-- a number of 128 bits shifted left by one, xor 0x87 where a bit goes out (5.3, 6.1)
abbrev pub doubled : ℕ → ℕ
doubled n = bit_xor (2 * n % 2 ^ 128) (n / 2 ^ 127 * 0x87)

-- a block doubled: a step of the subkeys (6.1), and dbl of RFC 5297, 2.3
unfoldable pub double_block : List ℕ → List ℕ
double_block block = to_be_bytes w128 (doubled (from_be_bytes w128 block))

-- K1 (6.1)
abbrev pub subkey_1 : (List ℕ → List ℕ) → List ℕ
subkey_1 E = double_block (E (replicate 16 0))

-- K2 (6.1)
abbrev pub subkey_2 : (List ℕ → List ℕ) → List ℕ
subkey_2 E = double_block (subkey_1 E)

-- one block more of the chain (6.2, step 6)
abbrev pub chain_step : (List ℕ → List ℕ) → List ℕ → List ℕ → List ℕ
chain_step E c block = E (xor_bytes c block)

-- C n: the chain over the first n blocks, all of them whole, from the zero block on (6.2, steps 5 and 6)
abbrev pub chain_after : (List ℕ → List ℕ) → List ℕ → ℕ → List ℕ
chain_after E text n = over_blocks (chain_step E) (replicate 16 0) text n

-- M n: a whole last block xor K1; another, or an empty one, padded and xor K2 (6.2, step 4)
abbrev pub last_block : (List ℕ → List ℕ) → List ℕ → List ℕ
last_block E rest = if nat_eq (length rest) 16 then xor_bytes rest (subkey_1 E) else xor_bytes (bit_padded rest) (subkey_2 E)

-- the tag of 16 bytes; all blocks but the last, of 1 to 16 bytes or empty, stand before it (6.2)
unfoldable pub cmac : (List ℕ → List ℕ) → List ℕ → List ℕ
cmac E text =
    let n = (length text - 1) / 16 in
    E (xor_bytes (chain_after E text n) (last_block E (drop (16 * n) text)))
