-- Counter mode (SP 800-38A, 2001, 6.5), over a one-block map E on 16 bytes and an incrementing function (B.1).
use Rattle.std.specs.Prelude.{ℕ, zero, suc, ◌+◌, ◌-◌, ◌*◌, ◌/◌, ◌%◌, ◌^◌, List, [], ◌++◌, length, take, drop}
use Rattle.std.specs.Int.{Width, byte_len, to_be_bytes, from_be_bytes, to_le_bytes, from_le_bytes}
use Rattle.standards.specs.Lists.{xor_bytes}

-- i added to a block's last bytes, as many as the width has, high byte first, modulo their size; the other bytes stay
abbrev pub plus_be : Width → List ℕ → ℕ → List ℕ
plus_be w block i =
    let at = length block - byte_len w in
    take at block ++ to_be_bytes w ((from_be_bytes w (drop at block) + i) % 2 ^ (8 * byte_len w))

-- i added to a block's first bytes, low byte first
abbrev pub plus_le : Width → List ℕ → ℕ → List ℕ
plus_le w block i = to_le_bytes w ((from_le_bytes w (take (byte_len w) block) + i) % 2 ^ (8 * byte_len w)) ++ drop (byte_len w) block

-- E of the first n counter blocks, joined
unfoldable pub keystream : (List ℕ → List ℕ) → (List ℕ → ℕ → List ℕ) → List ℕ → ℕ → List ℕ
keystream E plus block zero = []
keystream E plus block (suc n) = keystream E plus block n ++ E (plus block n)

-- the text xor the prefix of the keystream
unfoldable pub ctr : (List ℕ → List ℕ) → (List ℕ → ℕ → List ℕ) → List ℕ → List ℕ → List ℕ
ctr E plus block text = xor_bytes text (keystream E plus block ((length text + 15) / 16))
