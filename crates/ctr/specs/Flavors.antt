-- The blocks of the flavours: a nonce with a number added in one field of it (SP 800-38A, 2001, B.1).
use Rattle.std.specs.Prelude.{ℕ, ◌*◌, ◌^◌, List}
use Rattle.std.specs.Int.{Width, byte_len}
use Rattle.standards.specs.Counter.{plus_be, plus_le}

-- where the field is: in the last bytes, high byte first, or in the first bytes, low byte first
pub data End : Type 0 where
  last : End
  first : End

-- how many numbers a field of this width holds
abbrev pub field_size : Width → ℕ
field_size w = 2 ^ (8 * byte_len w)

-- block i from a nonce on: i is added in the field, modulo its size, and all other bytes stay
unfoldable pub plus : End → Width → List ℕ → ℕ → List ℕ
plus last w nonce i = plus_be w nonce i
plus first w nonce i = plus_le w nonce i
