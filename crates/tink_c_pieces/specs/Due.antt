-- How much a text of some length fills.
use Rattle.std.specs.Prelude.{ℕ, zero, suc, ◌+◌, ◌-◌, ◌*◌, ◌/◌}

-- how many chunks of a text of n bytes are full and have text behind them: the first has room for `first` bytes, each later
-- one for `room`
abbrev pub chunks_due : ℕ → ℕ → ℕ → ℕ
chunks_due first room n = (n - first + (room - 1)) / room

-- the bytes of n segments: the first has `first` bytes, and each later one `size`
abbrev pub bytes_due : ℕ → ℕ → ℕ → ℕ
bytes_due first size zero = 0
bytes_due first size (suc more) = first + more * size
