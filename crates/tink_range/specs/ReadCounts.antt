-- How much is read of an object.
use Rattle.std.specs.Prelude.{◌⊎◌, ◌≤◌, ℕ, ◌+◌, ◌*◌, max, List, length, Result, Ok, Err}
use Rattle.std.specs.declared.option.Option.{Option}
use Rattle.stream_model.specs.Opening.{OpeningKey}
use Rattle.tink_range.specs.Giving.{Cutting}
use Rattle.tink_range.specs.KeyRanges.{IsCutUnder, range_steps}

-- what a read counts: the bytes that it moved, and one where it moved none
abbrev pub read_count : {E : Type 0} → Result ℕ E → ℕ
read_count (Ok n) = max 1 n
read_count (Err e) = 1

-- at most so many bytes were read for each of the keys, and where one is chosen the chunks that are opened for the range
abbrev pub TakesRangeBytes : List OpeningKey → Option (List ℕ) → ℕ → ℕ → ℕ → ℕ → ℕ → ℕ → Type 0
TakesRangeBytes keys all whole start len room before now =
    (now ≤ before + length keys * room)
    ⊎ IsCutUnder keys all whole (λ c behind. now ≤ before + length keys * room + range_steps c behind start len * c.size)
