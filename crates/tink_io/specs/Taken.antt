-- What calls that read did to a source.
use Rattle.std.specs.Prelude.{ℕ, ◌≤◌, List, length}
use Rattle.std.specs.declared.option.Option.{Option}
use Rattle.std.specs.Io.KnownBytes.{Consumes}

-- known bytes lose a prefix of at most so many
abbrev pub LosesAtMost : ℕ → Option (List ℕ) → Option (List ℕ) → Type 0
LosesAtMost most old new = (front : List ℕ) × (length front ≤ most) × Consumes old new front
