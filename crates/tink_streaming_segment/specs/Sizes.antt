-- The sizes of a stream's parts, in bytes.
use Rattle.std.specs.Prelude.{ℕ, ◌+◌, ◌-◌, None, Some, if◌then◌else◌, nat_lt, nat_le}
use Rattle.std.specs.declared.option.Option.{Option}
use Rattle.tink_io.specs.declared.error.Kind.{Kind}
use Rattle.tink_io.specs.declared.error.Kind.TheVariants.{NonceTooShort, OffsetTooBig, SegmentTooSmall}

-- why sizes are refused: those of a nonce and of its prefix, of a segment, of what stands before the first segment,
-- and of what a segment has more than its text
abbrev pub sizes_fault : ℕ → ℕ → ℕ → ℕ → ℕ → Option Kind
sizes_fault nonce_size prefix size offset overhead =
    if nat_lt nonce_size (prefix + 5) then Some NonceTooShort
    else if nat_lt size offset then Some OffsetTooBig
    else if nat_le (size - offset) overhead then Some SegmentTooSmall
    else None
