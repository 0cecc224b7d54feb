-- The command of ranges: each answer with its cause, what stands after each outcome, and what a status promises.
use Rattle.std.specs.Prelude.{◌≡◌, ◌⊎◌, ◌≤◌, ◌+◌, ℕ, List, length, Option, Some, Result, Ok, Err}
use Rattle.tink_io.specs.declared.error.Kind.{Kind}
use Rattle.tink_io.specs.declared.error.Kind.TheVariants.{OutOfMemory, ReadFault, BadSegment, InputTooLong}
use Rattle.tink_io.specs.declared.error.TinkError.{TinkError}
use Rattle.loading_model.specs.Loading.{Loaded, opening_keys}
use Rattle.tink_io.specs.Taken.{LosesAtMost}
use Rattle.tink_range.specs.ChunkReading.{Moments}
use Rattle.tink_range.specs.KeyRanges.{RangesUnder}
use Rattle.tink_run.specs.AllKeys.{load}
use Rattle.tink_io.specs.Outside.{Outside, HasNoFault, AreKnown}
use Rattle.tink_run.specs.Run.{CanOpen}
use Rattle.tink_rewrap.specs.KeysetRanges.{GivesSlice}
use Rattle.tink_tokens.specs.Inputs.{input_limit, HasTooMuch, InputRefused, IsOfInput, IsReadWhole, IsUnloadable}
use Rattle.tink_program_core.specs.Streams.{IsDoneOrWant}
use Rattle.tink_program_core.specs.declared.outcomes.Outcome.{Outcome}
use Rattle.tink_program_core.specs.declared.outcomes.Outcome.TheVariants.{Done, Usage, Refused}

-- what a sink has got, where it tells it, and its count of faults
pub record SinkAt : Type 0 where
  pub got : Option (List ℕ)
  pub faults : ℕ

abbrev pub sink_at : Outside → SinkAt
sink_at o = record { got = o.got; faults = o.write_faults }

-- the sink before and after the range of an input, which is held and so never fails
abbrev pub moments_of : List ℕ → Outside → Outside → Moments SinkAt
moments_of input old new = record { all = Some input; reads_before = 0; reads_after = 0; old = sink_at old; new = sink_at new }

module _ (aad : List ℕ) (start len : ℕ) where
  -- what the range of an input under the keys that were loaded answers
  abbrev pub RangesInput : Outside → Outside → Loaded → List ℕ → Result ℕ TinkError → Type 0
  RangesInput old new loaded input answer =
      RangesUnder (λ (s : SinkAt). s.got) (λ (s : SinkAt). s.faults) (opening_keys aad loaded) (length input) start len
      (moments_of input old new) answer

  abbrev pub RefusesRange : Outside → Outside → Loaded → List ℕ → Kind → Type 0
  RefusesRange old new loaded input kind = RangesInput old new loaded input (Err (record { kind = kind }))

module _ (keyset aad : List ℕ) (start len : ℕ) where
  -- the input was read, and its range was written: the last chunk and all that the range touches are segments of texts
  abbrev pub GaveInput : Outside → Outside → ℕ → Type 0
  GaveInput old new n = IsOfInput (load keyset) old new (λ loaded input. RangesInput aad start len old new loaded input (Ok n))

  -- what stands after each answer, and why it came
  abbrev pub RangeAnswer : Outside → Outside → Result ℕ TinkError → Type 0
  RangeAnswer old new (Ok n) = GaveInput old new n
  RangeAnswer old new (Err e) = InputRefused (load keyset) (RefusesRange aad start len old new) old new e.kind

  -- and after each outcome
  abbrev pub RangeOutcome : Outside → Outside → Outcome → Type 0
  RangeOutcome old new Done = (n : ℕ) × GaveInput old new n
  RangeOutcome old new Usage = ⊥
  RangeOutcome old new (Refused kind) = RangeAnswer old new (Err (record { kind = kind }))

  -- ---- known bytes

  -- the range of the whole input was written: where the input is a stream of the chosen key, that slice of its text
  pub record IsRangeWhole (T : List ℕ) (old new : Outside) : Type 0 where
    pub count : ℕ
    pub read : IsReadWhole (load keyset) (λ loaded input. RangesInput aad start len old new loaded input (Ok count)) T new
    pub slice : GivesSlice (λ (s : SinkAt). s.got) keyset aad start len (moments_of T old new) count

  -- chunk n of the whole input is the segment of no text: the last one, and nothing was written, or the first one that the
  -- range touches, and the range's bytes before it were written
  abbrev pub StopsRange : ℕ → List ℕ → Outside → Outside → Type 0
  StopsRange n T old new =
      IsReadWhole (load keyset) (λ loaded input. RefusesRange aad start len old new loaded input (BadSegment n)) T new

  -- what 0 and 22 promise; where neither end fails, when 0 and when 26 come; and how much is taken of the source at most,
  -- whatever the status
  pub record RangePromises (status_of_kind : Kind → ℕ) (old new : Outside) (status : ℕ) : Type 0 where
    pub whole : (T G : List ℕ) → AreKnown old T G → status ≡ 0 → IsRangeWhole T old new
    pub stopped : (T G : List ℕ) → AreKnown old T G → status ≡ 22 → (n : ℕ) × StopsRange n T old new
    pub succeeds : (T G : List ℕ) → AreKnown old T G → HasNoFault old new → CanOpen keyset aad T → length T ≤ input_limit
        → IsDoneOrWant status
    pub long : (T G : List ℕ) → AreKnown old T G → HasNoFault old new → HasTooMuch (load keyset) T
        → (status ≡ status_of_kind InputTooLong) ⊎ (status ≡ 10)
    pub taken : LosesAtMost (input_limit + 1) old.left new.left

-- kinds by which no input is held, so that no range of it is begun
abbrev pub HoldsNoInput : Kind → Type 0
HoldsNoInput OutOfMemory = Unit {0}
HoldsNoInput ReadFault = Unit {0}
HoldsNoInput InputTooLong = Unit {0}
HoldsNoInput kind = IsUnloadable kind
