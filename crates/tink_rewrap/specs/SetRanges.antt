-- What a range under the keys of a set says.
use Rattle.std.specs.Prelude.{◌≡◌, ℕ, List, Result, Ok, Err}
use Rattle.std.specs.declared.option.Option.{Option}
use Rattle.tink_io.specs.declared.error.Kind.{Kind}
use Rattle.tink_io.specs.declared.error.Kind.TheVariants.{NoMatchingKey, OutOfMemory, TooManySegments, Truncated}
use Rattle.tink_io.specs.declared.error.TinkError.{TinkError}
use Rattle.stream_model.specs.Opening.{OpeningKey}
use Rattle.tink_range.specs.ChunkReading.{Moments}
use Rattle.tink_range.specs.KeyRanges.{RangesUnder, RangesUnderRefused}
use Rattle.tink_run.specs.Run.{IsEarly}

-- nothing was written, and the object's count of faults stands
pub record IsUnmoved {W : Type 0} (e : Moments W) : Type 0 where
  pub reads : e.reads_after ≡ e.reads_before
  pub same : e.new ≡ e.old

abbrev pub RangesOfRefused : {W : Type 0} → (W → Option (List ℕ)) → (W → ℕ) → List OpeningKey → ℕ → ℕ → ℕ → Moments W → Kind → Type 0
RangesOfRefused got faults keys whole start len e OutOfMemory = IsUnmoved e
RangesOfRefused got faults keys whole start len e kind = RangesUnderRefused got faults keys whole start len e kind

-- what a range under keys answers, or there is no memory
abbrev pub RangesOf : {W : Type 0} → (W → Option (List ℕ)) → (W → ℕ) → List OpeningKey → ℕ → ℕ → ℕ → Moments W → Result ℕ TinkError → Type 0
RangesOf got faults keys whole start len e (Ok n) = RangesUnder got faults keys whole start len e (Ok n)
RangesOf got faults keys whole start len e (Err error) = RangesOfRefused got faults keys whole start len e error.kind

-- a refusal that comes before anything is read leaves object and sink themselves as they were
abbrev pub LeavesRangeEnds : {A W : Type 0} → Result ℕ TinkError → A → A → W → W → Type 0
LeavesRangeEnds (Ok n) object object_after sink sink_after = Unit {0}
LeavesRangeEnds (Err e) object object_after sink sink_after = IsEarly e.kind → (object_after ≡ object) × (sink_after ≡ sink)

-- refusals by which nothing of a range was written
abbrev pub WritesNoRange : Kind → Type 0
WritesNoRange NoMatchingKey = Unit {0}
WritesNoRange TooManySegments = Unit {0}
WritesNoRange (Truncated n) = Unit {0}
WritesNoRange _ = ⊥

-- they leave the sink itself as it was
abbrev pub LeavesUnwritten : {W : Type 0} → Result ℕ TinkError → W → W → Type 0
LeavesUnwritten (Ok n) sink sink_after = Unit {0}
LeavesUnwritten (Err e) sink sink_after = WritesNoRange e.kind → sink_after ≡ sink
