-- What a range of an object's text under some keys says.
use Rattle.std.specs.Prelude.{◌≡◌, ◌⊎◌, ◌≤◌, ℕ, ◌+◌, ◌-◌, ◌/◌, List, length, None, IfSome, Result, Ok, Err}
use Rattle.std.specs.declared.option.Option.{Option}
use Rattle.tink_io.specs.Faults.{Rose}
use Rattle.tink_io.specs.declared.error.Kind.{Kind}
use Rattle.tink_io.specs.declared.error.Kind.TheVariants.{BadSegment, NoMatchingKey, ReadFault, TooManySegments, Truncated, WriteFault}
use Rattle.tink_io.specs.declared.error.TinkError.{TinkError}
use Rattle.stream_model.specs.Opening.{IsChosen, OpeningKey}
use Rattle.tink_streaming_io.specs.Choosing.{Found}
use Rattle.tink_range.specs.ChunkReading.{Moments}
use Rattle.tink_range.specs.Giving.{Cutting}
use Rattle.tink_range.specs.RangeReading.{GaveRange, RangeRefused, range_end, range_start}

-- a key is chosen for the object, which is cut by it into a front and so many bytes behind, and P holds of this
pub record IsCutUnder (keys : List OpeningKey) (all : Option (List ℕ)) (whole : ℕ) (P : Cutting → ℕ → Type 0) : Type 0 where
  pub cutting : Cutting
  pub behind : ℕ
  pub found : IfSome all (λ S. Found keys S cutting.seg cutting.front cutting.first cutting.size cutting.over)
  pub whole_is : cutting.front + behind ≡ whole
  pub then : P cutting behind

-- at most so many chunks are opened for a range: the last one, and those that its length fills and touches
abbrev pub range_steps : Cutting → ℕ → ℕ → ℕ → ℕ
range_steps c behind start len =
    (range_end c behind start len - range_start c behind start + (c.size - c.over) - 1) / (c.size - c.over) + 2

-- a step for each key at most, and where one is chosen those of the range
abbrev pub TakesRangeSteps : List OpeningKey → Option (List ℕ) → ℕ → ℕ → ℕ → ℕ → ℕ → Type 0
TakesRangeSteps keys all whole start len before now =
    (now ≤ before + length keys) ⊎ IsCutUnder keys all whole (λ c behind. now ≤ before + length keys + range_steps c behind start len)

module _ {W : Type 0} (got : W → Option (List ℕ)) (faults : W → ℕ) (keys : List OpeningKey) (whole start len : ℕ) (e : Moments W) where
  -- the object failed before a key was chosen, and nothing was written
  pub record FailsBeforeKey : Type 0 where
    pub rose : Rose e.reads_before e.reads_after
    pub same : e.new ≡ e.old

  -- the object begins under none of the keys, and nothing was written
  pub record BeginsUnderNone : Type 0 where
    pub none : IfSome e.all (λ S. IsChosen keys S None)
    pub same : e.new ≡ e.old

  -- the range of the object as the chosen key cuts it is refused
  abbrev pub CutRefused : Kind → Type 0
  CutRefused kind = IsCutUnder keys e.all whole (λ c behind. RangeRefused got faults c behind start len e kind)

  -- each refusal
  abbrev pub RangesUnderRefused : Kind → Type 0
  RangesUnderRefused NoMatchingKey = BeginsUnderNone
  RangesUnderRefused ReadFault = FailsBeforeKey ⊎ CutRefused ReadFault
  RangesUnderRefused WriteFault = CutRefused WriteFault
  RangesUnderRefused TooManySegments = CutRefused TooManySegments
  RangesUnderRefused (Truncated n) = CutRefused (Truncated n)
  RangesUnderRefused (BadSegment n) = CutRefused (BadSegment n)
  RangesUnderRefused _ = ⊥

-- what a range under keys answers
abbrev pub RangesUnder : {W : Type 0} → (W → Option (List ℕ)) → (W → ℕ) → List OpeningKey → ℕ → ℕ → ℕ → Moments W → Result ℕ TinkError → Type 0
RangesUnder got faults keys whole start len e (Ok n) = IsCutUnder keys e.all whole (λ c behind. GaveRange got faults c behind start len e n)
RangesUnder got faults keys whole start len e (Err error) = RangesUnderRefused got faults keys whole start len e error.kind
