-- What an error of a range leaves on standard output.
use Rattle.std.specs.Prelude.{◌≡◌, ◌⊎◌, ℕ, List, length, Option, Some, None, Ok}
use Rattle.std.specs.Io.KnownBytes.{Appends}
use Rattle.tink_cli_words.specs.LineRead.{LineRead}
use Rattle.loading_model.specs.Loading.{Loaded, opening_keys}
use Rattle.tink_io.specs.Written.{AppendsPrefix}
use Rattle.tink_io.specs.declared.error.Kind.{Kind}
use Rattle.tink_io.specs.declared.error.Kind.TheVariants.{BadSegment, WriteFault}
use Rattle.tink_range.specs.Giving.{Cutting, chunks_in}
use Rattle.tink_range.specs.KeyRanges.{IsCutUnder}
use Rattle.tink_range.specs.RangeReading.{range_end, range_start}
use Rattle.tink_range.specs.Ranges.{SomeGive, StopsAtChunk}
use Rattle.tink_run.specs.AllKeys.{load}
use Rattle.tink_system.specs.States.{SystemState, content}
use Rattle.tink_system.specs.Statuses.{refusal_status}
use Rattle.tink_cli_jobs.specs.Jobs.{IsKeysetOf, data_of}
use Rattle.tink_cli_jobs.specs.Loading.{named}

module _ (start len : ℕ) (object : List ℕ) (got got_after : Option (List ℕ)) (c : Cutting) (behind : ℕ) where
  -- chunk n is the first that the range touches which is the segment of no text, and the range's parts of those before it are there
  pub record GaveBefore (n : ℕ) : Type 0 where
    pub bytes : List ℕ
    pub stops : StopsAtChunk c.seg c.over (range_start c behind start) (range_end c behind start len) (chunks_in c object) bytes n
    pub written : Appends got got_after bytes

  -- a part of what some chunks that the range touches give, from the first on, is there
  pub record GavePart : Type 0 where
    pub bytes : List ℕ
    pub gives : SomeGive c.seg c.over (range_start c behind start) (range_end c behind start len) (chunks_in c object) bytes
    pub written : AppendsPrefix got got_after bytes

  -- what is there of a range after this kind of error
  abbrev pub GaveUntil : Kind → Type 0
  GaveUntil (BadSegment n) = GaveBefore n
  GaveUntil WriteFault = GavePart
  GaveUntil _ = ⊥

-- the object begins under a key, and a part of its range was written as this key cuts it, up to this kind of error
abbrev pub GaveUnder : ℕ → ℕ → List ℕ → List ℕ → List ℕ → Option (List ℕ) → Option (List ℕ) → Kind → Type 0
GaveUnder start len keyset aad object got got_after kind =
    (l : Loaded) × (load keyset ≡ Ok l)
    × IsCutUnder (opening_keys aad l) (Some object) (length object) (λ c behind. GaveUntil start len object got got_after c behind kind)

-- the status is that of such an error
pub record Stops (start len : ℕ) (keyset aad object : List ℕ) (got got_after : Option (List ℕ)) (status : ℕ) : Type 0 where
  pub kind : Kind
  pub gave : GaveUnder start len keyset aad object got got_after kind
  pub status_is : status ≡ refusal_status kind

-- the same of an object that may not tell its bytes
abbrev pub MayStop : ℕ → ℕ → List ℕ → List ℕ → Option (List ℕ) → Option (List ℕ) → Option (List ℕ) → ℕ → Type 0
MayStop start len keyset aad all got got_after status = (object : List ℕ) → all ≡ Some object → Stops start len keyset aad object got got_after status

-- the same of an input by its name
pub record StopsOf (start len : ℕ) (keyset aad : List ℕ) (s : SystemState) (input got got_after : Option (List ℕ)) (status : ℕ) : Type 0 where
  pub object : List ℕ
  pub read : content s input ≡ Some object
  pub stops : Stops start len keyset aad object got got_after status

-- the same of the range and the input that the words name, under their keyset and data
pub record StopsLine (line : LineRead) (s : SystemState) (got got_after : Option (List ℕ)) (status : ℕ) : Type 0 where
  pub start : ℕ
  pub start_is : line.start ≡ Some start
  pub len : ℕ
  pub len_is : line.length ≡ Some len
  pub keyset : List ℕ
  pub keys : IsKeysetOf line s line.keys keyset
  pub stops : StopsOf start len keyset (data_of line.aad) s (named line.first) got got_after status

-- If the output is a file or a device, standard output stays. Else it stays, or this holds.
abbrev pub StaysOr : Option (List ℕ) → Option (List ℕ) → Option (List ℕ) → Type 0 → Type 0
StaysOr (Some output) got got_after stops = got_after ≡ got
StaysOr None got got_after stops = (got_after ≡ got) ⊎ stops

abbrev pub LeavesRange : LineRead → SystemState → Option (List ℕ) → Option (List ℕ) → ℕ → Type 0
LeavesRange line s got got_after status = StaysOr (named line.output) got got_after (StopsLine line s got got_after status)
