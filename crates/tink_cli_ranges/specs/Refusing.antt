-- Why a command over a part of a stream ended by an error.
use Rattle.std.specs.Prelude.{◌≡◌, ◌⊎◌, ◌≤◌, ◌<◌, ◌^◌, ℕ, List, length, true, Option, Some, None, Ok, Err}
use Rattle.tink_cli_words.specs.LineRead.{LineRead}
use Rattle.stream_model.specs.Opening.{IsChosen}
use Rattle.loading_model.specs.Loading.{Loaded, opening_keys}
use Rattle.tink_io.specs.Faults.{Rose}
use Rattle.tink_io.specs.declared.error.Kind.{Kind}
use Rattle.tink_io.specs.declared.error.Kind.TheVariants.{BadKeyset, BadSegment, InvalidKey, InvalidKeyset, NoMatchingKey, NoPrimary, TooManySegments, Truncated, UnsupportedKeyType, WrongPrimitive}
use Rattle.tink_range.specs.Giving.{Cutting, chunks_in}
use Rattle.tink_range.specs.KeyRanges.{IsCutUnder}
use Rattle.tink_range.specs.RangeReading.{RefusesLast, range_end, range_start}
use Rattle.tink_range.specs.Ranges.{LastAgrees, StopsAtChunk, chunk_count}
use Rattle.tink_run.specs.AllKeys.{load}
use Rattle.tink_system.specs.States.{SystemState, content}
use Rattle.tink_system.specs.Statuses.{refusal_status}
use Rattle.tink_cli_jobs.specs.Jobs.{IsKeyWords, IsKeysetOf, data_of}
use Rattle.tink_cli_jobs.specs.Loading.{HasStatusOf, keyset_of, named}
use Rattle.tink_cli_jobs.specs.Protecting.{names_twice}
use Rattle.tink_cli_jobs.specs.declared.keys.KeyWords.{KeyWords}

-- ---- an object, as a key cuts it

-- chunk n, the last one, is the segment of no text, and this holds of its length
pub record IsRefusedAtLast (object : List ℕ) (c : Cutting) (behind n : ℕ) (P : ℕ → Type 0) : Type 0 where
  pub few : chunk_count c.first c.size behind ≤ 2 ^ 32
  pub last : RefusesLast c behind (Some object) n P

-- the last chunk is the segment of a text, and chunk n is the first of those that the range touches which is of none
pub record IsRefusedInside (start len : ℕ) (object : List ℕ) (c : Cutting) (behind n : ℕ) : Type 0 where
  pub few : chunk_count c.first c.size behind ≤ 2 ^ 32
  pub last : LastAgrees c.seg (chunks_in c object)
  pub bytes : List ℕ
  pub stops : StopsAtChunk c.seg c.over (range_start c behind start) (range_end c behind start len) (chunks_in c object) bytes n

-- the end of the object is refused by this kind of error
abbrev pub IsEndRefused : List ℕ → Cutting → ℕ → Kind → Type 0
IsEndRefused object c behind TooManySegments = 2 ^ 32 < chunk_count c.first c.size behind
IsEndRefused object c behind (Truncated n) = IsRefusedAtLast object c behind n (λ size. size < c.over)
IsEndRefused object c behind (BadSegment n) = IsRefusedAtLast object c behind n (λ size. c.over ≤ size)
IsEndRefused object c behind _ = ⊥

-- the same of a range: its end, or a chunk that it touches
abbrev pub IsRangeRefused : ℕ → ℕ → List ℕ → Cutting → ℕ → Kind → Type 0
IsRangeRefused start len object c behind TooManySegments = IsEndRefused object c behind TooManySegments
IsRangeRefused start len object c behind (Truncated n) = IsEndRefused object c behind (Truncated n)
IsRangeRefused start len object c behind (BadSegment n) = IsEndRefused object c behind (BadSegment n) ⊎ IsRefusedInside start len object c behind n
IsRangeRefused start len object c behind _ = ⊥

-- ---- an object under a keyset, by what refuses it as a key cuts it

module _ (refuses : List ℕ → Cutting → ℕ → Kind → Type 0) (keyset aad object : List ℕ) where
  -- it begins under no key of the keyset
  abbrev pub BeginsUnderNone : Type 0
  BeginsUnderNone = (l : Loaded) × (load keyset ≡ Ok l) × IsChosen (opening_keys aad l) object None

  -- it begins under a key, and is refused as this key cuts it
  abbrev pub IsRefusedUnder : Kind → Type 0
  IsRefusedUnder kind =
      (l : Loaded) × (load keyset ≡ Ok l) × IsCutUnder (opening_keys aad l) (Some object) (length object) (λ c behind. refuses object c behind kind)

  -- the keyset does not load, or the object under it is refused by this kind of error
  abbrev pub IsRefused : Kind → Type 0
  IsRefused BadKeyset = load keyset ≡ Err BadKeyset
  IsRefused InvalidKeyset = load keyset ≡ Err InvalidKeyset
  IsRefused UnsupportedKeyType = load keyset ≡ Err UnsupportedKeyType
  IsRefused InvalidKey = load keyset ≡ Err InvalidKey
  IsRefused NoPrimary = load keyset ≡ Err NoPrimary
  IsRefused WrongPrimitive = load keyset ≡ Err WrongPrimitive
  IsRefused NoMatchingKey = BeginsUnderNone
  IsRefused TooManySegments = IsRefusedUnder TooManySegments
  IsRefused (Truncated n) = IsRefusedUnder (Truncated n)
  IsRefused (BadSegment n) = IsRefusedUnder (BadSegment n)
  IsRefused _ = ⊥

  -- the status is that of such an error
  pub record EndsBy (status : ℕ) : Type 0 where
    pub kind : Kind
    pub refused : IsRefused kind
    pub status_is : status ≡ refusal_status kind

-- there is no memory, something could not be written for this cause, or the object is refused by this status, if it tells its bytes
abbrev pub MayEnd : (List ℕ → Cutting → ℕ → Kind → Type 0) → Type 0 → List ℕ → List ℕ → Option (List ℕ) → ℕ → Type 0
MayEnd refuses unwritten keyset aad all status =
    (status ≡ 10) ⊎ ((status ≡ 12) × unwritten) ⊎ ((object : List ℕ) → all ≡ Some object → EndsBy refuses keyset aad object status)

-- ---- an input and an output

-- Why nothing can be written: standard output failed. Of another output no clause has the cause.
abbrev pub CannotWrite : Option (List ℕ) → ℕ → ℕ → Type 0
CannotWrite None out out_after = Rose out out_after
CannotWrite (Some output) out out_after = Unit {0}

-- the input with this name is refused by this status
pub record EndsOf (refuses : List ℕ → Cutting → ℕ → Kind → Type 0) (keyset aad : List ℕ) (s : SystemState) (input : Option (List ℕ)) (status : ℕ) : Type 0 where
  pub object : List ℕ
  pub read : content s input ≡ Some object
  pub ends : EndsBy refuses keyset aad object status

-- Why nothing is made of an input: there is no memory, a call of the system failed, standard input has no places, nothing has the name
-- of the input, the output cannot be written for this cause, or the input is refused.
abbrev pub HasCauseOf : (List ℕ → Cutting → ℕ → Kind → Type 0) → Type 0 → List ℕ → List ℕ → SystemState → Option (List ℕ) → ℕ → ℕ → ℕ → Type 0
HasCauseOf refuses unwritten keyset aad s input before now status =
    (status ≡ 10) ⊎ Rose before now ⊎ ((status ≡ 2) × (input ≡ None)) ⊎ ((status ≡ 11) × (content s input ≡ None))
    ⊎ ((status ≡ 12) × unwritten) ⊎ EndsOf refuses keyset aad s input status

-- ---- the words

-- the keyset of the words is not loaded: their file of keys, or their master, gives an error of this status
pub record IsUnkeyed (line : LineRead) (s : SystemState) (status : ℕ) : Type 0 where
  pub file : List ℕ
  pub given : line.keys ≡ Some file
  pub words : KeyWords
  pub are : IsKeyWords line file words
  pub refused : HasStatusOf (keyset_of s words) status

-- the input that the words name is refused, under their keyset and data
pub record EndsLine (refuses : List ℕ → Cutting → ℕ → Kind → Type 0) (line : LineRead) (s : SystemState) (status : ℕ) : Type 0 where
  pub keyset : List ℕ
  pub keys : IsKeysetOf line s line.keys keyset
  pub ends : EndsOf refuses keyset (data_of line.aad) s (named line.first) status

-- the same of the range that the words name
pub record EndsRange (line : LineRead) (s : SystemState) (status : ℕ) : Type 0 where
  pub start : ℕ
  pub start_is : line.start ≡ Some start
  pub len : ℕ
  pub len_is : line.length ≡ Some len
  pub ends : EndsLine (IsRangeRefused start len) line s status

-- there is no file of keys, or standard input is read, which has no places
abbrev pub IsNameless : LineRead → Type 0
IsNameless line = (line.keys ≡ None) ⊎ (named line.first ≡ None)

-- a word of a range is missing
abbrev pub IsUnspelled : LineRead → Type 0
IsUnspelled line = (line.start ≡ None) ⊎ (line.length ≡ None) ⊎ IsNameless line

-- standard input is read for two things, or nothing has the name of the input
abbrev pub IsUnread : LineRead → SystemState → Type 0
IsUnread line s = (names_twice line ≡ true) ⊎ (content s (named line.first) ≡ None)

-- Why a command ended by a status: there is no memory, a call of the system failed, or the words, the files and the output give this
-- very error. The words lack something, the input is not read, the output cannot be written, the keyset is not loaded, or the input is
-- refused.
abbrev pub HasPartCause : Type 0 → Type 0 → Type 0 → LineRead → SystemState → ℕ → ℕ → ℕ → Type 0
HasPartCause lacks unwritten ends line s before now status =
    (status ≡ 10) ⊎ Rose before now ⊎ ((status ≡ 2) × lacks) ⊎ ((status ≡ 11) × IsUnread line s) ⊎ ((status ≡ 12) × unwritten) ⊎ IsUnkeyed line s status ⊎ ends

-- that of `range`
abbrev pub HasRangeCause : LineRead → SystemState → ℕ → ℕ → ℕ → ℕ → ℕ → Type 0
HasRangeCause line s before now out out_after status =
    HasPartCause (IsUnspelled line) (CannotWrite (named line.output) out out_after) (EndsRange line s status) line s before now status

-- that of `info`
abbrev pub HasInfoCause : LineRead → SystemState → ℕ → ℕ → ℕ → ℕ → ℕ → Type 0
HasInfoCause line s before now out out_after status =
    HasPartCause (IsNameless line) (Rose out out_after) (EndsLine IsEndRefused line s status) line s before now status
