-- What a range under a keyset says.
use Rattle.std.specs.Prelude.{◌≡◌, ◌⊎◌, ℕ, ◌+◌, List, ◌++◌, length, take, drop, Some, Result, Ok, Err}
use Rattle.std.specs.declared.option.Option.{Option}
use Rattle.tink_io.specs.Faults.{Rose}
use Rattle.tink_io.specs.declared.error.Kind.{Kind}
use Rattle.tink_io.specs.declared.error.Kind.TheVariants.{BadKeyset, BadSegment, InvalidKey, InvalidKeyset, NoMatchingKey, NoPrimary, OutOfMemory, ReadFault, TooManySegments, Truncated, UnsupportedKeyType, WriteFault, WrongPrimitive}
use Rattle.tink_io.specs.declared.error.TinkError.{TinkError}
use Rattle.stream_model.specs.Agree.{joined}
use Rattle.stream_model.specs.Opening.{IsChosen, IsStream, OpeningKey}
use Rattle.loading_model.specs.Loading.{Loaded, opening_keys}
use Rattle.tink_range.specs.ChunkReading.{Moments}
use Rattle.tink_range.specs.KeyRanges.{RangesUnder, TakesRangeSteps}
use Rattle.tink_range.specs.ReadCounts.{TakesRangeBytes}
use Rattle.tink_run.specs.AllKeys.{load}
use Rattle.tink_run.specs.OpenReads.{room_under}
use Rattle.tink_run.specs.Run.{CanOpen}
use Rattle.tink_rewrap.specs.SetRanges.{IsUnmoved}

-- nothing was read or written: the object itself is as it was, and so is the sink
pub record LeavesBoth {A W : Type 0} (object object_after : A) (e : Moments W) : Type 0 where
  pub unread : object_after ≡ object
  pub unmoved : IsUnmoved e

module _ {W : Type 0} (got : W → Option (List ℕ)) (faults : W → ℕ) (keyset aad : List ℕ) (whole start len : ℕ) (e : Moments W) where
  -- keys were loaded, and this is what the range under them says
  pub record RangesLoaded (answer : Result ℕ TinkError) : Type 0 where
    pub loaded : Loaded
    pub loads : load keyset ≡ Ok loaded
    pub means : RangesUnder got faults (opening_keys aad loaded) whole start len e answer

-- the same of an object before and after
module _ {A W : Type 0} (got : W → Option (List ℕ)) (faults : W → ℕ) (keyset aad : List ℕ) (whole start len : ℕ) (object object_after : A) (e : Moments W) where
  -- the keyset is refused, with nothing read or written
  pub record RefusesKeyset (kind : Kind) : Type 0 where
    pub cause : load keyset ≡ Err kind
    pub both : LeavesBoth object object_after e

  -- each refusal has its cause, and says what stands after it. No other refusal is given.
  abbrev pub KeysetRangeRefused : TinkError → Kind → Type 0
  KeysetRangeRefused error OutOfMemory = LeavesBoth object object_after e
  KeysetRangeRefused error BadKeyset = RefusesKeyset BadKeyset
  KeysetRangeRefused error InvalidKeyset = RefusesKeyset InvalidKeyset
  KeysetRangeRefused error UnsupportedKeyType = RefusesKeyset UnsupportedKeyType
  KeysetRangeRefused error InvalidKey = RefusesKeyset InvalidKey
  KeysetRangeRefused error NoPrimary = RefusesKeyset NoPrimary
  KeysetRangeRefused error WrongPrimitive = RefusesKeyset WrongPrimitive
  KeysetRangeRefused error NoMatchingKey = RangesLoaded got faults keyset aad whole start len e (Err error)
  KeysetRangeRefused error ReadFault = RangesLoaded got faults keyset aad whole start len e (Err error)
  KeysetRangeRefused error WriteFault = RangesLoaded got faults keyset aad whole start len e (Err error)
  KeysetRangeRefused error TooManySegments = RangesLoaded got faults keyset aad whole start len e (Err error)
  KeysetRangeRefused error (Truncated n) = RangesLoaded got faults keyset aad whole start len e (Err error)
  KeysetRangeRefused error (BadSegment n) = RangesLoaded got faults keyset aad whole start len e (Err error)
  KeysetRangeRefused error _ = ⊥

abbrev pub KeysetRangeMeans : {A W : Type 0} → (W → Option (List ℕ)) → (W → ℕ) → List ℕ → List ℕ → ℕ → ℕ → ℕ → A → A → Moments W → Result ℕ TinkError → Type 0
KeysetRangeMeans got faults keyset aad whole start len object object_after e (Ok n) = RangesLoaded got faults keyset aad whole start len e (Ok n)
KeysetRangeMeans got faults keyset aad whole start len object object_after e (Err error) = KeysetRangeRefused got faults keyset aad whole start len object object_after e error error.kind

-- no step where the keyset does not load, else at most those of the range under its keys
abbrev pub TakesKeysetSteps : List ℕ → List ℕ → Option (List ℕ) → ℕ → ℕ → ℕ → ℕ → ℕ → Type 0
TakesKeysetSteps keyset aad all whole start len before now =
    (now ≡ before) ⊎ ((l : Loaded) × (load keyset ≡ Ok l) × TakesRangeSteps (opening_keys aad l) all whole start len before now)

-- nothing is read where the keyset does not load, else at most what is read for the range under its keys
abbrev pub TakesKeysetBytes : List ℕ → List ℕ → Option (List ℕ) → ℕ → ℕ → ℕ → ℕ → ℕ → Type 0
TakesKeysetBytes keyset aad all whole start len before now =
    (now ≡ before)
    ⊎ ((l : Loaded) × (load keyset ≡ Ok l) × TakesRangeBytes (opening_keys aad l) all whole start len (room_under (opening_keys aad l)) before now)

-- of a text the bytes from place `start` on and below `start + len`, as far as there are such
abbrev pub slice_of_text : ℕ → ℕ → List ℕ → List ℕ
slice_of_text start len text = drop start (take (start + len) text)

-- that slice of the text was written behind what the sink had got, and it has so many bytes
pub record WroteSlice (start len : ℕ) (text before : List ℕ) (after : Option (List ℕ)) (n : ℕ) : Type 0 where
  pub written : after ≡ Some (before ++ slice_of_text start len text)
  pub count : n ≡ length (slice_of_text start len text)

-- Known bytes: where the object is a stream of the chosen key, of these texts, the range of their text was written.
abbrev pub GivesSlice : {W : Type 0} → (W → Option (List ℕ)) → List ℕ → List ℕ → ℕ → ℕ → Moments W → ℕ → Type 0
GivesSlice got keyset aad start len e n =
    (S G : List ℕ) (l : Loaded) (key : OpeningKey) (texts : List (List ℕ))
    → e.all ≡ Some S → got e.old ≡ Some G
    → load keyset ≡ Ok l → IsChosen (opening_keys aad l) S (Some key) → IsStream key S texts
    → WroteSlice start len (joined texts) G (got e.new) n

-- a range is given, or there is no memory
abbrev pub IsGivenOrWants : Result ℕ TinkError → Type 0
IsGivenOrWants (Ok n) = Unit {0}
IsGivenOrWants (Err e) = e.kind ≡ OutOfMemory

-- Known bytes: where neither count rose, the keyset loads and the object is a stream of the chosen key, each range is
-- given, or there is no memory.
abbrev pub IsRangeComplete : {W : Type 0} → (W → ℕ) → List ℕ → List ℕ → Moments W → Result ℕ TinkError → Type 0
IsRangeComplete faults keyset aad e answer =
    (S : List ℕ) → e.all ≡ Some S
    → (Rose e.reads_before e.reads_after → ⊥) → (Rose (faults e.old) (faults e.new) → ⊥)
    → CanOpen keyset aad S → IsGivenOrWants answer
