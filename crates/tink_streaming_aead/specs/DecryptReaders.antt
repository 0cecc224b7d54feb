-- A reader of a keyset's streams: what a contract sees of it, and what its reads say.
use Rattle.std.specs.Prelude.{◌≡◌, ◌≤◌, ◌+◌, ℕ, Bool, List, [], ◌∷◌, length, map, max, All, Result, Ok, Err, IfSome, None}
use Rattle.std.specs.declared.option.Option.{Option}
use Rattle.tink_io.specs.Faults.{Rose}
use Rattle.tink_io.specs.Taken.{LosesAtMost}
use Rattle.tink_io.specs.declared.error.Cause.{Cause}
use Rattle.tink_io.specs.declared.error.Cause.TheVariants as cause
use Rattle.tink_io.specs.declared.error.Kind.{Kind}
use Rattle.tink_io.specs.declared.error.Kind.TheVariants.{FailedBefore, NoMatchingKey, OutOfMemory, ReadFault}
use Rattle.tink_io.specs.declared.error.TinkError.{TinkError}
use Rattle.tink_primitives.specs.declared.streams.Refused.{Refused}
use Rattle.stream_model.specs.Key.{StreamKey, IsUsable}
use Rattle.stream_model.specs.Opening.{IsChosen, OpeningKey, opening_key}
use Rattle.tink_streaming_io.specs.Choosing.{Started}
use Rattle.tink_streaming_io.specs.Readers.{ReaderState, lacks, moment_of, seg_of}
use Rattle.tink_streaming_ciphers.specs.StreamSegments.{segment_by}
use Rattle.tink_streaming_io.specs.TextReading.{GivesText, IsDue, TextMoment, ReadMeans}
use Rattle.tink_streaming_io.specs.Trials.{ReadsFronts}
use Rattle.tink_streaming_io.specs.declared.progress.Progress.TheVariants.{Running}
use Rattle.tink_streaming_ciphers.specs.declared.stream_segment.StreamSegment.{StreamSegment}

-- Keys in order with associated data, and none is chosen yet: nothing is read, and this many bytes have room to be kept; or
-- the reader of the chosen key; or what the first read was refused by. The source is the reader's.
pub data DecryptState (S : Type 0) : Type 0 where
  Unread : List StreamKey → List ℕ → ℕ → S → DecryptState S
  Chosen : ReaderState S StreamSegment → DecryptState S
  Stopped : Cause → S → DecryptState S

abbrev pub source_in : {S : Type 0} → DecryptState S → S
source_in (Unread keys aad room source) = source
source_in (Chosen r) = r.source
source_in (Stopped c source) = source

-- the number of segments opened so far
abbrev pub number_of : {S : Type 0} → DecryptState S → ℕ
number_of (Unread keys aad room source) = 0
number_of (Chosen r) = r.number
number_of (Stopped c source) = 0

-- the bytes that were read and are kept
abbrev pub kept_of : {S : Type 0} → DecryptState S → List ℕ
kept_of (Unread keys aad room source) = []
kept_of (Chosen r) = r.held
kept_of (Stopped c source) = []

-- how many bytes have room to be kept
abbrev pub room_of : {S : Type 0} → DecryptState S → ℕ
room_of (Unread keys aad room source) = room
room_of (Chosen r) = r.room
room_of (Stopped c source) = 0

-- the memory for so many bytes, for a text of as many, for a nonce of the longest and for the prefix of nonces, in bytes
abbrev pub memory_for : ℕ → ℕ
memory_for room = room + room + 16 + 7

-- the memory that is kept for a segment, its text, its nonce and the prefix of nonces, in bytes
abbrev pub memory_of : {S : Type 0} → DecryptState S → ℕ
memory_of (Unread keys aad room source) = memory_for room
memory_of (Chosen r) = r.memory
memory_of (Stopped c source) = 0

-- the most bytes of a key's output prefix and a segment
abbrev pub largest : List StreamKey → ℕ
largest [] = 0
largest (k ∷ keys) = max (length k.out + k.segment) (largest keys)

-- the largest segment of some keys
abbrev pub largest_segment : List StreamKey → ℕ
largest_segment [] = 0
largest_segment (k ∷ keys) = max k.segment (largest_segment keys)

abbrev pub IsUnread : {S : Type 0} → DecryptState S → Type 0
IsUnread (Unread keys aad room source) = Unit {0}
IsUnread _ = ⊥

-- The first key under which the stream begins is chosen, and the read gave bytes of its first text.
pub record GivesFirst (keys : List OpeningKey) (all : Option (List ℕ)) (seg : ℕ → Bool → List ℕ → List ℕ) (first size overhead : ℕ) (new : TextMoment) (before after : List ℕ) (n : ℕ) : Type 0 where
  pub rest : Option (List ℕ)
  pub chosen : IfSome all (λ X. Started keys X rest seg first size overhead)
  pub faults : ℕ
  pub gave : GivesText seg first size (record { progress = Running; number = 0; pending = []; rest = rest; faults = faults }) new before after n

-- what the first read is refused by, as a cause of later refusals
abbrev pub cause_of : Kind → Cause
cause_of ReadFault = cause.ReadFault
cause_of _ = cause.NoMatchingKey

-- the refusal of a first read, where the chosen key's reader is refused
abbrev pub first_refusal : Kind → Kind
first_refusal ReadFault = ReadFault
first_refusal _ = NoMatchingKey

-- each refusal of the first read
abbrev pub FirstReadRefused : List OpeningKey → Option (List ℕ) → ℕ → ℕ → Kind → Type 0
FirstReadRefused keys all before now NoMatchingKey = IfSome all (λ X. IsChosen keys X None)
FirstReadRefused keys all before now ReadFault = Rose before now
FirstReadRefused keys all before now _ = ⊥

module _ {S : Type 0} (left : S → Option (List ℕ)) (faults : S → ℕ) where
  -- what the first read to a buffer with room says
  abbrev pub FirstReadMeans : List OpeningKey → S → DecryptState S → List ℕ → List ℕ → Result ℕ TinkError → Type 0
  FirstReadMeans keys source (Chosen r) before after (Ok n) =
      GivesFirst keys (left source) (seg_of segment_by r.opening) r.opening.first r.opening.size r.opening.overhead (moment_of left faults r) before after n
  FirstReadMeans keys source (Stopped c now) before after (Err e) = (after ≡ before) × (c ≡ cause_of e.kind) × FirstReadRefused keys (left source) (faults source) (faults now) e.kind
  FirstReadMeans keys source _ before after _ = ⊥

  -- where a key is chosen and no segment is due for so much room, nothing was read
  abbrev pub ReadsNoMore : DecryptState S → DecryptState S → ℕ → Type 0
  ReadsNoMore (Chosen old) (Chosen new) room = (IsDue (moment_of left faults old) room → ⊥) → (new.source ≡ old.source) × (new.held ≡ old.held)
  ReadsNoMore _ _ room = Unit {0}

  -- what a read says once a key is chosen
  abbrev pub ChosenReadMeans : ReaderState S StreamSegment → DecryptState S → List ℕ → List ℕ → Result ℕ TinkError → Type 0
  ChosenReadMeans old (Chosen new) before after r =
      (new.opening ≡ old.opening) × ReadMeans (seg_of segment_by old.opening) old.opening.first old.opening.size old.opening.overhead (moment_of left faults old) (moment_of left faults new) before after r
  ChosenReadMeans old _ before after r = ⊥

  -- what a read says
  abbrev pub DecryptMeans : DecryptState S → DecryptState S → List ℕ → List ℕ → Result ℕ TinkError → Type 0
  DecryptMeans (Unread keys aad room source) new [] after r = (r ≡ Ok 0) × (new ≡ Unread keys aad room source) × (after ≡ [])
  DecryptMeans (Unread keys aad room source) new (b ∷ before) after r = FirstReadMeans (map (opening_key aad) keys) source new (b ∷ before) after r
  DecryptMeans (Chosen old) new before after r = ChosenReadMeans old new before after r
  DecryptMeans (Stopped c source) new before after r = (r ≡ Err (record { kind = FailedBefore c })) × (new ≡ Stopped c source) × (after ≡ before)

-- by the first read, whatever it answers, no more of the source was read than has room, and where the stream begins in a
-- front of none of the keys no more than the longest front and a byte; by a read of the chosen key's reader, no more than
-- the next chunk and a byte behind it
abbrev pub TakesAtMost : {S : Type 0} → (S → Option (List ℕ)) → DecryptState S → DecryptState S → Type 0
TakesAtMost left (Unread keys aad room source) (Chosen r) = LosesAtMost room (left source) (left r.source)
TakesAtMost left (Unread keys aad room source) (Stopped c now) =
    LosesAtMost room (left source) (left now) × IfSome (left source) (ReadsFronts (map (opening_key aad) keys) 0 (left source) (left now))
TakesAtMost left (Chosen old) (Chosen new) = LosesAtMost (lacks old) (left old.source) (left new.source)
TakesAtMost left _ _ = Unit {0}

-- no more bytes are kept than have room, and there is no more room and no more memory than before
pub record KeepsNoMore {S : Type 0} (old new : DecryptState S) : Type 0 where
  pub kept : length (kept_of new) ≤ room_of new
  pub room : room_of new ≤ room_of old
  pub memory : memory_of new ≤ memory_of old

-- a reader of these keys that has read nothing, with room for a byte more than the most that one of them has of its output
-- prefix and a segment
pub record IsUnreadReader {S : Type 0} (keys : List StreamKey) (aad : List ℕ) (source : S) (reader : DecryptState S) : Type 0 where
  pub unread : reader ≡ Unread keys aad (largest keys + 1) source
  pub usable : All IsUsable keys

-- there was no memory for one, and the source is handed back as it was
pub record HandsBack {S : Type 0} (source : S) (refused : Refused S) : Type 0 where
  pub cause : refused.error.kind ≡ OutOfMemory
  pub inner : refused.inner ≡ source

-- what a call for a new reader by some keys answers
abbrev pub KeysReaderMeans : {S : Type 0} → List StreamKey → List ℕ → S → Result (DecryptState S) (Refused S) → Type 0
KeysReaderMeans keys aad source (Ok reader) = IsUnreadReader keys aad source reader
KeysReaderMeans keys aad source (Err refused) = HandsBack source refused
