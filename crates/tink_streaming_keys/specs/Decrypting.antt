-- What a new reader of one key's stream says, and what stands after a refusal of one.
use Rattle.std.specs.Prelude.{◌≡◌, ◌⊎◌, ℕ, ◌+◌, ◌<◌, ◌≤◌, Bool, List, [], length, slice_index, Some, Result, Ok, Err, IfOk}
use Rattle.std.specs.declared.option.Option.{Option}
use Rattle.std.specs.Io.KnownBytes.{Consumes, IsAtEnd}
use Rattle.tink_io.specs.Faults.{Rose}
use Rattle.tink_io.specs.Taken.{LosesAtMost}
use Rattle.tink_io.specs.declared.error.Kind.{Kind}
use Rattle.tink_io.specs.declared.error.Kind.TheVariants.{OutOfMemory, ReadFault, NoMatchingKey, UnknownHash, UnsupportedHash}
use Rattle.tink_primitives.specs.declared.streams.Refused.{Refused}
use Rattle.stream_model.specs.Key.{StreamKey, first_segment, header_length, nonce_size, overhead}
use Rattle.stream_model.specs.Opening.{opening_key}
use Rattle.tink_streaming_io.specs.Readers.{ReaderState, moment_of, seg_of}
use Rattle.tink_streaming_ciphers.specs.StreamSegments.{segment_by}
use Rattle.tink_streaming_keys.specs.StreamingKeys.{DerivesNothing}
use Rattle.tink_streaming_io.specs.TextReading.{TextMoment}
use Rattle.tink_streaming_io.specs.declared.progress.Progress.TheVariants.{Running}
use Rattle.tink_streaming_ciphers.specs.declared.stream_segment.StreamSegment.{StreamSegment}

-- a header of the key was read
pub record ReadsHeader (k : StreamKey) (old new : Option (List ℕ)) (header : List ℕ) : Type 0 where
  pub long : length header ≡ header_length k
  pub mark : slice_index header 0 ≡ header_length k
  pub read : Consumes old new header

-- A reader that has opened nothing and holds nothing opens the segments of the key under the header that was read, behind
-- which the source stands.
pub record IsNewReader (k : StreamKey) (aad : List ℕ) (before : Option (List ℕ)) (seg : ℕ → Bool → List ℕ → List ℕ) (first size over : ℕ) (held : List ℕ) (m : TextMoment) : Type 0 where
  pub header : List ℕ
  pub reads : ReadsHeader k before m.rest header
  pub segments : (opening_key aad k).seg header ≡ Some seg
  pub first_is : first ≡ first_segment k
  pub size_is : size ≡ k.segment
  pub overhead_is : over ≡ overhead k
  pub running : m.progress ≡ Running
  pub number : m.number ≡ 0
  pub pending : m.pending ≡ []
  pub none_held : held ≡ []

-- what was read is shorter than a header and all there is, or has another mark in front
pub record HasNoHeader (k : StreamKey) (old new : Option (List ℕ)) : Type 0 where
  pub bytes : List ℕ
  pub read : Consumes old new bytes
  pub cause : ((length bytes < header_length k) × IsAtEnd new) ⊎ ((length bytes ≡ header_length k) × (slice_index bytes 0 ≡ header_length k → ⊥))

-- the source failed, and no more of it is gone than a header's bytes
pub record ReadHeaderPart (k : StreamKey) (old new : Option (List ℕ)) (before now : ℕ) : Type 0 where
  pub rose : Rose before now
  pub read : LosesAtMost (header_length k) old new

-- a header was read, and the hash of HKDF is refused
pub record ReadHeaderAlone (k : StreamKey) (old new : Option (List ℕ)) (kind : Kind) : Type 0 where
  pub header : List ℕ
  pub reads : ReadsHeader k old new header
  pub hash : DerivesNothing k kind

-- what is refused of a header
abbrev pub HeaderRefused : StreamKey → Option (List ℕ) → Option (List ℕ) → ℕ → ℕ → Kind → Type 0
HeaderRefused k old new before now ReadFault = ReadHeaderPart k old new before now
HeaderRefused k old new before now NoMatchingKey = HasNoHeader k old new
HeaderRefused k old new before now _ = ⊥

-- each refusal of a new reader
abbrev pub NewReaderRefused : {R : Type 0} → (R → Option (List ℕ)) → (R → ℕ) → StreamKey → R → R → Kind → Type 0
NewReaderRefused left faults k old new OutOfMemory = new ≡ old
NewReaderRefused left faults k old new ReadFault = ReadHeaderPart k (left old) (left new) (faults old) (faults new)
NewReaderRefused left faults k old new NoMatchingKey = HasNoHeader k (left old) (left new)
NewReaderRefused left faults k old new UnknownHash = ReadHeaderAlone k (left old) (left new) UnknownHash
NewReaderRefused left faults k old new UnsupportedHash = ReadHeaderAlone k (left old) (left new) UnsupportedHash
NewReaderRefused left faults k old new _ = ⊥

-- what a call for a new reader of a source answers
abbrev pub NewReaderMeans : {R : Type 0} → (R → Option (List ℕ)) → (R → ℕ) → StreamKey → List ℕ → R → Result (ReaderState R StreamSegment) (Refused R) → Type 0
NewReaderMeans left faults k aad source (Ok r) =
    IsNewReader k aad (left source) (seg_of segment_by r.opening) r.opening.first r.opening.size r.opening.overhead r.held (moment_of left faults r)
NewReaderMeans left faults k aad source (Err refused) = NewReaderRefused left faults k source refused.inner refused.error.kind

-- the source, in the reader or handed back
abbrev pub source_of : {R : Type 0} → Result (ReaderState R StreamSegment) (Refused R) → R
source_of (Ok r) = r.source
source_of (Err refused) = refused.inner

-- the memory for a segment of a key and a byte more, its text, its nonce and the prefix of nonces, in bytes
abbrev pub reader_room : StreamKey → ℕ
reader_room k = (k.segment + 1) + (k.segment + 1) + nonce_size k + 7

-- a call for a new reader of a source: what it answers, that the source's count of faults does not fall, what it keeps of
-- the source, and the memory that the reader has
pub record StartsReader {R : Type 0} (left : R → Option (List ℕ)) (faults : R → ℕ) (same : R → R → Type 0) (k : StreamKey) (aad : List ℕ) (source : R) (result : Result (ReaderState R StreamSegment) (Refused R)) : Type 0 where
  pub means : NewReaderMeans left faults k aad source result
  pub later : faults source ≤ faults (source_of result)
  pub kept : same source (source_of result)
  pub memory : IfOk result (λ r. r.memory ≡ reader_room k)
