-- What the steps of an open say.
use Rattle.std.specs.Prelude.{◌≡◌, ◌⊎◌, ℕ, ◌<◌, ◌≤◌, ◌^◌, Bool, List, [], length, slice_index_or, Result, Ok, Err, IfSome, IsSome}
use Rattle.std.specs.Io.KnownBytes.{Appends, Keeps, IsAtEnd}
use Rattle.tink_io.specs.Faults.{Rose}
use Rattle.tink_io.specs.Written.{AppendsPrefix}
use Rattle.tink_io.specs.declared.error.Kind.{Kind}
use Rattle.tink_io.specs.declared.error.Kind.TheVariants.{OutOfMemory, ReadFault, WriteFault, TooManySegments, NoMatchingKey, BadSegment, Truncated}
use Rattle.tink_io.specs.declared.error.TinkError.{TinkError}
use Rattle.std.specs.declared.option.Option.{Option}
use Rattle.stream_model.specs.Cut.{cut}
use Rattle.stream_model.specs.Agree.{AreTexts, Agree, Leads, joined}
use Rattle.stream_model.specs.Opening.{OpeningKey}
use Rattle.tink_streaming_segment.specs.declared.segment_traits.SegmentDecrypter.{Ghosts}
use Rattle.tink_streaming_io.specs.declared.reading.SegmentReader.{SegmentReader}
use Rattle.tink_streaming_io.specs.Openers.{reader_rest}
use Rattle.tink_streaming_io.specs.Reading.{ReaderMoment, OpensNext, NothingComes, ReadFailed, TruncatedAt, IsBad}
use Rattle.tink_run.specs.declared.report.Report.{Report}
use Rattle.tink_io.specs.Outside.{Outside, IsUntouched}
use Rattle.tink_run.specs.OpenAnswers.{IsOpenedWhole, OpeningRefused}

-- the first segment: where it is the segment of no text, the stream doesn't begin under the reader's key
abbrev pub FirstRefused : (ℕ → Bool → List ℕ → List ℕ) → ℕ → ℕ → ReaderMoment → ReaderMoment → Kind → Type 0
FirstRefused seg first size old new NoMatchingKey = NothingComes seg first size old
FirstRefused seg first size old new ReadFault = Rose old.faults new.faults
FirstRefused seg first size old new _ = ⊥

abbrev pub FirstMeans : (ℕ → Bool → List ℕ → List ℕ) → ℕ → ℕ → ReaderMoment → ReaderMoment → Result (Unit {0}) TinkError → Type 0
FirstMeans seg first size old new (Ok _) = OpensNext seg first size old new
FirstMeans seg first size old new (Err e) = FirstRefused seg first size old new e.kind

-- A refusal leaves a reader that has opened nothing and keeps what is told of the rest, and that has failed for good: by the
-- source, or by the first chunk, which is shorter than any segment or the segment of no text.
abbrev pub FirstFailedBy : (ℕ → Bool → List ℕ → List ℕ) → ℕ → ℕ → ℕ → ReaderMoment → ReaderMoment → Kind → Type 0
FirstFailedBy seg first size overhead old new ReadFault = ReadFailed old new
FirstFailedBy seg first size overhead old new _ = TruncatedAt seg first size overhead old new 0 ⊎ IsBad seg first size overhead old new 0

abbrev pub FirstFailed : (ℕ → Bool → List ℕ → List ℕ) → ℕ → ℕ → ℕ → ReaderMoment → ReaderMoment → Result (Unit {0}) TinkError → Type 0
FirstFailed seg first size overhead old new (Ok _) = Unit {0}
FirstFailed seg first size overhead old new (Err e) = FirstFailedBy seg first size overhead old new e.kind

-- some texts lead from the first chunk of the old rest to its end, and were written
pub record IsReadOut (seg : ℕ → Bool → List ℕ → List ℕ) (first size : ℕ) (old new : Outside) (report : Report) : Type 0 where
  pub texts : List (List ℕ)
  pub some : 0 < length texts
  pub leads : IfSome old.left (λ X. Leads seg 0 (cut first size X) texts [])
  pub stays_told : IfSome old.left (λ _. IsSome new.left)
  pub at_end : IsAtEnd new.left
  pub written : Appends old.got new.got (joined texts)
  pub segments : report.segments ≡ length texts
  pub bytes : report.bytes ≡ length (joined texts)

-- no text agrees, and nothing was written
pub record BeginsNot (seg : ℕ → Bool → List ℕ → List ℕ) (first size : ℕ) (old new : Outside) : Type 0 where
  pub nothing : IfSome old.left (λ X. Agree seg 0 (cut first size X) [])
  pub written : Keeps old.got new.got

-- n texts are all that agree, and were written; P holds of the chunks
pub record StopsAt (n : ℕ) (P : List (List ℕ) → Type 0) (seg : ℕ → Bool → List ℕ → List ℕ) (first size : ℕ) (old new : Outside) : Type 0 where
  pub texts : List (List ℕ)
  pub number : n ≡ length texts
  pub some : 0 < n
  pub agree : IfSome old.left (λ X. Agree seg 0 (cut first size X) texts × P (cut first size X))
  pub written : Appends old.got new.got (joined texts)

-- the source failed: texts whose segments lead were written whole
pub record CutsOff (seg : ℕ → Bool → List ℕ → List ℕ) (first size : ℕ) (old new : Outside) : Type 0 where
  pub texts : List (List ℕ)
  pub lead : IfSome old.left (λ X. AreTexts seg 0 (cut first size X) texts)
  pub written : Appends old.got new.got (joined texts)

-- the sink failed: a prefix of texts whose segments lead was written
pub record Breaks (seg : ℕ → Bool → List ℕ → List ℕ) (first size : ℕ) (old new : Outside) : Type 0 where
  pub texts : List (List ℕ)
  pub lead : IfSome old.left (λ X. AreTexts seg 0 (cut first size X) texts)
  pub written : AppendsPrefix old.got new.got (joined texts)

-- chunk n, which is there, is shorter than a tag
abbrev pub HasShort : ℕ → ℕ → List (List ℕ) → Type 0
HasShort n overhead chunks = (0 < length (slice_index_or chunks n [])) × (length (slice_index_or chunks n []) < overhead)

abbrev pub HasLong : ℕ → ℕ → List (List ℕ) → Type 0
HasLong n overhead chunks = overhead ≤ length (slice_index_or chunks n [])

abbrev pub HasMore : ℕ → List (List ℕ) → Type 0
HasMore n chunks = n < length chunks

abbrev pub ReaderRefused : (ℕ → Bool → List ℕ → List ℕ) → ℕ → ℕ → ℕ → Outside → Outside → Kind → Type 0
ReaderRefused seg first size overhead old new NoMatchingKey = BeginsNot seg first size old new
ReaderRefused seg first size overhead old new (Truncated n) = StopsAt n (HasShort n overhead) seg first size old new
ReaderRefused seg first size overhead old new (BadSegment n) = StopsAt n (HasLong n overhead) seg first size old new
ReaderRefused seg first size overhead old new TooManySegments = StopsAt (2 ^ 32) (HasMore (2 ^ 32)) seg first size old new
ReaderRefused seg first size overhead old new ReadFault = CutsOff seg first size old new × Rose old.read_faults new.read_faults
ReaderRefused seg first size overhead old new WriteFault = Breaks seg first size old new × Rose old.write_faults new.write_faults
ReaderRefused seg first size overhead old new _ = ⊥

-- the outside as a reader sees it: what it holds, and then what the source has left
abbrev pub held_outside : {S K D : Type 0} {g : Ghosts D} → (S → Option (List ℕ)) → (S → ℕ) → (K → Option (List ℕ)) → (K → ℕ)
    → SegmentReader D g → S → K → Outside
held_outside left reads got writes reader source sink =
    record { left = reader_rest left reader source; read_faults = reads source; got = got sink; write_faults = writes sink }

-- what opening all that a reader finds answers; the old rest is what it holds, and then what the source has left
abbrev pub ReaderMeans : (ℕ → Bool → List ℕ → List ℕ) → ℕ → ℕ → ℕ → Outside → Outside → Result Report TinkError → Type 0
ReaderMeans seg first size overhead old new (Ok report) = IsReadOut seg first size old new report
ReaderMeans seg first size overhead old new (Err e) = ReaderRefused seg first size overhead old new e.kind

abbrev pub OpensUnderRefused : List OpeningKey → Outside → Outside → Kind → Type 0
OpensUnderRefused keys old new OutOfMemory = IsUntouched old new
OpensUnderRefused keys old new kind = OpeningRefused keys old new kind

-- what an open under keys answers
abbrev pub OpensUnder : List OpeningKey → Outside → Outside → Result Report TinkError → Type 0
OpensUnder keys old new (Ok report) = IsOpenedWhole keys old new report
OpensUnder keys old new (Err e) = OpensUnderRefused keys old new e.kind
