-- A source whose text goes, as it opens, into a new stream.
use Rattle.std.specs.Prelude.{◌≡◌, ◌⊎◌, ℕ, ◌<◌, ◌≤◌, ◌-◌, ◌^◌, Bool, List, [], ◌++◌, length, take, Result, Ok, Err, Some, vec_capacity, vec_len}
use Rattle.std.specs.Io.KnownBytes.{Appends, Keeps}
use Rattle.tink_io.specs.Written.{AppendsPrefix}
use Rattle.tink_io.specs.declared.error.Kind.{Kind}
use Rattle.tink_io.specs.declared.error.Kind.TheVariants.{ReadFault, WriteFault, TooManySegments, NoMatchingKey, BadSegment, Truncated}
use Rattle.tink_io.specs.declared.error.TinkError.{TinkError}
use Rattle.stream_model.specs.Cut.{chunks, full_chunks, sealed, unmarked}
use Rattle.stream_model.specs.Key.{StreamKey}
use Rattle.stream_model.specs.Opening.{OpeningKey}
use Rattle.stream_model.specs.Sealing.{stream, part, longest_part, chunk_count, salt_of, nonce_prefix_of}
use Rattle.tink_streaming_keys.specs.Rooms.{HasRoomForEach}
use Rattle.tink_streaming_keys.specs.declared.starting.Trial.{Trial}
use Rattle.tink_streaming_io.specs.Writing.{WriterMoment, CloseMeans, CloseRefused}
use Rattle.tink_streaming_io.specs.declared.writing.Mode.{Mode}
use Rattle.tink_streaming_io.specs.declared.writing.Mode.TheVariants.{Open}
use Rattle.tink_run.specs.declared.report.Report.{Report}
use Rattle.tink_run.specs.OpenAnswers.{OpeningMeans}
use Rattle.tink_run.specs.OpenReads.{FailsBehind, ReaderReads, ReadsNear, ReadsWithin, StopsBehind}
use Rattle.tink_run.specs.OpenSteps.{ReaderMeans}
use Rattle.tink_io.specs.Outside.{Outside}

-- What is made of a text: its stream; the front and the unmarked segments of all its chunks but the last; the same of
-- the text of its first 2^32 chunks; and the number of its chunks.
pub record NewBytes : Type 0 where
  pub whole : List ℕ → List ℕ
  pub part : List ℕ → List ℕ
  pub longest : List ℕ → List ℕ
  pub count : List ℕ → ℕ

-- by a front, the segments, and the rooms for text of the first and of each later one
abbrev pub bytes_by : List ℕ → (ℕ → Bool → List ℕ → List ℕ) → ℕ → ℕ → NewBytes
bytes_by front seg first room = record {
  whole = λ text. front ++ sealed seg first room text;
  part = λ text. front ++ unmarked seg 0 (full_chunks first room text);
  longest = λ text. front ++ unmarked seg 0 (take (2 ^ 32 - 1) (full_chunks first room text));
  count = λ text. length (chunks first room text);
}

-- under a key, with the first draws as salt and prefix
abbrev pub bytes_under : StreamKey → List ℕ → List ℕ → NewBytes
bytes_under k aad draws = record {
  whole = stream k aad (salt_of k draws) (nonce_prefix_of k draws);
  part = part k aad (salt_of k draws) (nonce_prefix_of k draws);
  longest = longest_part k aad (salt_of k draws) (nonce_prefix_of k draws);
  count = chunk_count k;
}

-- what is outside of an open that writes into a list, where the list has this text by now
abbrev pub into : List ℕ → Outside → Outside
into text m = record { left = m.left; read_faults = m.read_faults; got = Some text; write_faults = m.write_faults }

-- what opening all that a reader finds says, and how far the reader, which holds at most so many bytes, has read by that
abbrev pub ReaderMeansWithin : ℕ → (ℕ → Bool → List ℕ → List ℕ) → ℕ → ℕ → ℕ → Outside → Outside → Result Report TinkError → Type 0
ReaderMeansWithin room seg first size overhead old new answer = ReaderMeans seg first size overhead old new answer × ReaderReads room seg first size old new answer

-- a text is a prefix of texts whose segments lead, and at most so many bytes were read behind their chunks
abbrev pub LeadsWithin : ℕ → (ℕ → Bool → List ℕ → List ℕ) → ℕ → ℕ → Outside → Outside → Type 0
LeadsWithin room seg first size old new = FailsBehind AppendsPrefix (λ _. room) seg first size old new

-- what opening under keys says, and how far it has read by that where it holds at most so many bytes
abbrev pub OpensWithin : ℕ → List OpeningKey → Outside → Outside → Result Report TinkError → Type 0
OpensWithin room keys old new answer = OpeningMeans keys old new answer × ReadsWithin room keys old new answer

-- a text is a prefix of texts whose segments lead under the chosen key, and at most so many bytes were read behind their chunks
abbrev pub LeadsUnder : ℕ → List OpeningKey → Outside → Outside → Type 0
LeadsUnder room keys old new = StopsBehind AppendsPrefix (ReadsNear room keys) room keys old new

-- no more is said of where the source begins
abbrev pub anywhere : Outside → Type 0
anywhere m = Unit {0}

-- What an open says by its answer, and how far it has read; that a text is a prefix of texts whose segments lead, and how far
-- was read; and that the source begins under a key. So the text that went into the new stream is the one that an open would have written.
module _ (opens : Outside → Outside → Result Report TinkError → Type 0) (leads : Outside → Outside → Type 0) (begins : Outside → Type 0) (b : NewBytes) (old new : Outside) where
  -- the source was opened whole, and the stream of its text was written
  pub record IsRewrapped (report : Report) : Type 0 where
    pub text : List ℕ
    pub accepted : ℕ
    pub opened : opens (into [] old) (into text new) (Ok (record { segments = accepted; bytes = length text }))
    pub few : b.count text ≤ 2 ^ 32
    pub written : Appends old.got new.got (b.whole text)
    pub segments : report.segments ≡ b.count text
    pub bytes : report.bytes ≡ length text

  -- an open is refused before any text, and nothing was written
  pub record BeginsNowhere (kind : Kind) : Type 0 where
    pub opened : opens (into [] old) (into [] new) (Err (record { kind = kind }))
    pub written : Keeps old.got new.got

  -- an open is refused, and of the text before it no last chunk was written
  pub record StopsBy (kind : Kind) : Type 0 where
    pub text : List ℕ
    pub opened : opens (into [] old) (into text new) (Err (record { kind = kind }))
    pub few : b.count text ≤ 2 ^ 32
    pub written : Appends old.got new.got (b.part text)

  -- the text that opens has more than 2^32 chunks
  pub record Outgrows : Type 0 where
    pub text : List ℕ
    pub opened : leads (into [] old) (into text new)
    pub many : 2 ^ 32 < b.count text
    pub written : Appends old.got new.got (b.longest text)

  -- the source failed: before any text, and nothing was written, or it begins under a key, and of the text before it no last
  -- chunk was written
  pub record SourceBroke : Type 0 where
    pub text : List ℕ
    pub opened : opens (into [] old) (into text new) (Err (record { kind = ReadFault }))
    pub written : ((text ≡ []) × Keeps old.got new.got) ⊎ (begins old × Appends old.got new.got (b.part text))

  -- the source was opened whole, and a prefix of the stream of its text was written
  pub record BreaksAtEnd (text : List ℕ) : Type 0 where
    pub accepted : ℕ
    pub opened : opens (into [] old) (into text new) (Ok (record { segments = accepted; bytes = length text }))
    pub written : AppendsPrefix old.got new.got (b.whole text)

  -- the sink failed, as if it were that of the open, in the stream of a source that begins under a key
  pub record SinkBroke : Type 0 where
    pub text : List ℕ
    pub begun : begins old
    pub opened : opens (into [] old) (into text new) (Err (record { kind = WriteFault }))
    pub written : AppendsPrefix old.got new.got (b.part text) ⊎ BreaksAtEnd text

  abbrev pub PassRefused : Kind → Type 0
  PassRefused NoMatchingKey = BeginsNowhere NoMatchingKey
  PassRefused TooManySegments = Outgrows ⊎ StopsBy TooManySegments
  PassRefused (Truncated n) = StopsBy (Truncated n)
  PassRefused (BadSegment n) = StopsBy (BadSegment n)
  PassRefused ReadFault = SourceBroke
  PassRefused WriteFault = SinkBroke
  PassRefused _ = ⊥

  abbrev pub PassMeans : Result Report TinkError → Type 0
  PassMeans (Ok report) = IsRewrapped report
  PassMeans (Err e) = PassRefused e.kind

-- what a writer's close answers, with a report of so many bytes
abbrev pub FinishMeans : (ℕ → Bool → List ℕ → List ℕ) → WriterMoment → WriterMoment → ℕ → Result Report TinkError → Type 0
FinishMeans seg old new bytes (Ok report) = CloseMeans seg old new (Ok tt) × (report.segments ≡ new.number) × (report.bytes ≡ bytes)
FinishMeans seg old new bytes (Err e) = CloseRefused seg old new e.kind

-- a trial that holds nothing of its source, with memory for the streams of each of the keys
abbrev pub FitsKeys : {T : Type 0} → (T → StreamKey) → List T → Trial → Type 0
FitsKeys key_of keys t =
    (t.kept.filled ≡ 0) × HasRoomForEach key_of keys (vec_len t.kept.buffer) (vec_capacity t.opened) (vec_len t.nonce) (vec_capacity t.prefix)

-- a writer that has taken no text
abbrev pub IsUnbegun : Mode → ℕ → List ℕ → Type 0
IsUnbegun mode number held = (mode ≡ Open) × (number ≡ 0) × (held ≡ [])
