-- How far an open has read its source, where it is refused.
use Rattle.std.specs.Prelude.{◌≡◌, ◌⊎◌, ℕ, ◌+◌, ◌^◌, Bool, List, [], ◌∷◌, length, drop, max, Result, Ok, Err, Some, IfSome}
use Rattle.std.specs.declared.option.Option.{Option}
use Rattle.std.specs.Io.KnownBytes.{Appends}
use Rattle.tink_io.specs.Taken.{LosesAtMost}
use Rattle.tink_io.specs.Written.{AppendsPrefix}
use Rattle.tink_io.specs.declared.error.Kind.{Kind}
use Rattle.tink_io.specs.declared.error.Kind.TheVariants.{ReadFault, WriteFault, TooManySegments, NoMatchingKey, BadSegment, Truncated}
use Rattle.tink_io.specs.declared.error.TinkError.{TinkError}
use Rattle.stream_model.specs.Cut.{cut, room_at}
use Rattle.stream_model.specs.Agree.{AreTexts, joined}
use Rattle.stream_model.specs.Opening.{OpeningKey, IsChosen, chunks_of}
use Rattle.loading_model.specs.Loading.{Loaded, opening_keys}
use Rattle.tink_run.specs.AllKeys.{load}
use Rattle.tink_run.specs.declared.report.Command.{Command}
use Rattle.tink_run.specs.declared.report.Command.TheVariants.{Seal, Open}
use Rattle.tink_run.specs.declared.report.Report.{Report}
use Rattle.tink_run.specs.OpenAnswers.{Lead}
use Rattle.tink_run.specs.OpenSteps.{OpensUnder}
use Rattle.tink_io.specs.Outside.{Outside}

-- the most bytes that an output prefix and a segment have, of some keys
abbrev pub largest_of : List OpeningKey → ℕ
largest_of [] = 0
largest_of (k ∷ keys) = max (length k.out + k.size) (largest_of keys)

-- how many bytes an open under some keys holds at most
abbrev pub room_under : List OpeningKey → ℕ
room_under keys = largest_of keys + 1

-- what stands from chunk n on
abbrev pub from_chunk : List (List ℕ) → ℕ → List ℕ
from_chunk chunks n = joined (drop n chunks)

-- ---- what a reader has read

-- at most so many bytes were read behind the beginning of chunk n
abbrev pub ReadsFrom : ℕ → ℕ → ℕ → ℕ → Option (List ℕ) → Option (List ℕ) → Type 0
ReadsFrom room first size n old new = IfSome old (λ X. LosesAtMost room (Some (from_chunk (cut first size X) n)) new)

-- An end failed: of texts whose segments lead, this was written, and at most so many bytes were read behind their chunks, by
-- the number of the texts.
pub record FailsBehind (Wrote : Option (List ℕ) → Option (List ℕ) → List ℕ → Type 0) (room : ℕ → ℕ) (seg : ℕ → Bool → List ℕ → List ℕ) (first size : ℕ) (old new : Outside) : Type 0 where
  pub texts : List (List ℕ)
  pub lead : IfSome old.left (λ X. AreTexts seg 0 (cut first size X) texts)
  pub read : ReadsFrom (room (length texts)) first size (length texts) old.left new.left
  pub written : Wrote old.got new.got (joined texts)

abbrev pub ReaderReadsBy : ℕ → (ℕ → Bool → List ℕ → List ℕ) → ℕ → ℕ → Outside → Outside → Kind → Type 0
ReaderReadsBy room seg first size old new (Truncated n) = ReadsFrom room first size n old.left new.left
ReaderReadsBy room seg first size old new (BadSegment n) = ReadsFrom room first size n old.left new.left
ReaderReadsBy room seg first size old new TooManySegments = ReadsFrom room first size (2 ^ 32) old.left new.left
ReaderReadsBy room seg first size old new ReadFault = FailsBehind Appends (room_at first size) seg first size old new
ReaderReadsBy room seg first size old new WriteFault = FailsBehind AppendsPrefix (λ _. room) seg first size old new
ReaderReadsBy room seg first size old new _ = Unit {0}

-- a failed read of the first chunk comes before all of it and a byte behind it are held
abbrev pub FirstReadsBy : ℕ → ℕ → Option (List ℕ) → Option (List ℕ) → Kind → Type 0
FirstReadsBy room first old new ReadFault = LosesAtMost first old new
FirstReadsBy room first old new _ = LosesAtMost room old new

-- how far a reader that holds at most so many bytes has read where its first segment is refused
abbrev pub FirstReads : ℕ → ℕ → Option (List ℕ) → Option (List ℕ) → Result (Unit {0}) TinkError → Type 0
FirstReads room first old new (Ok _) = Unit {0}
FirstReads room first old new (Err e) = FirstReadsBy room first old new e.kind

-- how far a reader that holds at most so many bytes has read by its answer
abbrev pub ReaderReads : ℕ → (ℕ → Bool → List ℕ → List ℕ) → ℕ → ℕ → Outside → Outside → Result Report TinkError → Type 0
ReaderReads room seg first size old new (Ok _) = Unit {0}
ReaderReads room seg first size old new (Err e) = ReaderReadsBy room seg first size old new e.kind

-- ---- what an open has read

-- at most so many bytes were read behind the beginning of chunk n under the chosen key
abbrev pub ReadsNear : ℕ → List OpeningKey → ℕ → Option (List ℕ) → Option (List ℕ) → Type 0
ReadsNear room keys n old new = IfSome old (λ S. (k : OpeningKey) × IsChosen keys S (Some k) × LosesAtMost room (Some (from_chunk (chunks_of k S) n)) new)

-- no more bytes were read behind the beginning of chunk n under the chosen key than a whole chunk there has
abbrev pub ReadsInChunk : List OpeningKey → ℕ → Option (List ℕ) → Option (List ℕ) → Type 0
ReadsInChunk keys n old new = IfSome old (λ S. (k : OpeningKey) × IsChosen keys S (Some k) × LosesAtMost (room_at k.first k.size n) (Some (from_chunk (chunks_of k S) n)) new)

-- An end failed: of texts whose segments lead under the chosen key, this was written. The source was read near the end of
-- their chunks, or, where no key is chosen yet, at most so many bytes of it at all.
pub record StopsBehind (Wrote : Option (List ℕ) → Option (List ℕ) → List ℕ → Type 0) (Near : ℕ → Option (List ℕ) → Option (List ℕ) → Type 0) (room : ℕ) (keys : List OpeningKey) (old new : Outside) : Type 0 where
  pub texts : List (List ℕ)
  pub lead : IfSome old.left (λ S. Lead keys S texts)
  pub read : Near (length texts) old.left new.left ⊎ ((texts ≡ []) × LosesAtMost room old.left new.left)
  pub written : Wrote old.got new.got (joined texts)

-- Where no key matches at most so many bytes were read, and by a refused chunk at most so many behind its beginning. By
-- `ReadFault` the texts before it were written whole, and no more than the next chunk was read, so that none was lost but perhaps
-- the first or that of the last segment; by `WriteFault` a prefix of them.
abbrev pub ReadsBy : ℕ → List OpeningKey → Outside → Outside → Kind → Type 0
ReadsBy room keys old new NoMatchingKey = LosesAtMost room old.left new.left
ReadsBy room keys old new (Truncated n) = ReadsNear room keys n old.left new.left
ReadsBy room keys old new (BadSegment n) = ReadsNear room keys n old.left new.left
ReadsBy room keys old new TooManySegments = ReadsNear room keys (2 ^ 32) old.left new.left
ReadsBy room keys old new ReadFault = StopsBehind Appends (ReadsInChunk keys) room keys old new
ReadsBy room keys old new WriteFault = StopsBehind AppendsPrefix (ReadsNear room keys) room keys old new
ReadsBy room keys old new _ = Unit {0}

-- how far an open that holds at most so many bytes has read by its answer
abbrev pub ReadsWithin : ℕ → List OpeningKey → Outside → Outside → Result Report TinkError → Type 0
ReadsWithin room keys old new (Ok _) = Unit {0}
ReadsWithin room keys old new (Err e) = ReadsBy room keys old new e.kind

-- what an open under keys answers, and how far it has read by that
abbrev pub OpensReading : List OpeningKey → Outside → Outside → Result Report TinkError → Type 0
OpensReading keys old new answer = OpensUnder keys old new answer × ReadsWithin (room_under keys) keys old new answer

-- how far an open under a keyset that loads has read by its answer; of a seal nothing is said
abbrev pub ReadsNoFurther : Command → List ℕ → List ℕ → Outside → Outside → Result Report TinkError → Type 0
ReadsNoFurther Seal keyset aad old new answer = Unit {0}
ReadsNoFurther Open keyset aad old new answer = (l : Loaded) → load keyset ≡ Ok l → ReadsWithin (room_under (opening_keys aad l)) (opening_keys aad l) old new answer
