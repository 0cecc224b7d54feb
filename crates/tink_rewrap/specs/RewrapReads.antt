-- How far a rewrap has read its source, where it is refused.
use Rattle.std.specs.Prelude.{◌≡◌, ◌⊎◌, ℕ, List, [], length, Result, Ok, Err, IfSome}
use Rattle.std.specs.declared.option.Option.{Option}
use Rattle.tink_io.specs.Taken.{LosesAtMost}
use Rattle.tink_io.specs.declared.error.Kind.{Kind}
use Rattle.tink_io.specs.declared.error.Kind.TheVariants.{ReadFault, WriteFault, TooManySegments, NoMatchingKey, BadSegment, Truncated}
use Rattle.tink_io.specs.declared.error.TinkError.{TinkError}
use Rattle.stream_model.specs.Opening.{OpeningKey}
use Rattle.loading_model.specs.Loading.{Loaded, opening_keys}
use Rattle.tink_run.specs.AllKeys.{load}
use Rattle.tink_run.specs.declared.report.Report.{Report}
use Rattle.tink_run.specs.OpenAnswers.{Lead}
use Rattle.tink_run.specs.OpenReads.{ReadsInChunk, ReadsNear, room_under}
use Rattle.tink_io.specs.Outside.{Outside}
use Rattle.tink_rewrap.specs.Rewrapping.{Sides}

-- The segments of some texts lead under the chosen key, and the source was read near the end of their chunks, or, where no key
-- is chosen yet, at most so many bytes of it at all.
pub record ReadsPast (Near : ℕ → Option (List ℕ) → Option (List ℕ) → Type 0) (room : ℕ) (keys : List OpeningKey) (old new : Option (List ℕ)) : Type 0 where
  pub texts : List (List ℕ)
  pub lead : IfSome old (λ S. Lead keys S texts)
  pub read : Near (length texts) old new ⊎ ((texts ≡ []) × LosesAtMost room old new)

-- where no key matches at most so many bytes were read, and by a refused chunk at most so many behind its beginning
abbrev pub RewrapReadsBy : ℕ → List OpeningKey → Option (List ℕ) → Option (List ℕ) → Kind → Type 0
RewrapReadsBy room keys old new NoMatchingKey = LosesAtMost room old new
RewrapReadsBy room keys old new (Truncated n) = ReadsNear room keys n old new
RewrapReadsBy room keys old new (BadSegment n) = ReadsNear room keys n old new
RewrapReadsBy room keys old new TooManySegments = ReadsPast (ReadsNear room keys) room keys old new
RewrapReadsBy room keys old new ReadFault = ReadsPast (ReadsInChunk keys) room keys old new
RewrapReadsBy room keys old new WriteFault = ReadsPast (ReadsNear room keys) room keys old new
RewrapReadsBy room keys old new _ = Unit {0}

-- how far a rewrap that holds at most so many bytes of its source has read it by its answer
abbrev pub RewrapReadsWithin : ℕ → List OpeningKey → Option (List ℕ) → Option (List ℕ) → Result Report TinkError → Type 0
RewrapReadsWithin room keys old new (Ok _) = Unit {0}
RewrapReadsWithin room keys old new (Err e) = RewrapReadsBy room keys old new e.kind

-- how far a rewrap from a keyset that loads has read its source by its answer
abbrev pub RewrapReadsNoFurther : Sides → Outside → Outside → Result Report TinkError → Type 0
RewrapReadsNoFurther s old new answer =
    (l : Loaded) → load s.from ≡ Ok l → RewrapReadsWithin (room_under (opening_keys s.from_aad l)) (opening_keys s.from_aad l) old.left new.left answer
