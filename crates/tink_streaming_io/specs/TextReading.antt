-- What the reads of a text say.
use Rattle.std.specs.Prelude.{◌≡◌, ℕ, ◌+◌, ◌<◌, min, Bool, List, [], ◌++◌, length, take, drop, Result, Ok, Err, IfSome}
use Rattle.std.specs.declared.option.Option.{Option}
use Rattle.std.specs.Io.KnownBytes.{IsAtEnd}
use Rattle.tink_io.specs.declared.error.Kind.{Kind}
use Rattle.tink_io.specs.declared.error.Kind.TheVariants.{ReadFault, TooManySegments, BadSegment, Truncated, FailedBefore}
use Rattle.tink_io.specs.declared.error.TinkError.{TinkError}
use Rattle.stream_model.specs.Cut.{cut}
use Rattle.stream_model.specs.Agree.{Leads, Agree, joined}
use Rattle.stream_model.specs.Opening.{AreSegments}
use Rattle.tink_streaming_io.specs.declared.progress.Progress.{Progress}
use Rattle.tink_streaming_io.specs.declared.progress.Progress.TheVariants.{Running, Ended, Failed}
use Rattle.tink_streaming_io.specs.Reading.{TellsLeads, HasNotFailed, OpenNextRefused, ReadFailed, HasTooMany, IsBad, TruncatedAt}
use Rattle.tink_streaming_io.specs.Reading as segments

-- a text's reader at one moment: how far it has come, the next segment's number, the text that was opened and is not yet given,
-- the bytes that are held or left, and the source's faults
pub record TextMoment : Type 0 where
  pub progress : Progress
  pub number : ℕ
  pub pending : List ℕ
  pub rest : Option (List ℕ)
  pub faults : ℕ

-- the reader of its segments
abbrev pub of_segments : TextMoment → segments.ReaderMoment
of_segments m = record { progress = m.progress; number = m.number; opened = m.pending; rest = m.rest; faults = m.faults }

-- a moment with other text to give
abbrev pub with_pending : TextMoment → List ℕ → TextMoment
with_pending m text = record { progress = m.progress; number = m.number; pending = text; rest = m.rest; faults = m.faults }

-- the next segment is to be opened: there is room, and no opened text is left to give
pub record IsDue (m : TextMoment) (room : ℕ) : Type 0 where
  pub running : m.progress ≡ Running
  pub pending : m.pending ≡ []
  pub some : 0 < room

-- the last segment was opened, its text was given, and no byte is left
pub record AtEnd (m : TextMoment) : Type 0 where
  pub ended : m.progress ≡ Ended
  pub some : 0 < m.number
  pub pending : m.pending ≡ []
  pub rest : IsAtEnd m.rest

-- text is ready to be given, unless the end is reached: the next segment was opened where it was due
pub record IsReady (seg : ℕ → Bool → List ℕ → List ℕ) (first size : ℕ) (old new : TextMoment) : Type 0 where
  pub lives : HasNotFailed new.progress
  pub texts : List (List ℕ)
  pub due : 0 < length texts → IsDue old 1
  pub one : IsDue old 1 → length texts ≡ 1
  pub leads : TellsLeads seg first size old.number old.rest texts new.rest
  pub number : new.number ≡ old.number + length texts
  pub pending : old.pending ++ joined texts ≡ new.pending
  pub still : texts ≡ [] → new ≡ old
  pub end : new.pending ≡ [] → AtEnd new
  pub ends : new.progress ≡ Ended → IsAtEnd new.rest

-- n bytes were given, as many as there are and have room: at most one segment was opened, and that where it was due
pub record GivesText (seg : ℕ → Bool → List ℕ → List ℕ) (first size : ℕ) (old new : TextMoment) (before after : List ℕ) (n : ℕ) : Type 0 where
  pub was : HasNotFailed old.progress
  pub lives : HasNotFailed new.progress
  pub texts : List (List ℕ)
  pub due : 0 < length texts → IsDue old (length before)
  pub one : IsDue old (length before) → length texts ≡ 1
  pub leads : TellsLeads seg first size old.number old.rest texts new.rest
  pub number : new.number ≡ old.number + length texts
  pub given : old.pending ++ joined texts ≡ take n after ++ new.pending
  pub count : n ≡ min (length before) (length (old.pending ++ joined texts))
  pub behind : drop n after ≡ drop n before
  pub still : texts ≡ [] → new ≡ with_pending old (drop n old.pending)
  pub end : n ≡ 0 → 0 < length before → AtEnd new
  pub ends : new.progress ≡ Ended → IsAtEnd new.rest

-- each refusal of a read, which has failed before or opened nothing
abbrev pub ReadRefused : (ℕ → Bool → List ℕ → List ℕ) → ℕ → ℕ → ℕ → TextMoment → TextMoment → ℕ → Kind → Type 0
ReadRefused seg first size overhead old new room ReadFault = IsDue old room × ReadFailed (of_segments old) (of_segments new)
ReadRefused seg first size overhead old new room TooManySegments = IsDue old room × HasTooMany seg first size (of_segments old) (of_segments new)
ReadRefused seg first size overhead old new room (BadSegment n) = IsDue old room × IsBad seg first size overhead (of_segments old) (of_segments new) n
ReadRefused seg first size overhead old new room (Truncated n) = IsDue old room × TruncatedAt seg first size overhead (of_segments old) (of_segments new) n
ReadRefused seg first size overhead old new room (FailedBefore c) = (old.progress ≡ Failed c) × (new ≡ old)
ReadRefused seg first size overhead old new room _ = ⊥

-- what a read to a buffer answers, and what the buffer and the reader then are
abbrev pub ReadMeans : (ℕ → Bool → List ℕ → List ℕ) → ℕ → ℕ → ℕ → TextMoment → TextMoment → List ℕ → List ℕ → Result ℕ TinkError → Type 0
ReadMeans seg first size overhead old new before after (Ok n) = GivesText seg first size old new before after n
ReadMeans seg first size overhead old new before after (Err e) = (after ≡ before) × ReadRefused seg first size overhead old new (length before) e.kind

-- what getting text ready answers
abbrev pub ReadyMeans : (ℕ → Bool → List ℕ → List ℕ) → ℕ → ℕ → ℕ → TextMoment → TextMoment → Result (Unit {0}) TinkError → Type 0
ReadyMeans seg first size overhead old new (Ok _) = IsReady seg first size old new
ReadyMeans seg first size overhead old new (Err e) = IsDue old 1 × OpenNextRefused seg first size overhead (of_segments old) (of_segments new) e.kind

-- from a reader over all bytes on, that had opened nothing, reads have given these bytes
pub record Gave (seg : ℕ → Bool → List ℕ → List ℕ) (first size : ℕ) (all : Option (List ℕ)) (given : List ℕ) (m : TextMoment) : Type 0 where
  pub texts : List (List ℕ)
  pub number : m.number ≡ length texts
  pub leads : TellsLeads seg first size 0 all texts m.rest
  pub given_is : joined texts ≡ given ++ m.pending

-- all chunks are the segments of some texts, and these bytes are those texts joined
pub record IsAllText (seg : ℕ → Bool → List ℕ → List ℕ) (first size : ℕ) (all : Option (List ℕ)) (given : List ℕ) : Type 0 where
  pub texts : List (List ℕ)
  pub some : 0 < length texts
  pub leads : IfSome all (λ X. Leads seg 0 (cut first size X) texts [])
  pub given_is : given ≡ joined texts

-- all bytes are the segments of some texts with these rooms, and these bytes are those texts joined
pub record IsTextOf (seg : ℕ → Bool → List ℕ → List ℕ) (first room : ℕ) (all : Option (List ℕ)) (given : List ℕ) : Type 0 where
  pub texts : List (List ℕ)
  pub segments : IfSome all (λ X. AreSegments seg 0 first room X texts)
  pub given_is : given ≡ joined texts

-- these bytes are the longest list of texts that agrees with the chunks, joined
pub record IsLongest (seg : ℕ → Bool → List ℕ → List ℕ) (first size : ℕ) (all : Option (List ℕ)) (given : List ℕ) : Type 0 where
  pub texts : List (List ℕ)
  pub agree : IfSome all (λ X. Agree seg 0 (cut first size X) texts)
  pub given_is : given ≡ joined texts
