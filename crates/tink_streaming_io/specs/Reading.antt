-- What a reader's calls say.
use Rattle.std.specs.Prelude.{◌≡◌, ◌⊎◌, ℕ, ◌+◌, ◌^◌, ◌<◌, ◌≤◌, Bool, List, [], ◌∷◌, length, take, Result, Ok, Err, None, Some, IfSome}
use Rattle.std.specs.declared.option.Option.{Option}
use Rattle.std.specs.Io.KnownBytes.{Keeps, IsAtEnd}
use Rattle.tink_io.specs.Faults.{Rose}
use Rattle.tink_io.specs.declared.error.Cause.{Cause}
use Rattle.tink_io.specs.declared.error.Cause.TheVariants as cause
use Rattle.tink_io.specs.declared.error.Kind.{Kind}
use Rattle.tink_io.specs.declared.error.Kind.TheVariants.{ReadFault, TooManySegments, BadSegment, Truncated}
use Rattle.tink_io.specs.declared.error.TinkError.{TinkError}
use Rattle.stream_model.specs.Cut.{cut, room_at}
use Rattle.stream_model.specs.Agree.{Leads, Agree}
use Rattle.tink_streaming_io.specs.declared.progress.Progress.{Progress}
use Rattle.tink_streaming_io.specs.declared.progress.Progress.TheVariants.{Running, Ended, Failed}

-- a reader at one moment: how far it has come, the next segment's number, the text that was opened last,
-- the bytes that are held or left, and the source's faults
pub record ReaderMoment : Type 0 where
  pub progress : Progress
  pub number : ℕ
  pub opened : List ℕ
  pub rest : Option (List ℕ)
  pub faults : ℕ

-- the texts' segments lead from the chunks of the one rest to those of the other
abbrev pub TellsLeads : (ℕ → Bool → List ℕ → List ℕ) → ℕ → ℕ → ℕ → Option (List ℕ) → List (List ℕ) → Option (List ℕ) → Type 0
TellsLeads seg first size i None texts new = Unit {0}
TellsLeads seg first size i (Some X) texts None = ⊥
TellsLeads seg first size i (Some X) texts (Some Y) = Leads seg i (cut (room_at first size i) size X) texts (cut (room_at first size (i + length texts)) size Y)

abbrev pub HasNotFailed : Progress → Type 0
HasNotFailed Running = Unit {0}
HasNotFailed Ended = Unit {0}
HasNotFailed (Failed c) = ⊥

-- the next segment was opened: it is the last one where the reader has ended
pub record OpensNext (seg : ℕ → Bool → List ℕ → List ℕ) (first size : ℕ) (old new : ReaderMoment) : Type 0 where
  pub leads : TellsLeads seg first size old.number old.rest (new.opened ∷ []) new.rest
  pub number : new.number ≡ old.number + 1
  pub lives : HasNotFailed new.progress
  pub fits : length new.opened ≤ size
  pub goes_on : new.progress ≡ Running → 0 < length new.opened
  pub ends : new.progress ≡ Ended → IsAtEnd new.rest

-- the reader has failed for good, nothing was opened, and no byte is lost
pub record FailsBy (c : Cause) (old new : ReaderMoment) : Type 0 where
  pub failed : new.progress ≡ Failed c
  pub number : new.number ≡ old.number
  pub opened : new.opened ≡ []
  pub kept : Keeps old.rest new.rest

-- the source failed
pub record ReadFailed (old new : ReaderMoment) : Type 0 where
  pub fails : FailsBy cause.ReadFault old new
  pub rose : Rose old.faults new.faults

-- no text agrees with what is left
abbrev pub NothingComes : (ℕ → Bool → List ℕ → List ℕ) → ℕ → ℕ → ReaderMoment → Type 0
NothingComes seg first size m = IfSome m.rest (λ X. Agree seg m.number (cut (room_at first size m.number) size X) [])

-- the next chunk
abbrev pub chunk_at : ℕ → ℕ → ℕ → List ℕ → List ℕ
chunk_at first size i X = take (room_at first size i) X

-- the next chunk is shorter than any segment; an end before it is that of an empty stream
pub record TruncatedAt (seg : ℕ → Bool → List ℕ → List ℕ) (first size overhead : ℕ) (old new : ReaderMoment) (n : ℕ) : Type 0 where
  pub fails : FailsBy (cause.Truncated n) old new
  pub nothing : NothingComes seg first size old
  pub number : n ≡ old.number
  pub short : IfSome old.rest (λ X. ((length (chunk_at first size old.number X) < overhead) ⊎ (X ≡ [])) × (0 < old.number → 0 < length X))

-- the next chunk is not empty, is no shorter than the overhead, and is the segment of no text
pub record IsBad (seg : ℕ → Bool → List ℕ → List ℕ) (first size overhead : ℕ) (old new : ReaderMoment) (n : ℕ) : Type 0 where
  pub fails : FailsBy (cause.BadSegment n) old new
  pub nothing : NothingComes seg first size old
  pub number : n ≡ old.number
  pub long : IfSome old.rest (λ X. overhead ≤ length (chunk_at first size old.number X))
  pub some : IfSome old.rest (λ X. 0 < length (chunk_at first size old.number X))

-- some bytes follow the last number
pub record HasTooMany (seg : ℕ → Bool → List ℕ → List ℕ) (first size : ℕ) (old new : ReaderMoment) : Type 0 where
  pub fails : FailsBy cause.TooManySegments old new
  pub nothing : NothingComes seg first size old
  pub number : old.number ≡ 2 ^ 32
  pub more : IfSome old.rest (λ X. 0 < length X)

-- each refusal
abbrev pub OpenNextRefused : (ℕ → Bool → List ℕ → List ℕ) → ℕ → ℕ → ℕ → ReaderMoment → ReaderMoment → Kind → Type 0
OpenNextRefused seg first size overhead old new ReadFault = ReadFailed old new
OpenNextRefused seg first size overhead old new TooManySegments = HasTooMany seg first size old new
OpenNextRefused seg first size overhead old new (BadSegment n) = IsBad seg first size overhead old new n
OpenNextRefused seg first size overhead old new (Truncated n) = TruncatedAt seg first size overhead old new n
OpenNextRefused seg first size overhead old new _ = ⊥

abbrev pub OpenNextMeans : (ℕ → Bool → List ℕ → List ℕ) → ℕ → ℕ → ℕ → ReaderMoment → ReaderMoment → Result (Unit {0}) TinkError → Type 0
OpenNextMeans seg first size overhead old new (Ok _) = OpensNext seg first size old new
OpenNextMeans seg first size overhead old new (Err e) = OpenNextRefused seg first size overhead old new e.kind

-- by a ReadFault no more than so many bytes are held
abbrev pub HeldBy : ℕ → ℕ → Kind → Type 0
HeldBy most held ReadFault = held ≤ most
HeldBy most held _ = Unit {0}

abbrev pub HoldsByFault : ℕ → ℕ → Result (Unit {0}) TinkError → Type 0
HoldsByFault most held (Ok _) = Unit {0}
HoldsByFault most held (Err e) = HeldBy most held e.kind
