-- What a writer's calls say.
use Rattle.std.specs.Prelude.{◌≡◌, ◌⊎◌, ℕ, ◌+◌, ◌-◌, ◌^◌, ◌<◌, ◌≤◌, Bool, true, false, List, [], ◌∷◌, ◌++◌, length, take, Result, Ok, Err}
use Rattle.std.specs.declared.option.Option.{Option}
use Rattle.std.specs.Io.KnownBytes.{Appends}
use Rattle.tink_io.specs.Faults.{Rose}
use Rattle.tink_io.specs.declared.error.Cause.TheVariants as cause
use Rattle.tink_io.specs.declared.error.Kind.{Kind}
use Rattle.tink_io.specs.declared.error.Kind.TheVariants.{WriteFault, TooManySegments, FailedBefore}
use Rattle.tink_io.specs.declared.error.Kind.TheVariants as kind
use Rattle.tink_io.specs.declared.error.TinkError.{TinkError}
use Rattle.stream_model.specs.Cut.{full_chunks, open_chunk, room_at, unmarked}
use Rattle.tink_streaming_io.specs.declared.writing.Mode.{Mode}
use Rattle.tink_streaming_io.specs.declared.writing.Mode.TheVariants.{Open, Closed, Failed}
use Rattle.tink_io.specs.Written.{AppendsPrefix}

-- a marked segment closes a writer
abbrev pub mode_after : Bool → Mode
mode_after true = Closed
mode_after false = Open

-- a writer at one moment: whether it is open, the next segment's number, the text that is held, what the sink got and its faults
pub record WriterMoment : Type 0 where
  pub mode : Mode
  pub number : ℕ
  pub held : List ℕ
  pub got : Option (List ℕ)
  pub faults : ℕ

-- the chunks that are full once more text came
abbrev pub filled : ℕ → ℕ → WriterMoment → List ℕ → List (List ℕ)
filled first room m text = full_chunks (room_at first room m.number) room (m.held ++ text)

-- no chunk is full that has text behind it, so that the text is held and no segment is due
abbrev pub IsAllHeld : ℕ → ℕ → WriterMoment → List ℕ → Type 0
IsAllHeld first room m text = filled first room m text ≡ []

-- the full chunks were written, unmarked, and the last chunk is held
pub record Wrote (seg : ℕ → Bool → List ℕ → List ℕ) (first room : ℕ) (old new : WriterMoment) (text : List ℕ) : Type 0 where
  pub was_open : old.mode ≡ Open
  pub is_open : new.mode ≡ Open
  pub appended : Appends old.got new.got (unmarked seg old.number (filled first room old text))
  pub held : new.held ≡ open_chunk (room_at first room old.number) room (old.held ++ text)
  pub counted : new.number ≡ old.number + length (filled first room old text)
  pub few : new.number < 2 ^ 32

-- the unmarked segments of chunks, of numbers from `start` up to below `number`, were written whole, and of the next one a prefix
pub record StopsWithin (seg : ℕ → Bool → List ℕ → List ℕ) (start number : ℕ) (chunks : List (List ℕ)) (old new : Option (List ℕ)) : Type 0 where
  pub done : List (List ℕ)
  pub next : List ℕ
  pub more : List (List ℕ)
  pub split : chunks ≡ done ++ (next ∷ more)
  pub counted : number ≡ start + length done
  pub between : Option (List ℕ)
  pub whole : Appends old between (unmarked seg start done)
  pub prefix : AppendsPrefix between new (seg number false next)

-- the sink failed in one of those segments, and no text is held
pub record WrotePrefixOf (seg : ℕ → Bool → List ℕ → List ℕ) (first room : ℕ) (old new : WriterMoment) (text : List ℕ) : Type 0 where
  pub was_open : old.mode ≡ Open
  pub failed : new.mode ≡ Failed cause.WriteFault
  pub held : new.held ≡ []
  pub stops : StopsWithin seg old.number new.number (filled first room old text) old.got new.got
  pub rose : Rose old.faults new.faults

-- the text needs a number above 2^32 - 1: all unmarked segments with lower numbers were written, and no text is held
pub record WroteAll (seg : ℕ → Bool → List ℕ → List ℕ) (first room : ℕ) (old new : WriterMoment) (text : List ℕ) : Type 0 where
  pub was_open : old.mode ≡ Open
  pub failed : new.mode ≡ Failed cause.TooManySegments
  pub held : new.held ≡ []
  pub many : 2 ^ 32 ≤ old.number + length (filled first room old text)
  pub counted : new.number ≡ 2 ^ 32 - 1
  pub appended : Appends old.got new.got (unmarked seg old.number (take (2 ^ 32 - 1 - old.number) (filled first room old text)))

-- each refusal of a write
abbrev pub WriteRefused : (ℕ → Bool → List ℕ → List ℕ) → ℕ → ℕ → WriterMoment → WriterMoment → List ℕ → Kind → Type 0
WriteRefused seg first room old new text WriteFault = WrotePrefixOf seg first room old new text
WriteRefused seg first room old new text TooManySegments = WroteAll seg first room old new text
WriteRefused seg first room old new text kind.Closed = (old.mode ≡ Closed) × (new ≡ old)
WriteRefused seg first room old new text (FailedBefore c) = (old.mode ≡ Failed c) × (new ≡ old)
WriteRefused seg first room old new text _ = ⊥

abbrev pub WriteMeans : (ℕ → Bool → List ℕ → List ℕ) → ℕ → ℕ → WriterMoment → WriterMoment → List ℕ → Result ℕ TinkError → Type 0
WriteMeans seg first room old new text (Ok n) = Wrote seg first room old new text × (n ≡ length text)
WriteMeans seg first room old new text (Err e) = WriteRefused seg first room old new text e.kind

-- the held text was written as a segment with this mark
pub record Put (seg : ℕ → Bool → List ℕ → List ℕ) (last : Bool) (old new : WriterMoment) : Type 0 where
  pub appended : Appends old.got new.got (seg old.number last old.held)
  pub held : new.held ≡ []
  pub mode : new.mode ≡ mode_after last
  pub counted : new.number ≡ old.number + 1

-- the sink failed: a prefix of that segment was written
pub record PutShort (seg : ℕ → Bool → List ℕ → List ℕ) (last : Bool) (old new : WriterMoment) (e : TinkError) : Type 0 where
  pub kind : e ≡ record { kind = WriteFault }
  pub failed : new.mode ≡ Failed cause.WriteFault
  pub held : new.held ≡ []
  pub counted : new.number ≡ old.number
  pub begun : AppendsPrefix old.got new.got (seg old.number last old.held)
  pub rose : Rose old.faults new.faults

abbrev pub PutMeans : (ℕ → Bool → List ℕ → List ℕ) → Bool → WriterMoment → WriterMoment → Result (Unit {0}) TinkError → Type 0
PutMeans seg last old new (Ok _) = Put seg last old new
PutMeans seg last old new (Err e) = PutShort seg last old new e

-- the held text was written as the marked segment
pub record ClosedBy (seg : ℕ → Bool → List ℕ → List ℕ) (old new : WriterMoment) : Type 0 where
  pub was_open : old.mode ≡ Open
  pub is_closed : new.mode ≡ Closed
  pub held : new.held ≡ []
  pub appended : Appends old.got new.got (seg old.number true old.held)
  pub counted : new.number ≡ old.number + 1

-- the sink failed: a prefix of the marked segment was written
pub record ClosedShort (seg : ℕ → Bool → List ℕ → List ℕ) (old new : WriterMoment) : Type 0 where
  pub was_open : old.mode ≡ Open
  pub failed : new.mode ≡ Failed cause.WriteFault
  pub held : new.held ≡ []
  pub counted : new.number ≡ old.number
  pub begun : AppendsPrefix old.got new.got (seg old.number true old.held)
  pub rose : Rose old.faults new.faults

abbrev pub CloseRefused : (ℕ → Bool → List ℕ → List ℕ) → WriterMoment → WriterMoment → Kind → Type 0
CloseRefused seg old new WriteFault = ClosedShort seg old new
CloseRefused seg old new (FailedBefore c) = (old.mode ≡ Failed c) × (new ≡ old)
CloseRefused seg old new _ = ⊥

abbrev pub CloseMeans : (ℕ → Bool → List ℕ → List ℕ) → WriterMoment → WriterMoment → Result (Unit {0}) TinkError → Type 0
CloseMeans seg old new (Ok _) = ClosedBy seg old new ⊎ ((old.mode ≡ Closed) × (new ≡ old))
CloseMeans seg old new (Err e) = CloseRefused seg old new e.kind
