-- What the program says by its status and its line.
use Rattle.std.specs.Prelude.{◌≡◌, ◌⊎◌, ℕ, List, [], ◌∷◌, ◌++◌, codes, ◌==◌, Bool, true, false, IsTrue, Option, Result, Ok, Err}
use Rattle.std.specs.List.{list_any}
use Rattle.tink_io.specs.Faults.{Rose}
use Rattle.tink_io.specs.Texts.{kind_line}
use Rattle.tink_io.specs.Written.{WritesOrFaults}
use Rattle.tink_io.specs.declared.error.Kind.{Kind}
use Rattle.tink_io.specs.declared.error.Kind.TheVariants.{OutOfMemory, BadKeyset, InvalidKeyset, UnsupportedKeyType, InvalidKey, NoPrimary, WrongPrimitive, UnsupportedHash, NoMatchingKey, UnknownTemplate, NoFreshId, InputTooLong, BadToken, MacMismatch}
use Rattle.tink_io.specs.declared.error.TinkError.{TinkError}
use Rattle.tink_io.specs.Statuses.{kind_status}
use Rattle.tink_run.specs.AllKeys.{load}
pub use Rattle.tink_io.specs.Outside.{outside}
use Rattle.tink_io.specs.Outside.{Outside, IsUntouched}
use Rattle.tink_run.specs.declared.report.Command.TheVariants.{Seal}
use Rattle.tink_rewrap.specs.SetRanges.{WritesNoRange}
use Rattle.tink_tokens.specs.Inputs.{IsUnwritten, LeavesSink}
use Rattle.tink_tokens.specs.Tokens.{macs_of, RefusesSigning, RefusesVerifying, SignsTo, VerifiesTo}
use Rattle.tink_program_core.specs.declared.outcomes.Outcome.{Outcome}
use Rattle.tink_program_core.specs.declared.outcomes.Outcome.TheVariants.{Done, Usage, Refused}
use Rattle.tink_program_core.specs.Draws.{draws_in}
use Rattle.tink_program_core.specs.Keysets.{made_keyset, of_keyset, of_no_keys, IsUnmadeBy, KeysetMeans, MakesKeyset}
use Rattle.tink_program_core.specs.Large.{LargeMeans, MeasuresLarge}
use Rattle.tink_program_core.specs.Ranges.{HoldsNoInput, RangeOutcome, RangePromises}
use Rattle.tink_program_core.specs.Streams.{IsUnmovable, OpenOutcome, OpenPromises, RewrapOutcome, RewrapPromises, SealPromises, StreamMeans}
use Rattle.tink_program_core.specs.TokenPromises.{TokenOutcome, TokenPromises}
use Rattle.tink_program_core.specs.Words.{Asked, SpellNothing, Spells}
use Rattle.tink_program_core.specs.Words.Asked.{Making, Measuring, Opening, Ranging, Rewrapping, Rotating, Sealing, Signing, Verifying}

-- ---- statuses and lines

abbrev pub status_of : Outcome → ℕ
status_of Done = 0
status_of Usage = 2
status_of (Refused kind) = kind_status kind

-- the line that is written, nothing where all went well
abbrev pub line_of : Outcome → List ℕ
line_of Done = []
line_of Usage =
    codes "usage: seal KEYSET AAD SEED | open KEYSET AAD | keygen TEMPLATE SEED | rotate KEYSET TEMPLATE SEED | large N | range KEYSET AAD START LEN | rewrap KEYSET AAD KEYSET AAD SEED | sign KEYSET | verify KEYSET"
    ++ 10 ∷ []
line_of (Refused kind) = kind_line kind

-- nothing is told of what was done, so that the sink of faults is as it was
abbrev pub TellsNothing : {E : Type 0} → Outcome → E → E → Type 0
TellsNothing Done faults faults_after = faults_after ≡ faults
TellsNothing _ faults faults_after = Unit {0}

-- the outcome that an answer comes to
abbrev pub answer_outcome : {T : Type 0} → Result T TinkError → Outcome
answer_outcome (Ok _) = Done
answer_outcome (Err e) = Refused e.kind

-- the status of an answer
abbrev pub status_by : {T : Type 0} → Result T TinkError → ℕ
status_by answer = status_of (answer_outcome answer)

-- ---- what an outcome says

-- what stands after each outcome of what is asked, and why it came
abbrev pub CommandMeans : Asked → Outside → Outside → Outcome → Type 0
CommandMeans (Sealing keyset aad seed) old new outcome =
    StreamMeans Seal keyset aad (draws_in seed 256) old new outcome
CommandMeans (Opening keyset aad) old new outcome = OpenOutcome keyset aad old new outcome
CommandMeans (Making template seed) old new outcome = KeysetMeans (of_no_keys template seed) old new outcome
CommandMeans (Rotating keyset template seed) old new outcome =
    KeysetMeans (of_keyset keyset template seed) old new outcome
CommandMeans (Measuring n) old new outcome = LargeMeans n old new outcome
CommandMeans (Ranging keyset aad start len) old new outcome = RangeOutcome keyset aad start len old new outcome
CommandMeans (Signing keyset) old new outcome = TokenOutcome SignsTo RefusesSigning keyset old new outcome
CommandMeans (Verifying keyset) old new outcome = TokenOutcome VerifiesTo RefusesVerifying keyset old new outcome
CommandMeans (Rewrapping sides seed) old new outcome = RewrapOutcome sides (draws_in seed 256) old new outcome

-- what the words ask for came to this outcome
pub record HasDone (words : List (List ℕ)) (old new : Outside) (outcome : Outcome) : Type 0 where
  pub asked : Asked
  pub spelled : Spells words asked
  pub means : CommandMeans asked old new outcome

-- words that ask for nothing leave all as it is
pub record AsksNothing (words : List (List ℕ)) (old new : Outside) (outcome : Outcome) : Type 0 where
  pub outcome_is : outcome ≡ Usage
  pub nothing : SpellNothing words
  pub untouched : IsUntouched old new

-- so does `OutOfMemory` on reading the words
pub record HasNoRoom (old new : Outside) (outcome : Outcome) : Type 0 where
  pub outcome_is : outcome ≡ Refused OutOfMemory
  pub untouched : IsUntouched old new

abbrev pub OutcomeMeans : List (List ℕ) → Outside → Outside → Outcome → Type 0
OutcomeMeans words old new outcome =
    HasDone words old new outcome ⊎ AsksNothing words old new outcome ⊎ HasNoRoom old new outcome

-- the status is that of an outcome, whose line was written: exactly, or a prefix of it where the count of faults rose
pub record ProgramMeans (words : List (List ℕ)) (old new : Outside) (told_before told_after : Option (List ℕ)) (faults_before faults_after : ℕ) (status : ℕ) : Type 0 where
  pub outcome : Outcome
  pub status_is : status ≡ status_of outcome
  pub means : OutcomeMeans words old new outcome
  pub line : WritesOrFaults told_before told_after faults_before faults_after (line_of outcome)

-- ---- what a status says

abbrev pub IsAmong : List ℕ → ℕ → Type 0
IsAmong statuses status = IsTrue (list_any (λ s. s == status) statuses)

-- status 2 is for words that spell nothing, and such words get it or `OutOfMemory`
pub record IsUsage (words : List (List ℕ)) (status : ℕ) : Type 0 where
  pub cause : status ≡ 2 → SpellNothing words
  pub comes : SpellNothing words → (status ≡ 2) ⊎ (status ≡ 10)

-- the statuses of each command
abbrev pub own_statuses : Asked → List ℕ
own_statuses (Sealing keyset aad seed) = 0 ∷ 10 ∷ 11 ∷ 12 ∷ 13 ∷ 14 ∷ 15 ∷ 16 ∷ 17 ∷ 18 ∷ 19 ∷ 20 ∷ []
own_statuses (Opening keyset aad) =
    0 ∷ 10 ∷ 11 ∷ 12 ∷ 13 ∷ 14 ∷ 15 ∷ 16 ∷ 17 ∷ 18 ∷ 20 ∷ 21 ∷ 22 ∷ 23 ∷ []
own_statuses (Making template seed) = 0 ∷ 10 ∷ 12 ∷ 24 ∷ 25 ∷ []
own_statuses (Rotating keyset template seed) = 0 ∷ 10 ∷ 12 ∷ 13 ∷ 14 ∷ 24 ∷ 25 ∷ []
own_statuses (Measuring n) = 0 ∷ 10 ∷ 12 ∷ []
own_statuses (Ranging keyset aad start len) =
    0 ∷ 10 ∷ 11 ∷ 12 ∷ 13 ∷ 14 ∷ 15 ∷ 16 ∷ 17 ∷ 18 ∷ 20 ∷ 21 ∷ 22 ∷ 23 ∷ 26 ∷ []
own_statuses (Signing keyset) = 0 ∷ 10 ∷ 11 ∷ 12 ∷ 13 ∷ 14 ∷ 15 ∷ 16 ∷ 17 ∷ 18 ∷ 26 ∷ []
own_statuses (Verifying keyset) = 0 ∷ 10 ∷ 11 ∷ 12 ∷ 13 ∷ 14 ∷ 15 ∷ 16 ∷ 17 ∷ 18 ∷ 26 ∷ 27 ∷ 28 ∷ []
own_statuses (Rewrapping sides seed) =
    0 ∷ 10 ∷ 11 ∷ 12 ∷ 13 ∷ 14 ∷ 15 ∷ 16 ∷ 17 ∷ 18 ∷ 19 ∷ 20 ∷ 21 ∷ 22 ∷ 23 ∷ []

abbrev pub HasOwnStatus : List (List ℕ) → ℕ → Type 0
HasOwnStatus words status = (a : Asked) → Spells words a → IsAmong (own_statuses a) status

-- a keyset does not load, or is not made, by this kind: nothing is read or written
abbrev pub IsUnusableBy : Asked → Kind → Type 0
IsUnusableBy (Sealing keyset aad seed) kind = load keyset ≡ Err kind
IsUnusableBy (Opening keyset aad) kind = load keyset ≡ Err kind
IsUnusableBy (Making template seed) kind = made_keyset (of_no_keys template seed) ≡ Err kind
IsUnusableBy (Rotating keyset template seed) kind = made_keyset (of_keyset keyset template seed) ≡ Err kind
IsUnusableBy (Measuring n) kind = ⊥
IsUnusableBy (Ranging keyset aad start len) kind = load keyset ≡ Err kind
IsUnusableBy (Signing keyset) kind = macs_of keyset ≡ Err kind
IsUnusableBy (Verifying keyset) kind = macs_of keyset ≡ Err kind
IsUnusableBy (Rewrapping sides seed) kind = IsUnmovable sides kind

-- it gets its refusal's status, or `OutOfMemory`
abbrev pub Refuses : List (List ℕ) → ℕ → Type 0
Refuses words status = (a : Asked) (kind : Kind) → Spells words a → IsUnusableBy a kind
    → (status ≡ kind_status kind) ⊎ (status ≡ 10)

-- why it is refused: of a keyset that is not made 13 and 14 are the given keyset's refusals, for 24 no template has the
-- name, and for 25 all 128 ids were 0 or in use
abbrev pub IsCause : Asked → Kind → Type 0
IsCause (Making template seed) kind = IsUnmadeBy (of_no_keys template seed) kind
IsCause (Rotating keyset template seed) kind = IsUnmadeBy (of_keyset keyset template seed) kind
IsCause a kind = IsUnusableBy a kind

-- the statuses of such keysets, which no other keyset gets
abbrev pub refused_statuses : List ℕ
refused_statuses = 13 ∷ 14 ∷ 15 ∷ 16 ∷ 17 ∷ 18 ∷ 24 ∷ 25 ∷ []

abbrev pub HasRefusedCause : List (List ℕ) → ℕ → Type 0
HasRefusedCause words status = (a : Asked) → Spells words a → IsAmong refused_statuses status
    → (kind : Kind) × (status ≡ kind_status kind) × IsCause a kind

-- a command that reads its input before it writes anything
abbrev pub reads_first : Asked → Bool
reads_first (Ranging keyset aad start len) = true
reads_first (Signing keyset) = true
reads_first (Verifying keyset) = true
reads_first _ = false

abbrev pub IsReadingFirst : List (List ℕ) → Type 0
IsReadingFirst words = (a : Asked) × Spells words a × (reads_first a ≡ true)

-- why a status of 10, 11 or 12 came. `OutOfMemory` leaves the sink, and the source too unless the command reads first.
pub record HasCause (words : List (List ℕ)) (old new : Outside) (status : ℕ) : Type 0 where
  pub want : status ≡ 10 → LeavesSink old new × (IsReadingFirst words ⊎ IsUntouched old new)
  pub read_fault : status ≡ 11 → Rose old.read_faults new.read_faults
  pub write_fault : status ≡ 12 → Rose old.write_faults new.write_faults

-- what a status says of the words, and what stands after it
pub record StatusMeans (words : List (List ℕ)) (old new : Outside) (status : ℕ) : Type 0 where
  -- when 2 comes
  pub usage : IsUsage words status
  -- which statuses a command has
  pub own : HasOwnStatus words status
  -- what words get whose keyset does not load, or is not made, and why
  pub refused : Refuses words status
  pub refused_cause : HasRefusedCause words status
  -- what stands after 10, and that a count rose for 11 or 12
  pub cause : HasCause words old new status

-- ---- what is left as it was

-- the statuses of a command that was refused before it read or wrote
abbrev pub early_statuses : List ℕ
early_statuses = 2 ∷ 13 ∷ 14 ∷ 15 ∷ 16 ∷ 17 ∷ 18 ∷ 19 ∷ 24 ∷ 25 ∷ []

-- the statuses of a command that has written nothing
abbrev pub unwritten_statuses : List ℕ
unwritten_statuses = 10 ∷ 21 ∷ 26 ∷ 27 ∷ 28 ∷ early_statuses

-- those by which a command that reads all of its input before it writes has written nothing besides
abbrev pub late_statuses : Asked → List ℕ
late_statuses (Ranging keyset aad start len) = 11 ∷ 20 ∷ 23 ∷ []
late_statuses (Signing keyset) = 11 ∷ []
late_statuses (Verifying keyset) = 11 ∷ []
late_statuses _ = []

-- the ends themselves after a status that comes before they are touched
pub record KeepsEnds {S K : Type 0} (words : List (List ℕ)) (status : ℕ) (source source_after : S) (sink sink_after : K)
    : Type 0 where
  pub unread : IsAmong early_statuses status → source_after ≡ source
  pub unwritten : IsAmong unwritten_statuses status → sink_after ≡ sink
  pub late : (a : Asked) → Spells words a → IsAmong (late_statuses a) status → sink_after ≡ sink
  pub want : status ≡ 10 → IsReadingFirst words ⊎ (source_after ≡ source)

-- kinds by which a command is refused before it reads, or writes
abbrev pub IsEarlyKind : Kind → Type 0
IsEarlyKind BadKeyset = Unit {0}
IsEarlyKind InvalidKeyset = Unit {0}
IsEarlyKind UnsupportedKeyType = Unit {0}
IsEarlyKind InvalidKey = Unit {0}
IsEarlyKind NoPrimary = Unit {0}
IsEarlyKind WrongPrimitive = Unit {0}
IsEarlyKind UnsupportedHash = Unit {0}
IsEarlyKind UnknownTemplate = Unit {0}
IsEarlyKind NoFreshId = Unit {0}
IsEarlyKind _ = ⊥

abbrev pub IsUnwrittenKind : Kind → Type 0
IsUnwrittenKind OutOfMemory = Unit {0}
IsUnwrittenKind NoMatchingKey = Unit {0}
IsUnwrittenKind InputTooLong = Unit {0}
IsUnwrittenKind BadToken = Unit {0}
IsUnwrittenKind MacMismatch = Unit {0}
IsUnwrittenKind kind = IsEarlyKind kind

-- kinds by which a command has written nothing
abbrev pub IsUnwrittenBy : Asked → Kind → Type 0
IsUnwrittenBy (Ranging keyset aad start len) kind = IsUnwrittenKind kind ⊎ HoldsNoInput kind ⊎ WritesNoRange kind
IsUnwrittenBy (Signing keyset) kind = IsUnwritten kind
IsUnwrittenBy (Verifying keyset) kind = IsUnwritten kind
IsUnwrittenBy _ kind = IsUnwrittenKind kind

-- what an outcome leaves of the ends themselves, of a command that reads first or not, and has written nothing by some
-- kinds
abbrev pub Leaves : {S K : Type 0} → Bool → (Kind → Type 0) → Outcome → S → S → K → K → Type 0
Leaves reads Unwritten Done source source_after sink sink_after = Unit {0}
Leaves reads Unwritten Usage source source_after sink sink_after = (source_after ≡ source) × (sink_after ≡ sink)
Leaves reads Unwritten (Refused kind) source source_after sink sink_after =
    (IsEarlyKind kind → source_after ≡ source) × (Unwritten kind → sink_after ≡ sink)
    × (kind ≡ OutOfMemory → (reads ≡ true) ⊎ (source_after ≡ source))

-- a command that makes a keyset, or measures a large text
abbrev pub takes_no_input : Asked → Bool
takes_no_input (Making template seed) = true
takes_no_input (Rotating keyset template seed) = true
takes_no_input (Measuring n) = true
takes_no_input _ = false

-- it leaves the source itself as it was, whatever its status
abbrev pub LeavesSource : {S : Type 0} → List (List ℕ) → S → S → Type 0
LeavesSource words source source_after =
    (a : Asked) → Spells words a → takes_no_input a ≡ true → source_after ≡ source

-- ---- the promises of a status

-- what a status promises of each command
abbrev pub Promises : Asked → Outside → Outside → ℕ → Type 0
Promises (Sealing keyset aad seed) old new status = SealPromises keyset aad seed old new status
Promises (Opening keyset aad) old new status = OpenPromises keyset aad old new status
Promises (Making template seed) old new status = MakesKeyset (of_no_keys template seed) old new status
Promises (Rotating keyset template seed) old new status = MakesKeyset (of_keyset keyset template seed) old new status
Promises (Measuring n) old new status = MeasuresLarge n old new status
Promises (Ranging keyset aad start len) old new status =
    RangePromises keyset aad start len kind_status old new status
Promises (Signing keyset) old new status = TokenPromises SignsTo RefusesSigning keyset kind_status old new status
Promises (Verifying keyset) old new status = TokenPromises VerifiesTo RefusesVerifying keyset kind_status old new status
Promises (Rewrapping sides seed) old new status = RewrapPromises status_by sides seed old new status

abbrev pub Promised : List (List ℕ) → Outside → Outside → ℕ → Type 0
Promised words old new status = (a : Asked) → Spells words a → Promises a old new status

-- ---- all that doing what is asked says

pub record DoesAsked {S K : Type 0} (SourceSame : S → S → Type 0) (SinkSame : K → K → Type 0) (asked : Asked) (old new : Outside) (outcome : Outcome) (before after : S) (sink_before sink_after : K)
    : Type 0 where
  pub means : CommandMeans asked old new outcome
  pub early : Leaves (reads_first asked) (λ kind. IsUnwrittenBy asked kind) outcome before after sink_before sink_after
  pub kept : takes_no_input asked ≡ true → after ≡ before
  pub promised : Promises asked old new (status_of outcome)
  pub source : SourceSame before after
  pub sink : SinkSame sink_before sink_after
