-- The commands of streams: what a run gave, and what it promises by the status.
use Rattle.std.specs.Prelude.{◌≡◌, ◌⊎◌, ℕ, List, [], Result, Ok, Err, IfOk}
use Rattle.stream_model.specs.Sealing.{nonce_prefix_of, salt_of}
use Rattle.loading_model.specs.Loading.{Loaded}
use Rattle.tink_io.specs.declared.error.Kind.{Kind}
use Rattle.tink_io.specs.declared.error.Kind.TheVariants.{OutOfMemory, RandomFault}
use Rattle.tink_io.specs.declared.error.TinkError.{TinkError}
use Rattle.tink_run.specs.AllKeys.{load}
use Rattle.tink_io.specs.Outside.{Outside, IsUntouched, HasNoFault, AreKnown}
use Rattle.tink_run.specs.Run.{AnswerMeans, OkMeans, IsWholeStream, IsWholeText, IsOfAgreeing, OnlyAgreeing, CanSeal, CanOpen, IsComplete, LeavesEnds, LeavesSinkItself}
use Rattle.tink_run.specs.OpenReads.{ReadsNoFurther}
use Rattle.tink_run.specs.SealAnswers.{SourceFailed}
use Rattle.tink_rewrap.specs.RewrapPromises.{CanRewrap, CompletesRewrap, IsWholeRewrap, LeavesUnended}
use Rattle.tink_rewrap.specs.Rewrapping.{RewrapMeans, SecondRefused, Sides}
use Rattle.tink_run.specs.declared.report.Command.{Command}
use Rattle.tink_run.specs.declared.report.Command.TheVariants.{Open}
use Rattle.tink_run.specs.declared.report.Report.{Report}
use Rattle.tink_program_core.specs.Draws.{draws_in}
use Rattle.tink_program_core.specs.declared.outcomes.Outcome.{Outcome}
use Rattle.tink_program_core.specs.declared.outcomes.Outcome.TheVariants.{Done, Usage, Refused}

-- what a run with these draws says by its answer, whatever draws it leaves
pub record Ran (command : Command) (keyset aad draws : List ℕ) (old new : Outside) (answer : Result Report TinkError)
    : Type 0 where
  pub left_draws : List ℕ
  pub means : AnswerMeans command keyset aad draws left_draws old new answer
  pub ok : IfOk answer
      (λ report. (T G : List ℕ) → AreKnown old T G → OkMeans command keyset aad draws left_draws T G new report)
  pub written : OnlyAgreeing command keyset aad old new
  pub succeeds : IsComplete command keyset aad draws old new answer
  pub read : ReadsNoFurther command keyset aad old new answer

-- a refusal leaves the ends themselves as they were, where it comes before anything was read, and the sink, where it comes
-- before anything was written
pub record SparesEnds {S K : Type 0} (answer : Result Report TinkError) (source source_after : S) (sink sink_after : K)
    : Type 0 where
  pub early : LeavesEnds answer source source_after sink sink_after
  pub unwritten : LeavesSinkItself answer sink sink_after

-- some run gave this answer
abbrev pub Answered : Command → List ℕ → List ℕ → List ℕ → Outside → Outside → Result Report TinkError → Type 0
Answered command keyset aad draws old new answer =
    (left_draws : List ℕ) × AnswerMeans command keyset aad draws left_draws old new answer

-- what stands after each outcome of a seal or of an open, and why it came. A seed's draws always suffice; `OutOfMemory`
-- is free.
abbrev pub StreamMeans : Command → List ℕ → List ℕ → List ℕ → Outside → Outside → Outcome → Type 0
StreamMeans command keyset aad draws old new Done =
    (report : Report) × Answered command keyset aad draws old new (Ok report)
StreamMeans command keyset aad draws old new Usage = ⊥
StreamMeans command keyset aad draws old new (Refused OutOfMemory) = IsUntouched old new
StreamMeans command keyset aad draws old new (Refused RandomFault) = ⊥
StreamMeans command keyset aad draws old new (Refused kind) =
    Answered command keyset aad draws old new (Err (record { kind = kind }))

-- how far the source of an open was read by a refusal
abbrev pub OpenReads : List ℕ → List ℕ → Outside → Outside → Outcome → Type 0
OpenReads keyset aad old new Done = Unit {0}
OpenReads keyset aad old new Usage = Unit {0}
OpenReads keyset aad old new (Refused kind) = ReadsNoFurther Open keyset aad old new (Err (record { kind = kind }))

-- what stands after each outcome of an open, and why it came
pub record OpenOutcome (keyset aad : List ℕ) (old new : Outside) (outcome : Outcome) : Type 0 where
  pub means : StreamMeans Open keyset aad [] old new outcome
  pub read : OpenReads keyset aad old new outcome

-- the status is 0, or 10 by `OutOfMemory`
abbrev pub IsDoneOrWant : ℕ → Type 0
IsDoneOrWant status = (status ≡ 0) ⊎ (status ≡ 10)

-- ---- a seal

-- known bytes: a seal with status 0 has written exactly the stream of the whole text under the seed's draws
abbrev pub SealsWhole : List ℕ → List ℕ → List ℕ → Outside → Outside → ℕ → Type 0
SealsWhole keyset aad seed old new status = (T G : List ℕ) → AreKnown old T G → status ≡ 0
    → (report : Report) × (left_draws : List ℕ)
    × IsWholeStream keyset aad (draws_in seed 256) left_draws T G new report

-- a seal with status 11 has written exactly the front and the unmarked segments of what it read
abbrev pub StopsUnmarked : List ℕ → List ℕ → List ℕ → Outside → Outside → ℕ → Type 0
StopsUnmarked keyset aad seed old new status = status ≡ 11
    → (loaded : Loaded) × (load keyset ≡ Ok loaded)
    × SourceFailed loaded.primary aad (salt_of loaded.primary (draws_in seed 256))
    (nonce_prefix_of loaded.primary (draws_in seed 256)) old new

-- known bytes: a seal that can succeed where neither end fails does, or there is no memory
abbrev pub SealSucceeds : List ℕ → List ℕ → List ℕ → Outside → Outside → ℕ → Type 0
SealSucceeds keyset aad seed old new status = (T G : List ℕ) → AreKnown old T G → HasNoFault old new
    → CanSeal keyset aad (draws_in seed 256) T → IsDoneOrWant status

-- what a status promises of a seal
pub record SealPromises (keyset aad seed : List ℕ) (old new : Outside) (status : ℕ) : Type 0 where
  -- what 0 promises
  pub sealed : SealsWhole keyset aad seed old new status
  -- what was written where the source failed, told or not
  pub stopped : StopsUnmarked keyset aad seed old new status
  -- when it succeeds
  pub succeeds : SealSucceeds keyset aad seed old new status

-- ---- an open

-- known bytes: an open with status 0 had exactly a stream of the chosen key, and has written its text
abbrev pub OpensWhole : List ℕ → List ℕ → Outside → Outside → ℕ → Type 0
OpensWhole keyset aad old new status = (S G : List ℕ) → AreKnown old S G → status ≡ 0
    → (report : Report) × IsWholeText keyset aad S G new report

-- known bytes: an open, whatever its status, has written only a prefix of the texts that agree under the chosen key
abbrev pub WritesAgreeing : List ℕ → List ℕ → Outside → Outside → Type 0
WritesAgreeing keyset aad old new = (S G : List ℕ) → AreKnown old S G → IsOfAgreeing keyset aad S old new

-- known bytes: an open that can succeed where neither end fails does, or there is no memory
abbrev pub OpenSucceeds : List ℕ → List ℕ → Outside → Outside → ℕ → Type 0
OpenSucceeds keyset aad old new status = (S G : List ℕ) → AreKnown old S G → HasNoFault old new
    → CanOpen keyset aad S → IsDoneOrWant status

-- what a status promises of an open
pub record OpenPromises (keyset aad : List ℕ) (old new : Outside) (status : ℕ) : Type 0 where
  -- what 0 promises
  pub opened : OpensWhole keyset aad old new status
  -- what was written by any status
  pub written : WritesAgreeing keyset aad old new
  -- when it succeeds
  pub succeeds : OpenSucceeds keyset aad old new status

-- ---- a rewrap

-- what a rewrap with these draws says by its answer, whatever draws it leaves
pub record Moved (sides : Sides) (draws : List ℕ) (old new : Outside) (answer : Result Report TinkError) : Type 0 where
  pub left_draws : List ℕ
  pub means : RewrapMeans sides draws left_draws old new answer
  pub ok : IfOk answer
      (λ report. (S G : List ℕ) → AreKnown old S G → IsWholeRewrap sides draws left_draws S G new report)
  pub unended : LeavesUnended sides draws old new answer
  pub succeeds : CompletesRewrap sides draws old new answer

-- some rewrap gave this answer
abbrev pub HasRewrapped : Sides → List ℕ → Outside → Outside → Result Report TinkError → Type 0
HasRewrapped sides draws old new answer = (left_draws : List ℕ) × RewrapMeans sides draws left_draws old new answer

-- what stands after each outcome of a rewrap, and why it came
abbrev pub RewrapOutcome : Sides → List ℕ → Outside → Outside → Outcome → Type 0
RewrapOutcome sides draws old new Done = (report : Report) × HasRewrapped sides draws old new (Ok report)
RewrapOutcome sides draws old new Usage = ⊥
RewrapOutcome sides draws old new (Refused OutOfMemory) = IsUntouched old new
RewrapOutcome sides draws old new (Refused RandomFault) = ⊥
RewrapOutcome sides draws old new (Refused kind) = HasRewrapped sides draws old new (Err (record { kind = kind }))

-- a keyset of the two does not load, the first before the second
abbrev pub IsUnmovable : Sides → Kind → Type 0
IsUnmovable sides kind = (load sides.from ≡ Err kind) ⊎ SecondRefused sides kind

-- known bytes: a rewrap with status 0 had exactly a stream of the chosen key of the first keyset, and has written exactly the
-- stream of its text under the primary key of the second one and the seed's draws
abbrev pub MovesWhole : Sides → List ℕ → Outside → Outside → ℕ → Type 0
MovesWhole sides seed old new status = (S G : List ℕ) → AreKnown old S G → status ≡ 0
    → (report : Report) × (left_draws : List ℕ) × IsWholeRewrap sides (draws_in seed 256) left_draws S G new report

-- known bytes: a status is that of an answer, and by all but success and a fault of the sink no last segment was written,
-- nor by these where the source is no stream of the chosen key
abbrev pub EndsNone : (Result Report TinkError → ℕ) → Sides → List ℕ → Outside → Outside → ℕ → Type 0
EndsNone status_by sides seed old new status =
    (answer : Result Report TinkError) × (status ≡ status_by answer) × LeavesUnended sides (draws_in seed 256) old new answer

-- known bytes: a rewrap that can succeed where neither end fails does, or there is no memory
abbrev pub RewrapSucceeds : Sides → List ℕ → Outside → Outside → ℕ → Type 0
RewrapSucceeds sides seed old new status = (S G : List ℕ) → AreKnown old S G → HasNoFault old new
    → CanRewrap sides (draws_in seed 256) S → IsDoneOrWant status

-- what a status promises of a rewrap
pub record RewrapPromises (status_by : Result Report TinkError → ℕ) (sides : Sides) (seed : List ℕ) (old new : Outside)
    (status : ℕ) : Type 0 where
  -- what 0 promises
  pub rewrapped : MovesWhole sides seed old new status
  -- what was written by any other status
  pub unended : EndsNone status_by sides seed old new status
  -- when it succeeds
  pub succeeds : RewrapSucceeds sides seed old new status
