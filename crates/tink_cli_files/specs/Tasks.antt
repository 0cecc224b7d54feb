-- What a task makes of the bytes of a source, and what its answer says.
use Rattle.std.specs.Prelude.{◌≡◌, ◌⊎◌, ◌+◌, ℕ, List, Option, Some, None, Result, Ok, Err}
use Rattle.tink_io.specs.Taken.{LosesAtMost}
use Rattle.tink_io.specs.declared.error.Kind.{Kind}
use Rattle.tink_io.specs.declared.error.TinkError.{TinkError}
use Rattle.tink_run.specs.OpenReads.{ReadsNoFurther}
use Rattle.tink_io.specs.Outside.{Outside}
use Rattle.tink_run.specs.Run.{AnswerMeans, CanSucceed, IsEarly, OkMeans, WritesNothing}
use Rattle.tink_run.specs.declared.report.Report.{Report}
use Rattle.tink_rewrap.specs.RewrapPromises.{CanRewrap, IsWholeRewrap}
use Rattle.tink_rewrap.specs.RewrapReads.{RewrapReadsNoFurther}
use Rattle.tink_rewrap.specs.Rewrapping.{HasKeyOf, RewrapMeans, sides}
use Rattle.tink_tokens.specs.Inputs.{input_limit, IsUnloadable, IsUnwritten}
use Rattle.tink_tokens.specs.Tokens.{CanAnswer, IsAnsweredWhole, Macs, TokenMeans}
use Rattle.tink_tokens.specs.Tokens.{RefusesSigning, RefusesVerifying, SignsTo, VerifiesTo}
use Rattle.tink_cli_files.specs.declared.tasks.Task.{Task}
use Rattle.tink_cli_files.specs.declared.tasks.Task.TheVariants.{Run, Rewrap, Sign, Verify}

-- an answer with the report that it gives
abbrev pub answered_as : {V : Type 0} → (V → Option Report) → Result V TinkError → Result (Option Report) TinkError
answered_as report_of (Ok v) = Ok (report_of v)
answered_as report_of (Err e) = Err e

-- what is said of an answer about a stream, which has a report
abbrev pub SaidOfStream : (Result Report TinkError → Type 0) → Result (Option Report) TinkError → Type 0
SaidOfStream says (Ok (Some report)) = says (Ok report)
SaidOfStream says (Ok None) = ⊥
SaidOfStream says (Err e) = says (Err e)

-- and of one about a token, which has none
abbrev pub SaidOfToken : (Result (Unit {0}) TinkError → Type 0) → Result (Option Report) TinkError → Type 0
SaidOfToken says (Ok (Some report)) = ⊥
SaidOfToken says (Ok None) = says (Ok tt)
SaidOfToken says (Err e) = says (Err e)

-- a token is made, or taken apart: nothing is drawn, and a byte more than an input may have is taken at most
pub record TokenTask (Gives : Macs → List ℕ → List ℕ → Type 0) (Refuses : Macs → List ℕ → Kind → Type 0) (keyset draws left_draws : List ℕ)
    (old new : Outside) (answer : Result (Option Report) TinkError) : Type 0 where
  pub means : SaidOfToken (λ r. TokenMeans Gives Refuses keyset old new r) answer
  pub rest : left_draws ≡ draws
  pub taken : LosesAtMost (input_limit + 1) old.left new.left

-- why an answer came, and what stands after it
abbrev pub TaskMeans : Task → List ℕ → List ℕ → List ℕ → List ℕ → Outside → Outside → Result (Option Report) TinkError → Type 0
TaskMeans (Run command) keyset aad draws left_draws old new answer =
    SaidOfStream (λ r. AnswerMeans command keyset aad draws left_draws old new r × ReadsNoFurther command keyset aad old new r) answer
TaskMeans (Rewrap to to_aad) keyset aad draws left_draws old new answer =
    SaidOfStream (λ r. RewrapMeans (sides keyset aad to.now to_aad.now) draws left_draws old new r
    × RewrapReadsNoFurther (sides keyset aad to.now to_aad.now) old new r) answer
TaskMeans Sign keyset aad draws left_draws old new answer = TokenTask SignsTo RefusesSigning keyset draws left_draws old new answer
TaskMeans Verify keyset aad draws left_draws old new answer = TokenTask VerifiesTo RefusesVerifying keyset draws left_draws old new answer

-- kinds by which a task is refused before it reads. Without memory a token's input may have been read.
abbrev pub IsBeforeReading : Task → Kind → Type 0
IsBeforeReading (Run command) kind = IsEarly kind
IsBeforeReading (Rewrap to to_aad) kind = IsEarly kind
IsBeforeReading Sign kind = IsUnloadable kind
IsBeforeReading Verify kind = IsUnloadable kind

-- kinds by which it is refused before it writes
abbrev pub IsBeforeWriting : Task → Kind → Type 0
IsBeforeWriting (Run command) kind = WritesNothing kind
IsBeforeWriting (Rewrap to to_aad) kind = WritesNothing kind
IsBeforeWriting Sign kind = IsUnwritten kind
IsBeforeWriting Verify kind = IsUnwritten kind

-- a stream that is not moved has a key of the first keyset, or the sink is itself as it was
abbrev pub LeavesOrMoves : {K : Type 0} → Task → List ℕ → List ℕ → Outside → K → K → Type 0
LeavesOrMoves (Rewrap to to_aad) keyset aad old sink sink_after = (sink_after ≡ sink) ⊎ HasKeyOf (sides keyset aad to.now to_aad.now) old
LeavesOrMoves _ keyset aad old sink sink_after = Unit {0}

-- exactly what the task makes of the whole input was written, and nothing is left of it
abbrev pub IsDone : Task → List ℕ → List ℕ → List ℕ → List ℕ → List ℕ → List ℕ → Outside → Option Report → Type 0
IsDone (Run command) keyset aad draws left_draws T G new (Some report) = OkMeans command keyset aad draws left_draws T G new report
IsDone (Rewrap to to_aad) keyset aad draws left_draws T G new (Some report) =
    IsWholeRewrap (sides keyset aad to.now to_aad.now) draws left_draws T G new report
IsDone Sign keyset aad draws left_draws T G new None = IsAnsweredWhole SignsTo RefusesSigning keyset T G new
IsDone Verify keyset aad draws left_draws T G new None = IsAnsweredWhole VerifiesTo RefusesVerifying keyset T G new
IsDone _ keyset aad draws left_draws T G new _ = ⊥

-- the keysets load, and the task makes something of the input
abbrev pub CanDo : Task → List ℕ → List ℕ → List ℕ → List ℕ → Type 0
CanDo (Run command) keyset aad draws T = CanSucceed command keyset aad draws T
CanDo (Rewrap to to_aad) keyset aad draws T = CanRewrap (sides keyset aad to.now to_aad.now) draws T
CanDo Sign keyset aad draws T = CanAnswer SignsTo RefusesSigning keyset T
CanDo Verify keyset aad draws T = CanAnswer VerifiesTo RefusesVerifying keyset T
