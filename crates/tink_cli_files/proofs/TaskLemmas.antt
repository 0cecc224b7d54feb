-- What is said of a task's answer, by what is said of that of the call that does it.
use Rattle.std.proofs.Common.{◌≡◌, ◌⊎◌, ℕ, ◌+◌, List, Bool, refl, sym, subst}
use Rattle.std.specs.Prelude.{Option, Some, None, Result, Ok, Err, IfErr, IfOk}
use Rattle.tink_io.specs.Taken.{LosesAtMost}
use Rattle.tink_io.specs.declared.error.Kind.{Kind}
use Rattle.tink_io.specs.declared.error.Kind.TheVariants.{WriteFault}
use Rattle.tink_io.specs.declared.error.TinkError.{TinkError}
use Rattle.tink_run.specs.OpenReads.{ReadsNoFurther}
use Rattle.tink_io.specs.Places.{Ends}
use Rattle.tink_io.specs.Outside.{Outside, AreKnown}
use Rattle.tink_run.specs.Run.{AnswerMeans, IsEarly, LeavesEnds, LeavesSinkItself, WritesNothing}
use Rattle.tink_run.specs.declared.report.Command.{Command}
use Rattle.tink_run.specs.declared.report.Report.{Report}
use Rattle.tink_rewrap.specs.RewrapReads.{RewrapReadsNoFurther}
use Rattle.tink_rewrap.specs.Rewrapping.{HasKeyOf, LeavesOrBeginsOf, RewrapMeans, Sides}
use Rattle.tink_tokens.specs.Inputs.{input_limit}
use Rattle.tink_tokens.specs.Tokens.{IsAnsweredWhole, Macs, TokenMeans}
use Rattle.tink_tokens.proofs.ToldLemmas.{answered_whole}
use Rattle.tink_cli_files.specs.Streams.{Succeeds}
use Rattle.tink_cli_files.specs.Tasks.{IsBeforeReading, SaidOfStream, TokenTask, answered_as}
use Rattle.tink_cli_files.specs.declared.tasks.Task.{Task}
use Rattle.tink_cli_files.specs.declared.tasks.Task.TheVariants.{Run, Rewrap, Sign, Verify}

-- a stream's
pub run_said : (command : Command) (keyset aad draws left_draws : List ℕ) (old new : Outside) (answer : Result Report TinkError)
    → AnswerMeans command keyset aad draws left_draws old new answer → ReadsNoFurther command keyset aad old new answer
    → SaidOfStream (λ r. AnswerMeans command keyset aad draws left_draws old new r × ReadsNoFurther command keyset aad old new r) (answered_as (λ report. Some report) answer)
run_said command keyset aad draws left_draws old new (Ok report) means reads = (means, reads)
run_said command keyset aad draws left_draws old new (Err e) means reads = (means, reads)

pub rewrap_said : (s : Sides) (draws left_draws : List ℕ) (old new : Outside) (answer : Result Report TinkError)
    → RewrapMeans s draws left_draws old new answer → RewrapReadsNoFurther s old new answer
    → SaidOfStream (λ r. RewrapMeans s draws left_draws old new r × RewrapReadsNoFurther s old new r) (answered_as (λ report. Some report) answer)
rewrap_said s draws left_draws old new (Ok report) means reads = (means, reads)
rewrap_said s draws left_draws old new (Err e) means reads = (means, reads)

-- a token's
pub token_said : (Gives : Macs → List ℕ → List ℕ → Type 0) (Refuses : Macs → List ℕ → Kind → Type 0) (keyset draws : List ℕ) (old new : Outside)
    (answer : Result (Unit {0}) TinkError) → TokenMeans Gives Refuses keyset old new answer → LosesAtMost (input_limit + 1) old.left new.left
    → TokenTask Gives Refuses keyset draws draws old new (answered_as (λ done. None) answer)
token_said Gives Refuses keyset draws old new (Ok done) means taken = record { means = means; rest = refl; taken = taken }
token_said Gives Refuses keyset draws old new (Err e) means taken = record { means = means; rest = refl; taken = taken }

-- what an Ok has done
pub answered_done : {V : Type 0} (report_of : V → Option Report) (done : Option Report → Type 0) (answer : Result V TinkError)
    → IfOk answer (λ v. done (report_of v)) → IfOk (answered_as report_of answer) done
answered_done report_of done (Ok v) is = is
answered_done report_of done (Err e) is = tt

-- where no end fails
pub answered_succeeds : {V : Type 0} (report_of : V → Option Report) (reads reads_after writes writes_after : ℕ) (answer : Result V TinkError)
    → Succeeds reads reads_after writes writes_after answer → Succeeds reads reads_after writes writes_after (answered_as report_of answer)
answered_succeeds report_of reads reads_after writes writes_after (Ok v) done = λ unread unwritten. tt
answered_succeeds report_of reads reads_after writes writes_after (Err e) done = done

-- an Ok has written what is made of the whole input
pub answered : (Gives : Macs → List ℕ → List ℕ → Type 0) (Refuses : Macs → List ℕ → Kind → Type 0) (keyset : List ℕ) (old new : Outside)
    (answer : Result (Unit {0}) TinkError) → TokenMeans Gives Refuses keyset old new answer
    → IfOk answer (λ v. (T G : List ℕ) → AreKnown old T G → IsAnsweredWhole Gives Refuses keyset T G new)
answered Gives Refuses keyset old new (Ok v) means = answered_whole Gives Refuses keyset old new means
answered Gives Refuses keyset old new (Err e) means = tt

-- which refusals leave a stream's source as it was, and which its sink
pub run_unread : {S K : Type 0} (answer : Result Report TinkError) (s t : S) (k l : K) → LeavesEnds answer s t k l → IfErr (answered_as (λ report. Some report) answer) (λ e. IsEarly e.kind → t ≡ s)
run_unread (Ok report) s t k l leaves = tt
run_unread (Err e) s t k l leaves = λ early. (leaves early).0

pub run_unwritten : {K : Type 0} (answer : Result Report TinkError) (k l : K) → LeavesSinkItself answer k l → IfErr (answered_as (λ report. Some report) answer) (λ e. WritesNothing e.kind → l ≡ k)
run_unwritten (Ok report) k l leaves = tt
run_unwritten (Err e) k l leaves = leaves

-- where a key was chosen, or the sink was left
pub rewrap_begun : {K : Type 0} (s : Sides) (old : Outside) (answer : Result Report TinkError) (k l : K) → LeavesOrBeginsOf s old answer k l → IfErr (answered_as (λ report. Some report) answer) (λ e. (l ≡ k) ⊎ HasKeyOf s old)
rewrap_begun s old (Ok report) k l begun = tt
rewrap_begun s old (Err e) k l begun = begun

-- and of another task nothing is said
pub no_move : {V : Type 0} (report_of : V → Option Report) (answer : Result V TinkError) → IfErr (answered_as report_of answer) (λ e. Unit {0})
no_move report_of (Ok v) = tt
no_move report_of (Err e) = tt

-- which leave an end as it was where a token is made, or taken apart
pub token_leaves : {S : Type 0} (spares : Kind → Type 0) (answer : Result (Unit {0}) TinkError) (s t : S) → IfErr answer (λ e. spares e.kind → t ≡ s) → IfErr (answered_as (λ done. None) answer) (λ e. spares e.kind → t ≡ s)
token_leaves spares (Ok done) s t leaves = tt
token_leaves spares (Err e) s t leaves = leaves

-- no task is refused by a fault of writing before it reads
never_before : (task : Task) → IsBeforeReading task WriteFault → ⊥
never_before (Run command) before = before
never_before (Rewrap to to_aad) before = before
never_before Sign before = before
never_before Verify before = before

-- so that a draft that is not shown leaves the source as the task did
pub unread_ended : {S : Type 0} (task : Task) (s t : S) (draft : Option (List ℕ)) (replaces : Bool) (before after : Option (Option (List ℕ))) (i j : ℕ) (answer result : Result (Option Report) TinkError)
    → Ends draft replaces before after i j answer result → IfErr answer (λ e. IsBeforeReading task e.kind → t ≡ s) → IfErr result (λ e. IsBeforeReading task e.kind → t ≡ s)
unread_ended task s t draft replaces before after i j (Ok v) (Ok w) ends leaves = tt
unread_ended task s t draft replaces before after i j (Ok v) (Err e) ends leaves = λ early. absurd (never_before task (subst (λ (x : TinkError). IsBeforeReading task x.kind) ends.refusal early))
unread_ended task s t draft replaces before after i j (Err e) (Ok w) ends leaves = absurd ends
unread_ended task s t draft replaces before after i j (Err e) (Err f) ends leaves = subst (λ (x : TinkError). IsBeforeReading task x.kind → t ≡ s) (sym ends.0) leaves
