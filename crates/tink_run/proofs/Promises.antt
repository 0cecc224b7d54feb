-- The promises of `run`, by its command.
use Rattle.std.proofs.Common.{ℕ, List}
use Rattle.std.specs.Prelude.{Result, Ok, Err, IfOk}
use Rattle.tink_io.specs.declared.error.TinkError.{TinkError}
use Rattle.tink_run.specs.declared.report.Command.{Command}
use Rattle.tink_run.specs.declared.report.Command.TheVariants.{Seal, Open}
use Rattle.tink_run.specs.declared.report.Report.{Report}
use Rattle.tink_io.specs.Outside.{Outside, AreKnown}
use Rattle.tink_run.specs.Run.{AnswerMeans, OkMeans, OnlyAgreeing, IsComplete}
use Rattle.tink_run.proofs.RunLemmas.{seal_succeeds, seal_complete}
use Rattle.tink_run.proofs.OpenLemmas.{open_succeeds, open_agreeing, open_complete}

-- what a success says of known bytes
pub succeeds : (command : Command) (keyset aad draws left_draws : List ℕ) (old new : Outside) (answer : Result Report TinkError) → AnswerMeans command keyset aad draws left_draws old new answer
    → IfOk answer (λ report. (T G : List ℕ) → AreKnown old T G → OkMeans command keyset aad draws left_draws T G new report)
succeeds Seal keyset aad draws left_draws old new (Ok report) m = λ T G t. seal_succeeds keyset aad draws left_draws T G old new report m t
succeeds Seal keyset aad draws left_draws old new (Err e) m = tt
succeeds Open keyset aad draws left_draws old new (Ok report) m = λ S G t. open_succeeds keyset aad S G old new report m.0 t
succeeds Open keyset aad draws left_draws old new (Err e) m = tt

pub only_agreeing : (command : Command) (keyset aad draws left_draws : List ℕ) (old new : Outside) (answer : Result Report TinkError) → AnswerMeans command keyset aad draws left_draws old new answer → OnlyAgreeing command keyset aad old new
only_agreeing Seal keyset aad draws left_draws old new answer m = tt
only_agreeing Open keyset aad draws left_draws old new answer m = λ S G t. open_agreeing keyset aad draws left_draws S G old new answer t m.0

pub complete : (command : Command) (keyset aad draws left_draws : List ℕ) (old new : Outside) (answer : Result Report TinkError) → AnswerMeans command keyset aad draws left_draws old new answer → IsComplete command keyset aad draws old new answer
complete Seal keyset aad draws left_draws old new answer m = λ T G t n c. seal_complete keyset aad draws left_draws T G old new answer m t n c
complete Open keyset aad draws left_draws old new answer m = λ S G t n c. open_complete keyset aad draws left_draws S G old new answer m.0 t n c
