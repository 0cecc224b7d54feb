-- Whether `verify` can read what `sign` makes.
use Rattle.std.specs.Prelude.{◌≡◌, ◌⊎◌, ◌<◌, ◌≤◌, ◌+◌, ℕ, List, length, Bool, true, false, Option, Result, Ok, Err}
use Rattle.tink_io.specs.Outside.{Outside}
use Rattle.tink_io.specs.Taken.{LosesAtMost}
use Rattle.tink_io.specs.declared.error.Kind.{Kind}
use Rattle.tink_io.specs.declared.error.Kind.TheVariants.{InputTooLong, WriteFault}
use Rattle.tink_io.specs.declared.error.TinkError.{TinkError}
use Rattle.tink_run.specs.declared.report.Report.{Report}
use Rattle.tink_tokens.specs.Inputs.{HasInput, IsOfInput, LeavesSink, input_limit}
use Rattle.tink_tokens.specs.Tokens.{Macs, SignsTo, macs_of}
use Rattle.tink_cli_files.specs.Tasks.{CanDo, IsDone, TaskMeans}
use Rattle.tink_cli_files.specs.declared.tasks.Task.{Task}
use Rattle.tink_cli_files.specs.declared.tasks.Task.TheVariants.{Rewrap, Run, Sign, Verify}

-- whether a task makes a token
abbrev pub signs : Task → Bool
signs (Run command) = false
signs (Rewrap to to_aad) = false
signs Sign = true
signs Verify = false

-- The token of a text, under the keyset, is longer than the token that `verify` reads.
pub record HasLongToken (keyset text : List ℕ) : Type 0 where
  pub macs : Macs
  pub loads : macs_of keyset ≡ Ok macs
  pub token : List ℕ
  pub gives : SignsTo macs text token
  pub long : input_limit < length token

-- what a task makes of a text is too long: a token that `verify` does not read
abbrev pub IsTooLong : Task → List ℕ → List ℕ → Type 0
IsTooLong (Run command) keyset text = ⊥
IsTooLong (Rewrap to to_aad) keyset text = ⊥
IsTooLong Sign keyset text = HasLongToken keyset text
IsTooLong Verify keyset text = ⊥

-- a task can be done, and what it makes is not too long
abbrev pub CanMake : Task → List ℕ → List ℕ → List ℕ → List ℕ → Type 0
CanMake task keyset aad drawn text = CanDo task keyset aad drawn text × (IsTooLong task keyset text → ⊥)

-- the same of a task that was done
abbrev pub IsDoneFitting : Task → List ℕ → List ℕ → List ℕ → List ℕ → List ℕ → List ℕ → Outside → Option Report → Type 0
IsDoneFitting task keyset aad drawn left text before ends report = IsDone task keyset aad drawn left text before ends report × (IsTooLong task keyset text → ⊥)

-- What a task makes of the input is too long: the input was read to its end, and nothing was written.
pub record IsRefusedAsLong (task : Task) (keyset : List ℕ) (old new : Outside) (e : TinkError) : Type 0 where
  pub kind : e.kind ≡ InputTooLong
  pub text : List ℕ
  pub has : HasInput old new text
  pub long : IsTooLong task keyset text
  pub sink : LeavesSink old new

abbrev pub IsRefused : Task → List ℕ → Outside → Outside → Result (Option Report) TinkError → Type 0
IsRefused task keyset old new (Ok report) = ⊥
IsRefused task keyset old new (Err e) = IsRefusedAsLong task keyset old new e

-- an answer is that of the task, or what the task makes is too long
abbrev pub FittingMeans : Task → List ℕ → List ℕ → List ℕ → List ℕ → Outside → Outside → Result (Option Report) TinkError → Type 0
FittingMeans task keyset aad draws left_draws old new answer =
    TaskMeans task keyset aad draws left_draws old new answer ⊎ IsRefused task keyset old new answer

-- a source at one moment, beside a sink that has got so much and has failed so often
abbrev pub beside : Option (List ℕ) → ℕ → Option (List ℕ) → ℕ → Outside
beside left reads got writes = record { left = left; read_faults = reads; got = got; write_faults = writes }

-- the token of the whole input, which is not too long
pub record HoldsToken (keyset draws left_draws : List ℕ) (old new : Outside) (token : List ℕ) : Type 0 where
  pub of : IsOfInput (macs_of keyset) old new (λ macs input. SignsTo macs input token)
  pub fits : length token ≤ input_limit
  pub rest : left_draws ≡ draws
  pub taken : LosesAtMost (input_limit + 1) old.left new.left

-- the error of a token that is held in memory: a fault there is that the token is too long
abbrev pub unheld : Kind → Kind
unheld WriteFault = InputTooLong
unheld kind = kind
