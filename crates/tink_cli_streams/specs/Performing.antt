-- What a task over files does.
use Rattle.std.specs.Prelude.{◌≡◌, ℕ, List, [], Bool, true, false, Option, Some, take, drop}
use Rattle.tink_io.specs.Outside.{Outside}
use Rattle.tink_run.specs.declared.report.Command.TheVariants.{Open, Seal}
use Rattle.tink_run.specs.declared.report.Report.{Report}
use Rattle.tink_cli_files.specs.Tasks.{IsDone}
use Rattle.tink_cli_files.specs.declared.tasks.Task.{Task}
use Rattle.tink_cli_files.specs.declared.tasks.Task.TheVariants.{Rewrap, Run, Sign, Verify}
use Rattle.tink_system.specs.States.{SystemState, content}
use Rattle.tink_cli_jobs.specs.Outputs.{IsPut}
use Rattle.tink_cli_streams.specs.Fitting.{IsTooLong}
use Rattle.tink_cli_streams.specs.Trimming.{trimmed_if}

-- whether a task takes random bytes
abbrev pub takes_random : Task → Bool
takes_random (Run Seal) = true
takes_random (Run Open) = false
takes_random (Rewrap to to_aad) = true
takes_random Sign = false
takes_random Verify = false

-- whether one newline at the end of the input of a task is not part of it
abbrev pub trims : Task → Bool
trims (Run command) = false
trims (Rewrap to to_aad) = false
trims Sign = false
trims Verify = true

-- the text of a task: its input, but of a token without one newline at the end
abbrev pub text_for : Task → List ℕ → List ℕ
text_for task input = trimmed_if (trims task) input

-- a task takes the next random bytes of the system, or none
abbrev pub Spends : Bool → SystemState → SystemState → List ℕ → Type 0
Spends true old new drawn = (drawn ≡ take 1024 old.random) × (new.random ≡ drop 1024 old.random)
Spends false old new drawn = (drawn ≡ []) × (new.random ≡ old.random)

-- exactly what a task makes of the whole text is behind what was there, and is not too long
pub record Makes (task : Task) (keyset aad drawn text before : List ℕ) (after : Option (List ℕ)) : Type 0 where
  pub left : List ℕ
  pub report : Option Report
  pub ends : Outside
  pub done : IsDone task keyset aad drawn left text before ends report
  pub fits : IsTooLong task keyset text → ⊥
  pub got : after ≡ ends.got

-- a task was done: of all of the input, under this keyset and these data, by the next random bytes
pub record IsPerformed (task : Task) (keyset aad : List ℕ) (keeps : Bool) (input output : Option (List ℕ)) (old new : SystemState) (got got_after : Option (List ℕ)) : Type 0 where
  pub text : List ℕ
  pub read : content old input ≡ Some text
  pub drawn : List ℕ
  pub draws : Spends (takes_random task) old new drawn
  pub put : IsPut (λ before after. Makes task keyset aad drawn (text_for task text) before after) keeps old new output got got_after
