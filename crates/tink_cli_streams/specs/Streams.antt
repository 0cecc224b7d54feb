-- What the commands over streams and tokens have done.
use Rattle.std.specs.Prelude.{◌≡◌, ◌⊎◌, ℕ, List, [], false, Option, Some, None, Ok, option_map}
use Rattle.tink_cli_words.specs.LineRead.{LineRead}
use Rattle.tink_cli_words.specs.declared.form.Action.{Action}
use Rattle.tink_cli_words.specs.declared.form.Action.TheVariants as actions
use Rattle.tink_io.specs.Faults.{Rose}
use Rattle.tink_io.specs.Outside.{Outside}
use Rattle.tink_run.specs.Run.{CanOpen}
use Rattle.tink_run.specs.declared.report.Command.TheVariants.{Open, Seal}
use Rattle.tink_run.specs.declared.report.Report.{Report}
use Rattle.tink_cli_files.specs.Tasks.{IsDone}
use Rattle.tink_cli_files.specs.declared.tasks.Task.{Task}
use Rattle.tink_cli_files.specs.declared.tasks.Task.TheVariants.{Rewrap, Run, Sign, Verify}
use Rattle.tink_system.specs.States.{SystemState, content}
use Rattle.tink_cli_jobs.specs.Jobs.{IsKeysetOf, data_of}
use Rattle.tink_cli_jobs.specs.Loading.{keyset_of, named}
use Rattle.tink_cli_jobs.specs.Protecting.{AreSparedOf, names_twice}
use Rattle.tink_cli_jobs.specs.declared.job.Job.{Job}
use Rattle.tink_cli_jobs.specs.declared.keys.KeyWords.{KeyWords}
use Rattle.tink_cli_streams.specs.Performing.{IsPerformed}

-- what a command makes of its input under its own keys
abbrev pub own_task : Action → Option Task
own_task actions.Encrypt = Some (Run Seal)
own_task actions.Decrypt = Some (Run Open)
own_task actions.Sign = Some Sign
own_task actions.Verify = Some Verify
own_task _ = None

-- a move to this keyset, with this data
abbrev pub IsMoveTo : List ℕ → List ℕ → Task → Type 0
IsMoveTo keyset aad (Rewrap to to_aad) = (to.now ≡ keyset) × (to_aad.now ≡ aad)
IsMoveTo keyset aad _ = ⊥

-- The task of a command was done: of the input and to the output that the words name, under their keyset and data. The output
-- is none of their files of keys, and standard input is named for one thing at most.
pub record IsMade (action : Action) (line : LineRead) (old new : SystemState) (got got_after : Option (List ℕ)) : Type 0 where
  pub task : Task
  pub is_of : own_task action ≡ Some task
  pub keyset : List ℕ
  pub keys : IsKeysetOf line old line.keys keyset
  pub spared : AreSparedOf old line
  pub once : names_twice line ≡ false
  pub done : IsPerformed task keyset (data_of line.aad) line.no_clobber (named line.first) (named line.output) old new got got_after

-- The stream was moved to the keyset and data that the words name. The output is none of their files of keys, and standard input
-- is named for one thing at most.
pub record IsMoved (line : LineRead) (old new : SystemState) (got got_after : Option (List ℕ)) : Type 0 where
  pub keyset : List ℕ
  pub keys : IsKeysetOf line old line.keys keyset
  pub new_keyset : List ℕ
  pub new_keys : IsKeysetOf line old line.to new_keyset
  pub spared : AreSparedOf old line
  pub once : names_twice line ≡ false
  pub task : Task
  pub is_to : IsMoveTo new_keyset (data_of line.to_aad) task
  pub done : IsPerformed task keyset (data_of line.aad) line.no_clobber (named line.first) (named line.output) old new got got_after

-- the same from and to these keysets
pub record IsMovedTo (keyset new_keyset : List ℕ) (job : Job) (old new : SystemState) (got got_after : Option (List ℕ)) : Type 0 where
  pub task : Task
  pub is_to : IsMoveTo new_keyset job.new_aad.now task
  pub done : IsPerformed task keyset job.aad.now job.keeps_output (option_map (λ n. n.now) job.input) (option_map (λ n. n.now) job.output) old new got got_after

pub record IsMovedFrom (keyset : List ℕ) (job : Job) (old new : SystemState) (got got_after : Option (List ℕ)) : Type 0 where
  pub words : KeyWords
  pub given : job.new_keys ≡ Some words
  pub new_keyset : List ℕ
  pub loaded : keyset_of old words ≡ Ok new_keyset
  pub moved : IsMovedTo keyset new_keyset job old new got got_after

-- all of an input is opened under a keyset, with these data
pub record IsOpened (keyset aad text : List ℕ) : Type 0 where
  pub left : List ℕ
  pub report : Option Report
  pub ends : Outside
  pub done : IsDone (Run Open) keyset aad [] left text [] ends report

-- the input that the words name is opened whole, and standard input is named for one thing at most
pub record IsChecked (line : LineRead) (s : SystemState) : Type 0 where
  pub keyset : List ℕ
  pub keys : IsKeysetOf line s line.keys keyset
  pub text : List ℕ
  pub read : content s (named line.first) ≡ Some text
  pub opened : IsOpened keyset (data_of line.aad) text
  pub once : names_twice line ≡ false

-- the keyset that the words name loads, and the input is a stream of its chosen key with the data of the words
pub record IsOpenable (line : LineRead) (s : SystemState) : Type 0 where
  pub keyset : List ℕ
  pub keys : IsKeysetOf line s line.keys keyset
  pub text : List ℕ
  pub read : content s (named line.first) ≡ Some text
  pub can : CanOpen keyset (data_of line.aad) text

-- what the output gets is known: standard output tells it, or the output is no pipe and no device
abbrev pub TellsOut : SystemState → Option (List ℕ) → Option (List ℕ) → Type 0
TellsOut s None got = (before : List ℕ) × (got ≡ Some before)
TellsOut s (Some output) got = s.is_stream output ≡ false

-- there is no memory, or a call of the system failed
abbrev pub MayFail : ℕ → ℕ → ℕ → Type 0
MayFail before now status = (status ≡ 10) ⊎ Rose before now
