-- What a command over a stream leaves on standard output after an error.
use Rattle.std.specs.Prelude.{◌≡◌, ◌⊎◌, ℕ, List, [], Bool, true, false, Option, Some, None, Err, option_map, take}
use Rattle.tink_cli_words.specs.LineRead.{LineRead}
use Rattle.tink_cli_words.specs.declared.form.Action.{Action}
use Rattle.tink_io.specs.Faults.{Rose}
use Rattle.tink_io.specs.Outside.{Outside}
use Rattle.tink_io.specs.declared.error.TinkError.{TinkError}
use Rattle.tink_cli_files.specs.Tasks.{TaskMeans}
use Rattle.tink_cli_files.specs.declared.tasks.Task.{Task}
use Rattle.tink_system.specs.States.{SystemState, content}
use Rattle.tink_system.specs.Statuses.{refusal_status}
use Rattle.tink_cli_jobs.specs.Jobs.{IsKeysetOf, data_of}
use Rattle.tink_cli_jobs.specs.Loading.{named}
use Rattle.tink_cli_streams.specs.Performing.{takes_random, text_for}
use Rattle.tink_cli_streams.specs.Streams.{own_task}

-- A task ended by an error: it read so much, and wrote behind what was there, as the error says. The status is that of the error.
-- Reading known bytes does not fail.
pub record Breaks (task : Task) (keyset aad drawn : List ℕ) (left got got_after : Option (List ℕ)) (status : ℕ) : Type 0 where
  pub rest : List ℕ
  pub old : Outside
  pub new : Outside
  pub e : TinkError
  pub reads : old.left ≡ left
  pub before : old.got ≡ got
  pub after : new.got ≡ got_after
  pub sure : (left ≡ None → ⊥) → Rose old.read_faults new.read_faults → ⊥
  pub means : TaskMeans task keyset aad drawn rest old new (Err e)
  pub status_is : status ≡ refusal_status e.kind

-- If the output is a file or a device, standard output stays. Else it stays, or this holds.
abbrev pub StaysOr : Option (List ℕ) → Option (List ℕ) → Option (List ℕ) → Type 0 → Type 0
StaysOr (Some output) got got_after broke = got_after ≡ got
StaysOr None got got_after broke = (got_after ≡ got) ⊎ broke

-- standard output stays, or a task ended so
abbrev pub MayBreak : Option (List ℕ) → Task → List ℕ → List ℕ → List ℕ → Option (List ℕ) → Option (List ℕ) → Option (List ℕ) → ℕ → Type 0
MayBreak output task keyset aad drawn left got got_after status = StaysOr output got got_after (Breaks task keyset aad drawn left got got_after status)

-- the random bytes that a task takes
abbrev pub drawn_by : Bool → SystemState → List ℕ
drawn_by true s = take 1024 s.random
drawn_by false s = []

-- a task of an input ended so, by the next random bytes
abbrev pub BreaksOn : Task → List ℕ → List ℕ → Option (List ℕ) → SystemState → Option (List ℕ) → Option (List ℕ) → ℕ → Type 0
BreaksOn task keyset aad input s got got_after status =
    Breaks task keyset aad (drawn_by (takes_random task) s) (option_map (text_for task) (content s input)) got got_after status

abbrev pub IsUnperformed : Option (List ℕ) → Task → List ℕ → List ℕ → Option (List ℕ) → SystemState → Option (List ℕ) → Option (List ℕ) → ℕ → Type 0
IsUnperformed output task keyset aad input s got got_after status = StaysOr output got got_after (BreaksOn task keyset aad input s got got_after status)

-- the task of a command ended so: of the input that the words name, under their keyset and data
pub record BreaksLine (action : Action) (line : LineRead) (s : SystemState) (got got_after : Option (List ℕ)) (status : ℕ) : Type 0 where
  pub task : Task
  pub is_of : own_task action ≡ Some task
  pub keyset : List ℕ
  pub keys : IsKeysetOf line s line.keys keyset
  pub broke : BreaksOn task keyset (data_of line.aad) (named line.first) s got got_after status

abbrev pub IsUnmade : Action → LineRead → SystemState → Option (List ℕ) → Option (List ℕ) → ℕ → Type 0
IsUnmade action line s got got_after status = StaysOr (named line.output) got got_after (BreaksLine action line s got got_after status)
