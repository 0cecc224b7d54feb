-- Why a command over a stream or a token ended by an error.
use Rattle.std.specs.Prelude.{◌≡◌, ◌⊎◌, ℕ, List, true, Option, Some, None, Err}
use Rattle.tink_cli_words.specs.LineRead.{LineRead}
use Rattle.tink_cli_words.specs.declared.form.Action.{Action}
use Rattle.tink_io.specs.Faults.{Rose}
use Rattle.tink_io.specs.Outside.{Outside}
use Rattle.tink_io.specs.declared.error.TinkError.{TinkError}
use Rattle.tink_cli_files.specs.Tasks.{TaskMeans}
use Rattle.tink_cli_files.specs.declared.tasks.Task.{Task}
use Rattle.tink_system.specs.States.{SystemState, content}
use Rattle.tink_system.specs.Statuses.{refusal_status}
use Rattle.tink_cli_jobs.specs.Jobs.{IsKeysetOf, IsKeyWords, data_of}
use Rattle.tink_cli_jobs.specs.Loading.{HasStatusOf, keyset_of, named}
use Rattle.tink_cli_jobs.specs.Protecting.{names_twice}
use Rattle.tink_cli_jobs.specs.declared.keys.KeyWords.{KeyWords}
use Rattle.tink_cli_streams.specs.Breaking.{drawn_by}
use Rattle.tink_cli_streams.specs.Fitting.{CanMake, IsTooLong}
use Rattle.tink_cli_streams.specs.Performing.{takes_random, text_for}
use Rattle.tink_cli_streams.specs.Streams.{IsMoveTo, own_task}

-- There is no memory, something could not be written, or a call of the system failed. Of a fault of writing no clause has the
-- cause.
abbrev pub MayStop : ℕ → ℕ → ℕ → Type 0
MayStop before now status = (status ≡ 10) ⊎ (status ≡ 12) ⊎ Rose before now

-- ---- a task

-- A task over this text ends by an error, as `TaskMeans` says of this kind of error. Reading the text did not fail. The status is
-- that of the error.
pub record EndsBy (task : Task) (keyset aad drawn text : List ℕ) (status : ℕ) : Type 0 where
  pub rest : List ℕ
  pub old : Outside
  pub new : Outside
  pub e : TinkError
  pub reads : old.left ≡ Some text
  pub sure : Rose old.read_faults new.read_faults → ⊥
  pub means : TaskMeans task keyset aad drawn rest old new (Err e)
  pub status_is : status ≡ refusal_status e.kind

-- A task over this text ends so, or by 26: what it makes of the text is too long.
abbrev pub IsEnded : Task → List ℕ → List ℕ → List ℕ → List ℕ → ℕ → Type 0
IsEnded task keyset aad drawn text status = EndsBy task keyset aad drawn text status ⊎ ((status ≡ 26) × IsTooLong task keyset text)

-- if the source has a known text
abbrev pub EndsOver : Task → List ℕ → List ℕ → List ℕ → Option (List ℕ) → ℕ → Type 0
EndsOver task keyset aad drawn left status = (text : List ℕ) → left ≡ Some text → IsEnded task keyset aad drawn text status

-- there is no memory, something could not be written, or the task ended so
abbrev pub MayEnd : Task → List ℕ → List ℕ → List ℕ → Option (List ℕ) → ℕ → Type 0
MayEnd task keyset aad drawn left status = (status ≡ 10) ⊎ (status ≡ 12) ⊎ EndsOver task keyset aad drawn left status

-- the same of an input by its name
pub record EndsOf (task : Task) (keyset aad drawn : List ℕ) (s : SystemState) (input : Option (List ℕ)) (status : ℕ) : Type 0 where
  pub text : List ℕ
  pub read : content s input ≡ Some text
  pub ends : IsEnded task keyset aad drawn (text_for task text) status

-- nothing has the name of the input, or the task ends so
abbrev pub IsOfTask : Task → List ℕ → List ℕ → List ℕ → SystemState → Option (List ℕ) → ℕ → Type 0
IsOfTask task keyset aad drawn s input status = ((status ≡ 11) × (content s input ≡ None)) ⊎ EndsOf task keyset aad drawn s input status

-- why a task was not done
abbrev pub HasTaskCause : Task → List ℕ → List ℕ → List ℕ → SystemState → Option (List ℕ) → ℕ → ℕ → ℕ → Type 0
HasTaskCause task keyset aad drawn s input before now status =
    (status ≡ 10) ⊎ (status ≡ 12) ⊎ Rose before now ⊎ IsOfTask task keyset aad drawn s input status

-- ---- the words

-- the keyset of the words is not loaded: their file of keys, or their master, gives an error of this status
pub record IsUnkeyed (line : LineRead) (s : SystemState) (name : Option (List ℕ)) (status : ℕ) : Type 0 where
  pub file : List ℕ
  pub given : name ≡ Some file
  pub words : KeyWords
  pub are : IsKeyWords line file words
  pub refused : HasStatusOf (keyset_of s words) status

-- the task ends so: of the input that the words name, under their keyset and data, by the next random bytes
pub record EndsLine (task : Task) (line : LineRead) (s : SystemState) (status : ℕ) : Type 0 where
  pub keyset : List ℕ
  pub keys : IsKeysetOf line s line.keys keyset
  pub cause : IsOfTask task keyset (data_of line.aad) (drawn_by (takes_random task) s) s (named line.first) status

-- the same of a move to the second keyset of the words
pub record MovesLine (line : LineRead) (s : SystemState) (status : ℕ) : Type 0 where
  pub new_keyset : List ℕ
  pub new_keys : IsKeysetOf line s line.to new_keyset
  pub task : Task
  pub is_to : IsMoveTo new_keyset (data_of line.to_aad) task
  pub ends : EndsLine task line s status

-- words that are no command name no file of keys; and standard input is read for one thing alone
abbrev pub IsOfWords : LineRead → ℕ → Type 0
IsOfWords line status = ((status ≡ 2) × (line.keys ≡ None)) ⊎ ((status ≡ 11) × (names_twice line ≡ true))

-- the error of a command with this task, by its words, the files and the random bytes
abbrev pub IsOfMake : Option Task → LineRead → SystemState → ℕ → Type 0
IsOfMake None line s status = status ≡ 2
IsOfMake (Some task) line s status = IsOfWords line status ⊎ IsUnkeyed line s line.keys status ⊎ EndsLine task line s status

-- the error of a move
abbrev pub IsOfMove : LineRead → SystemState → ℕ → Type 0
IsOfMove line s status =
    ((status ≡ 2) × (line.to ≡ None)) ⊎ IsOfWords line status ⊎ IsUnkeyed line s line.keys status ⊎ IsUnkeyed line s line.to status ⊎ MovesLine line s status

-- Why `encrypt`, `decrypt`, `sign` or `verify` ended by a status: there is no memory, something could not be written, a call of
-- the system failed, or the words, the files and the random bytes give this very error.
abbrev pub HasMakeCause : Action → LineRead → SystemState → ℕ → ℕ → ℕ → Type 0
HasMakeCause action line s before now status =
    (status ≡ 10) ⊎ (status ≡ 12) ⊎ Rose before now ⊎ IsOfMake (own_task action) line s status

-- why `rewrap` ended by a status
abbrev pub HasMoveCause : LineRead → SystemState → ℕ → ℕ → ℕ → Type 0
HasMoveCause line s before now status = (status ≡ 10) ⊎ (status ≡ 12) ⊎ Rose before now ⊎ IsOfMove line s status

-- ---- when a command succeeds

-- The keyset of the words loads, and the task can be done with the input and the data that they name. What it makes is not too long.
pub record IsMakeable (action : Action) (line : LineRead) (s : SystemState) : Type 0 where
  pub task : Task
  pub is_of : own_task action ≡ Some task
  pub keyset : List ℕ
  pub keys : IsKeysetOf line s line.keys keyset
  pub text : List ℕ
  pub read : content s (named line.first) ≡ Some text
  pub can : CanMake task keyset (data_of line.aad) (drawn_by (takes_random task) s) (text_for task text)
