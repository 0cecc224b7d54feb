-- Why a command on files of keys ended by an error, and what it leaves on standard output.
use Rattle.std.specs.Prelude.{◌≡◌, ◌⊎◌, ◌&&◌, ℕ, List, Option, Some, None, Result, Ok, option_map, take, true}
use Rattle.tink_cli_words.specs.LineRead.{LineRead}
use Rattle.tink_cli_words.specs.declared.form.Action.{Action}
use Rattle.tink_io.specs.Faults.{Rose}
use Rattle.tink_io.specs.Written.{AppendsPrefix}
use Rattle.tink_io.specs.declared.error.Kind.{Kind}
use Rattle.tink_keysets.specs.Encrypted.{chained}
use Rattle.tink_keyset_io.specs.Edited.{edited_file}
use Rattle.tink_cli_files.specs.Masters.{MasterKeys}
use Rattle.tink_cli_files.specs.Saved.{converted_file, new_file}
use Rattle.tink_cli_files.specs.Wrapping.{unwrapped_file, wrapped_file}
use Rattle.tink_cli_jobs.specs.Jobs.{data_of}
use Rattle.tink_cli_jobs.specs.Loading.{HasStatusOf, master_of_file, named, whole_of}
use Rattle.tink_cli_jobs.specs.Protecting.{Differ, is_input}
use Rattle.tink_system.specs.States.{HindersDraft, IsAbsent, SystemState}
use Rattle.tink_system.specs.declared.system.How.TheVariants.{Fresh}
use Rattle.tink_cli_keys.specs.KeyFiles.{format_named, grown_file, listed_file, own_edit, own_growth, prefix_named}
use Rattle.tink_cli_keys.specs.Saving.{readable}

-- There is no memory, nothing can be written for this cause, a call of the system failed, or the status is that of the given error.
abbrev pub IsCaused : ℕ → ℕ → Type 0 → Result (List ℕ) Kind → ℕ → Type 0
IsCaused before now unwritten given status = (status ≡ 10) ⊎ ((status ≡ 12) × unwritten) ⊎ Rose before now ⊎ HasStatusOf given status

-- the same of what the words ask for; words that ask for nothing are no command
abbrev pub IsRefusedAs : ℕ → ℕ → Type 0 → Option (Result (List ℕ) Kind) → ℕ → Type 0
IsRefusedAs before now unwritten None status = status ≡ 2
IsRefusedAs before now unwritten (Some given) status = IsCaused before now unwritten given status

-- why no new file of this name is made: a file has it; without a name, standard output has failed
abbrev pub IsHindered : SystemState → Option (List ℕ) → ℕ → ℕ → Type 0
IsHindered s (Some name) out out_after = HindersDraft s name Fresh
IsHindered s None out out_after = Rose out out_after

-- there is no file of this name that could be changed
abbrev pub IsMissing : SystemState → Option (List ℕ) → Type 0
IsMissing s None = ⊥
IsMissing s (Some path) = IsAbsent s (Some path)

-- what two words ask for, if both are there
abbrev pub of_two : {A B C : Type 0} → (A → B → C) → Option A → Option B → Option C
of_two f (Some a) (Some b) = Some (f a b)
of_two f _ _ = None

-- what is made of a file that may not be read, as a file of keys
abbrev pub made_of_file : (List ℕ → Result (List ℕ) Kind) → SystemState → Option (List ℕ) → Result (List ℕ) Kind
made_of_file makes s name = chained (λ file. readable (makes file)) (whole_of s name)

-- the file that each command makes by its words
abbrev pub new_by : LineRead → SystemState → Option (Result (List ℕ) Kind)
new_by line s =
    of_two (λ template output. readable (new_file template (prefix_named line.prefix) (format_named line.format) (take 1024 s.random))) line.first line.output

abbrev pub grown_by : Action → LineRead → SystemState → Option (Result (List ℕ) Kind)
grown_by action line s =
    of_two (λ path template. made_of_file (λ file. grown_file (own_growth action line.any) template (take 1024 s.random) file) s (Some path)) line.first line.second

abbrev pub edited_by : Action → LineRead → SystemState → Option (Result (List ℕ) Kind)
edited_by action line s =
    of_two (λ path makes. made_of_file makes s (Some path)) line.first (of_two (λ id edit file. edited_file file edit id) line.id (own_edit action))

abbrev pub converted_by : LineRead → SystemState → Option (Result (List ℕ) Kind)
converted_by line s = of_two (λ path output. made_of_file (λ file. converted_file file (format_named line.format)) s (named (Some path))) line.first line.output

-- the keys that are listed
abbrev pub listed_by : LineRead → SystemState → Option (Result (List ℕ) Kind)
listed_by line s = option_map (λ path. chained (λ file. listed_file line.json file) (whole_of s (named (Some path)))) line.first

-- ---- under a master

-- what is made of a file, under the master of another one
abbrev pub made_under : (MasterKeys → List ℕ → Result (List ℕ) Kind) → SystemState → List ℕ → List ℕ → Result (List ℕ) Kind
made_under makes s master input = chained (λ m. made_of_file (makes m) s (named (Some input))) (master_of_file s master)

-- the second, if the first is there too
abbrev pub if_both : {A B : Type 0} → Option A → Option B → Option B
if_both first second = of_two (λ a b. b) first second

abbrev pub wrapped_by : LineRead → SystemState → Option (Result (List ℕ) Kind)
wrapped_by line s =
    of_two (λ master input. made_under (λ m keys. wrapped_file m keys (data_of line.aad) (format_named line.format) (take 1024 s.random)) s master input) line.keys
    (if_both line.output line.first)

abbrev pub unwrapped_by : LineRead → SystemState → Option (Result (List ℕ) Kind)
unwrapped_by line s =
    of_two (λ master input. made_under (λ m file. unwrapped_file m file (data_of line.aad) (format_named line.format)) s master input) line.keys (if_both line.output line.first)

-- the output that the words name is neither their master nor the file that is read
pub record AreSparedNames (s : SystemState) (line : LineRead) : Type 0 where
  pub of_master : Differ s (named line.output) (named line.keys)
  pub of_input : Differ s (named line.output) (named line.first)

-- The words name standard input for two things, or their output is a file that is read. Nothing is read then.
abbrev pub IsBarred : LineRead → SystemState → ℕ → Type 0
IsBarred line s status = ((status ≡ 11) × ((is_input line.keys && is_input line.first) ≡ true)) ⊎ ((status ≡ 12) × (AreSparedNames s line → ⊥))

-- why a command under a master is refused
abbrev pub IsRefusedUnder : LineRead → SystemState → ℕ → ℕ → Type 0 → Option (Result (List ℕ) Kind) → ℕ → Type 0
IsRefusedUnder line s before now unwritten None status = status ≡ 2
IsRefusedUnder line s before now unwritten (Some given) status = IsBarred line s status ⊎ IsCaused before now unwritten given status

-- ---- the causes by the words, the counts of faults of the system before and after, and those of standard output

abbrev pub HasNewCause : LineRead → SystemState → ℕ → ℕ → ℕ → ℕ → ℕ → Type 0
HasNewCause line s before now out out_after status = IsRefusedAs before now (IsHindered s (named line.output) out out_after) (new_by line s) status

abbrev pub HasConvertCause : LineRead → SystemState → ℕ → ℕ → ℕ → ℕ → ℕ → Type 0
HasConvertCause line s before now out out_after status = IsRefusedAs before now (IsHindered s (named line.output) out out_after) (converted_by line s) status

abbrev pub HasListCause : LineRead → SystemState → ℕ → ℕ → ℕ → ℕ → ℕ → Type 0
HasListCause line s before now out out_after status = IsRefusedAs before now (Rose out out_after) (listed_by line s) status

abbrev pub HasGrowCause : Action → LineRead → SystemState → ℕ → ℕ → ℕ → Type 0
HasGrowCause action line s before now status = IsRefusedAs before now (IsMissing s line.first) (grown_by action line s) status

abbrev pub HasEditCause : Action → LineRead → SystemState → ℕ → ℕ → ℕ → Type 0
HasEditCause action line s before now status = IsRefusedAs before now (IsMissing s line.first) (edited_by action line s) status

abbrev pub HasWrapCause : LineRead → SystemState → ℕ → ℕ → ℕ → ℕ → ℕ → Type 0
HasWrapCause line s before now out out_after status =
    IsRefusedUnder line s before now (IsHindered s (named line.output) out out_after) (wrapped_by line s) status

abbrev pub HasUnwrapCause : LineRead → SystemState → ℕ → ℕ → ℕ → ℕ → ℕ → Type 0
HasUnwrapCause line s before now out out_after status =
    IsRefusedUnder line s before now (IsHindered s (named line.output) out out_after) (unwrapped_by line s) status

-- ---- what an error leaves

-- what was made for standard output is there in part
pub record IsCut (given : Result (List ℕ) Kind) (got got_after : Option (List ℕ)) : Type 0 where
  pub bytes : List ℕ
  pub made : given ≡ Ok bytes
  pub part : AppendsPrefix got got_after bytes

-- Standard output after an error: it stays, but a part of what was made may be there if it was to go there.
abbrev pub LeavesOut : Result (List ℕ) Kind → Option (List ℕ) → Option (List ℕ) → Option (List ℕ) → Type 0
LeavesOut given (Some output) got got_after = got_after ≡ got
LeavesOut given None got got_after = (got_after ≡ got) ⊎ IsCut given got got_after

-- the same of what the words ask for
abbrev pub LeavesOutAs : Option (Result (List ℕ) Kind) → Option (List ℕ) → Option (List ℕ) → Option (List ℕ) → Type 0
LeavesOutAs None output got got_after = got_after ≡ got
LeavesOutAs (Some given) output got got_after = LeavesOut given output got got_after
