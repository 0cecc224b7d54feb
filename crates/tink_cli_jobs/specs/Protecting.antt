-- Files of keys that a command does not write, and what it reads from standard input.
use Rattle.std.specs.Prelude.{◌≡◌, ◌⊎◌, ◌&&◌, ◌||◌, ℕ, List, Bool, Option, Some, None, true, false, codes, option_map}
use Rattle.tink_cli_words.specs.LineRead.{LineRead}
use Rattle.tink_cli_words.specs.Lines.{is}
use Rattle.tink_system.specs.States.{SystemState}
use Rattle.tink_system.specs.Statuses.{trouble_status}
use Rattle.tink_system.specs.declared.trouble.Trouble.{Trouble}
use Rattle.tink_cli_jobs.specs.Loading.{Fails, keyset_of, named}
use Rattle.tink_cli_jobs.specs.declared.job.Job.{Job}

-- the output is not this file
abbrev pub Differ : SystemState → Option (List ℕ) → Option (List ℕ) → Type 0
Differ s None file = Unit {0}
Differ s (Some output) None = Unit {0}
Differ s (Some output) (Some file) = s.are_one output file ≡ false

-- it is neither the master nor the new file of keys
pub record AreOthers (s : SystemState) (output master new_keys : Option (List ℕ)) : Type 0 where
  pub of_master : Differ s output master
  pub of_new_keys : Differ s output new_keys

-- nor the file of keys
pub record AreSpared (s : SystemState) (output keys master new_keys : Option (List ℕ)) : Type 0 where
  pub of_keys : Differ s output keys
  pub others : AreOthers s output master new_keys

-- those of a job
abbrev pub AreSparedOthers : SystemState → Job → Type 0
AreSparedOthers s job = AreOthers s (option_map (λ n. n.now) job.output) (named (option_map (λ n. n.now) job.keys.master)) (named (option_map (λ w. w.keys.now) job.new_keys))

abbrev pub AreSparedBy : SystemState → Job → Type 0
AreSparedBy s job = AreSpared s (option_map (λ n. n.now) job.output) (named (Some job.keys.keys.now)) (named (option_map (λ n. n.now) job.keys.master)) (named (option_map (λ w. w.keys.now) job.new_keys))

-- the output that the words name is none of the files of keys that they name
abbrev pub AreSparedOf : SystemState → LineRead → Type 0
AreSparedOf s line = AreSpared s (named line.output) (named line.keys) (named line.master) (named line.to)

-- whether a name is standard input
abbrev pub is_input : Option (List ℕ) → Bool
is_input None = false
is_input (Some word) = is word (codes "-")

abbrev pub has_none : Option (List ℕ) → Bool
has_none None = true
has_none (Some word) = false

-- whether two of four hold
abbrev pub are_two : Bool → Bool → Bool → Bool → Bool
are_two true true master new_keys = true
are_two true false master new_keys = master || new_keys
are_two false true master new_keys = master || new_keys
are_two false false master new_keys = master && new_keys

abbrev pub has_some : Option (List ℕ) → Bool
has_some None = false
has_some (Some word) = true

-- whether a master is standard input and is read for two files of keys
abbrev pub is_shared : Option (List ℕ) → Option (List ℕ) → Bool
is_shared master new_keys = is_input master && has_some new_keys

-- whether standard input is named for two things: the input, the file of keys, its master and the new file of keys
abbrev pub reads_twice_by : Option (List ℕ) → Option (List ℕ) → Option (List ℕ) → Option (List ℕ) → Bool
reads_twice_by input keys master new_keys = are_two (has_none input) (is_input keys) (is_input master) (is_input new_keys) || is_shared master new_keys

abbrev pub reads_twice : Job → Bool
reads_twice job = reads_twice_by (option_map (λ n. n.now) job.input) (Some job.keys.keys.now) (option_map (λ n. n.now) job.keys.master) (option_map (λ w. w.keys.now) job.new_keys)

-- the same of the words of a command
abbrev pub names_twice : LineRead → Bool
names_twice line = reads_twice_by (named line.first) line.keys line.master line.to

-- why a job that reads standard input for one thing has no keyset: its output is one of its files of keys, or the keyset is not
-- loaded
abbrev pub HasNoKeyset : SystemState → Job → ℕ → ℕ → Trouble → Type 0
HasNoKeyset s job before now t =
    ((trouble_status t ≡ 12) × (s.is_known ≡ true → AreSparedBy s job → ⊥)) ⊎ Fails s before now (keyset_of s job.keys) t

-- why a job has no keyset
abbrev pub IsNotFor : SystemState → Job → ℕ → ℕ → Trouble → Type 0
IsNotFor s job before now t = ((trouble_status t ≡ 11) × (reads_twice job ≡ true)) ⊎ HasNoKeyset s job before now t
