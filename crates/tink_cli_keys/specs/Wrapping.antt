-- What the commands that keep a file of keys under a master have done.
use Rattle.std.specs.Prelude.{◌≡◌, ◌⊎◌, ◌&&◌, ℕ, List, Bool, true, false, Option, Some, None, Result, Ok, take, drop}
use Rattle.tink_cli_words.specs.LineRead.{LineRead}
use Rattle.tink_io.specs.declared.error.Kind.{Kind}
use Rattle.tink_keysets.specs.Encrypted.{chained}
use Rattle.tink_cli_files.specs.Masters.{MasterKeys}
use Rattle.tink_cli_files.specs.Wrapping.{unwrapped_file, wrapped_file}
use Rattle.tink_cli_jobs.specs.Jobs.{data_of}
use Rattle.tink_cli_jobs.specs.Loading.{master_of_file, named, whole_of}
use Rattle.tink_cli_jobs.specs.Protecting.{Differ, is_input}
use Rattle.tink_system.specs.States.{SystemState}
use Rattle.tink_cli_keys.specs.KeyFiles.{format_named}
use Rattle.tink_cli_keys.specs.Refusing.{IsCaused, IsHindered}
use Rattle.tink_cli_keys.specs.Saving.{IsSavedNew}
use Rattle.tink_cli_keys.specs.declared.wrapping.Words.{Words}

-- what the words of a command that keeps a file of keys under others say
pub record AreWords (line : LineRead) (words : Words) : Type 0 where
  pub master : Some words.master.now ≡ line.keys
  pub input : Some words.input.now ≡ line.first
  pub output : Some words.output.now ≡ line.output
  pub aad : words.aad.now ≡ data_of line.aad
  pub format : words.format ≡ format_named line.format

-- the words of a line, and none if it lacks the master, the output or the file
abbrev pub AreWordsOf : LineRead → Option Words → Type 0
AreWordsOf line (Some words) = AreWords line words
AreWordsOf line None = (line.keys ≡ None) ⊎ (line.output ≡ None) ⊎ (line.first ≡ None)

-- the output is neither the master nor the file that is read
pub record AreSparedWords (s : SystemState) (words : Words) : Type 0 where
  pub of_master : Differ s (named (Some words.output.now)) (named (Some words.master.now))
  pub of_input : Differ s (named (Some words.output.now)) (named (Some words.input.now))

-- whether the master and the file that is read are both standard input
abbrev pub read_twice : Words → Bool
read_twice words = is_input (Some words.master.now) && is_input (Some words.input.now)

-- the words name standard input for two things, or their output is a file that is read
abbrev pub IsBarredBy : SystemState → Words → ℕ → Type 0
IsBarredBy s words status = ((status ≡ 11) × (read_twice words ≡ true)) ⊎ ((status ≡ 12) × (AreSparedWords s words → ⊥))

-- what is made of a file that is read, by a master
abbrev pub wrap_made : MasterKeys → Words → SystemState → List ℕ → Result (List ℕ) Kind
wrap_made m words s keys = wrapped_file m keys words.aad.now words.format (take 1024 s.random)

abbrev pub unwrap_made : MasterKeys → Words → List ℕ → Result (List ℕ) Kind
unwrap_made m words file = unwrapped_file m file words.aad.now words.format

-- why what a call made of it is not in the output
abbrev pub IsUnputBy : Words → SystemState → ℕ → ℕ → ℕ → ℕ → Result (List ℕ) Kind → ℕ → Type 0
IsUnputBy words s before now out out_after given status =
    IsCaused before now (IsHindered s (named (Some words.output.now)) out out_after) given status

-- the wrapped file of a file of keys that may not be read
abbrev pub wrapped_of : MasterKeys → Words → List ℕ → Result (List ℕ) Kind → Result (List ℕ) Kind
wrapped_of m words drawn file = chained (λ keys. wrapped_file m keys words.aad.now words.format drawn) file

-- a file of keys was wrapped by a master and the next random bytes
pub record IsWrappedKeys (m : MasterKeys) (keys : List ℕ) (words : Words) (old new : SystemState) (got got_after : Option (List ℕ)) : Type 0 where
  pub put : IsSavedNew (wrapped_file m keys words.aad.now words.format (take 1024 old.random)) old new words.output.now got got_after
  pub random : new.random ≡ drop 1024 old.random

pub record IsWrappedBy (m : MasterKeys) (words : Words) (old new : SystemState) (got got_after : Option (List ℕ)) : Type 0 where
  pub put : IsSavedNew (wrapped_of m words (take 1024 old.random) (whole_of old (named (Some words.input.now)))) old new words.output.now got got_after
  pub random : new.random ≡ drop 1024 old.random

-- the file of keys that the words name was wrapped by their master
pub record IsWrapped (line : LineRead) (old new : SystemState) (got got_after : Option (List ℕ)) : Type 0 where
  pub words : Words
  pub are : AreWords line words
  pub m : MasterKeys
  pub loaded : master_of_file old words.master.now ≡ Ok m
  pub spared : AreSparedWords old words
  pub once : read_twice words ≡ false
  pub wrapped : IsWrappedBy m words old new got got_after

-- a wrapped file was unwrapped by a master
abbrev pub IsUnwrappedBy : MasterKeys → Words → SystemState → SystemState → Option (List ℕ) → Option (List ℕ) → Type 0
IsUnwrappedBy m words old new got got_after =
    IsSavedNew (chained (λ file. unwrapped_file m file words.aad.now words.format) (whole_of old (named (Some words.input.now)))) old new
    words.output.now got got_after

pub record IsUnwrapped (line : LineRead) (old new : SystemState) (got got_after : Option (List ℕ)) : Type 0 where
  pub words : Words
  pub are : AreWords line words
  pub m : MasterKeys
  pub loaded : master_of_file old words.master.now ≡ Ok m
  pub spared : AreSparedWords old words
  pub once : read_twice words ≡ false
  pub unwrapped : IsUnwrappedBy m words old new got got_after
