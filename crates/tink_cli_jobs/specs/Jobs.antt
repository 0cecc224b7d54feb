-- What the words of a command over a stream or a token say.
use Rattle.std.specs.Prelude.{◌≡◌, ℕ, List, [], Option, Some, None, Ok, option_map}
use Rattle.tink_cli_words.specs.LineRead.{LineRead}
use Rattle.tink_system.specs.States.{SystemState}
use Rattle.tink_cli_jobs.specs.Loading.{keyset_of, named}
use Rattle.tink_cli_jobs.specs.declared.job.Job.{Job}
use Rattle.tink_cli_jobs.specs.declared.keys.KeyWords.{KeyWords}

-- the associated data that a word gives, and else none
abbrev pub data_of : Option (List ℕ) → List ℕ
data_of (Some word) = word
data_of None = []

-- a file of keys, under the master of a line
pub record IsKeyWords (line : LineRead) (keys : List ℕ) (words : KeyWords) : Type 0 where
  pub keys_is : words.keys.now ≡ keys
  pub master : option_map (λ s. s.now) words.master ≡ line.master
  pub master_aad : words.master_aad.now ≡ data_of line.master_aad

abbrev pub AreNewKeys : LineRead → Option (List ℕ) → Option KeyWords → Type 0
AreNewKeys line None None = Unit {0}
AreNewKeys line (Some keys) (Some words) = IsKeyWords line keys words
AreNewKeys line _ _ = ⊥

-- what the words of a command over a stream or a token say
pub record IsJob (line : LineRead) (job : Job) : Type 0 where
  pub file : List ℕ
  pub given : line.keys ≡ Some file
  pub keys : IsKeyWords line file job.keys
  pub aad : job.aad.now ≡ data_of line.aad
  pub new_keys : AreNewKeys line line.to job.new_keys
  pub new_aad : job.new_aad.now ≡ data_of line.to_aad
  pub input : option_map (λ s. s.now) job.input ≡ named line.first
  pub output : option_map (λ s. s.now) job.output ≡ named line.output
  pub quiet : job.is_quiet ≡ line.quiet
  pub forced : job.is_forced ≡ line.force
  pub keeps : job.keeps_output ≡ line.no_clobber

-- the job of a line, and none exactly if it names no file of keys
abbrev pub IsJobOf : LineRead → Option Job → Type 0
IsJobOf line (Some job) = IsJob line job
IsJobOf line None = line.keys ≡ None

-- The keyset of the words: that of their file of keys, under their master.
pub record IsKeysetOf (line : LineRead) (s : SystemState) (name : Option (List ℕ)) (keyset : List ℕ) : Type 0 where
  pub file : List ℕ
  pub given : name ≡ Some file
  pub words : KeyWords
  pub are : IsKeyWords line file words
  pub loaded : keyset_of s words ≡ Ok keyset
