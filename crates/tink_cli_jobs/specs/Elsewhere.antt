-- A keyset that a command is given by other words.
use Rattle.std.specs.Prelude.{◌≡◌, ℕ, List, Option, Some, None, Ok, option_map}
use Rattle.tink_json.specs.ReadAgain.{IsKeyset}
use Rattle.tink_proto.specs.declared.messages.keys.Keyset.{Keyset}
use Rattle.tink_keyset_io.specs.declared.key_files.formats.Format.TheVariants.{Json}
use Rattle.tink_cli_files.specs.Masters.{MasterKeys}
use Rattle.tink_cli_files.specs.Wrapping.{unwrapped_file, unwrapped_keys}
use Rattle.tink_system.specs.States.{SystemState, content}
use Rattle.tink_cli_jobs.specs.Loading.{master_of_file, named, whole_of}
use Rattle.tink_cli_jobs.specs.declared.keys.KeyWords.{KeyWords}

-- two names of files of keys without a master hold the same bytes
pub record HoldTheSame (s : SystemState) (one other : KeyWords) : Type 0 where
  pub plain_one : option_map (λ n. n.now) one.master ≡ None
  pub plain_other : option_map (λ n. n.now) other.master ≡ None
  pub bytes : content s (named (Some one.keys.now)) ≡ content s (named (Some other.keys.now))

-- A master decrypts the first file of keys. The second, without a master, holds the file in JSON that this makes. The URLs of its
-- keys are UTF-8.
pub record IsUnwrappedInto (s : SystemState) (wrapped plain : KeyWords) : Type 0 where
  pub master : List ℕ
  pub under : option_map (λ n. n.now) wrapped.master ≡ Some master
  pub keys : MasterKeys
  pub loaded : master_of_file s master ≡ Ok keys
  pub file : List ℕ
  pub read : whole_of s (named (Some wrapped.keys.now)) ≡ Ok file
  pub keyset : Keyset
  pub decrypted : unwrapped_keys keys file wrapped.master_aad.now ≡ Ok keyset
  pub urls : IsKeyset keyset
  pub unwrapped : List ℕ
  pub made : unwrapped_file keys file wrapped.master_aad.now Json ≡ Ok unwrapped
  pub alone : option_map (λ n. n.now) plain.master ≡ None
  pub holds : whole_of s (named (Some plain.keys.now)) ≡ Ok unwrapped
