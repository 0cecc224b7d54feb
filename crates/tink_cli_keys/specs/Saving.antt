-- What a call made, where it is saved.
use Rattle.std.specs.Prelude.{◌≡◌, ◌++◌, ◌^◌, ℕ, List, true, Option, Some, Result, Ok, Err, length, nat_lt, if◌then◌else◌}
use Rattle.tink_io.specs.declared.error.Kind.{Kind}
use Rattle.tink_io.specs.declared.error.Kind.TheVariants.{KeysetTooLong}
use Rattle.tink_keysets.specs.Encrypted.{chained}
use Rattle.tink_system.specs.States.{SystemState}
use Rattle.tink_cli_jobs.specs.Loading.{named}
use Rattle.tink_cli_jobs.specs.Outputs.{IsPut}

-- what a call made is behind what was there
pub record IsAppended (given : Result (List ℕ) Kind) (before : List ℕ) (after : Option (List ℕ)) : Type 0 where
  pub bytes : List ℕ
  pub made : given ≡ Ok bytes
  pub behind : after ≡ Some (before ++ bytes)

-- the bytes of a file of keys, if no command refuses to read so many
abbrev pub short : List ℕ → Result (List ℕ) Kind
short bytes = if nat_lt (2 ^ 24) (length bytes) then Err KeysetTooLong else Ok bytes

-- the file of keys that a call made, if it can be read again
abbrev pub readable : Result (List ℕ) Kind → Result (List ℕ) Kind
readable given = chained short given

-- what a call made is the whole of a new file, or behind what standard output had if the name is a dash
abbrev pub IsPutNew : Result (List ℕ) Kind → SystemState → SystemState → List ℕ → Option (List ℕ) → Option (List ℕ) → Type 0
IsPutNew given old new output got got_after = IsPut (λ before after. IsAppended given before after) true old new (named (Some output)) got got_after

-- the same of a file of keys, which can be read again
abbrev pub IsSavedNew : Result (List ℕ) Kind → SystemState → SystemState → List ℕ → Option (List ℕ) → Option (List ℕ) → Type 0
IsSavedNew given old new output got got_after = IsPutNew (readable given) old new output got got_after
