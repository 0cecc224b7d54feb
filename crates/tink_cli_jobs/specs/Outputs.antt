-- Where what a command makes goes.
use Rattle.std.specs.Prelude.{◌≡◌, ℕ, List, [], Bool, true, false, Option, Some, None}
use Rattle.tink_system.specs.States.{SystemState}
use Rattle.tink_system.specs.declared.system.How.{How}
use Rattle.tink_system.specs.declared.system.How.TheVariants.{Fresh, Replace}

-- how an output becomes a file, by whether a file that has its name is to stay
abbrev pub how_by : Bool → How
how_by true = Fresh
how_by false = Replace

-- every file stays
abbrev pub KeepsFiles : SystemState → SystemState → Type 0
KeepsFiles old new = (name : List ℕ) → new.file name ≡ old.file name

-- every file stays that is not this one
abbrev pub KeepsOtherFiles : SystemState → SystemState → List ℕ → Type 0
KeepsOtherFiles old new output = (name : List ℕ) → old.are_one output name ≡ false → new.file name ≡ old.file name

-- if a file that has the name is to stay, no file has it
abbrev pub IsFresh : Bool → SystemState → List ℕ → Type 0
IsFresh true s output = s.file output ≡ None
IsFresh false s output = Unit {0}

-- It is in the file, which is whole, and new if a file was to stay. Every other file stays. Of a pipe or a device nothing is said.
pub record IsInFile (makes : List ℕ → Option (List ℕ) → Type 0) (keeps : Bool) (old new : SystemState) (output : List ℕ) : Type 0 where
  pub made : old.is_stream output ≡ false → makes [] (new.file output)
  pub fresh : old.is_stream output ≡ false → IsFresh keeps old output
  pub others : KeepsOtherFiles old new output

-- It is in the file that the words name, and standard output stays. Without a name it is behind what standard output had, and
-- every file stays.
abbrev pub IsPut : (List ℕ → Option (List ℕ) → Type 0) → Bool → SystemState → SystemState → Option (List ℕ) → Option (List ℕ) → Option (List ℕ) → Type 0
IsPut makes keeps old new (Some output) got got_after = IsInFile makes keeps old new output × (got_after ≡ got)
IsPut makes keeps old new None got got_after = ((before : List ℕ) → got ≡ Some before → makes before got_after) × KeepsFiles old new
