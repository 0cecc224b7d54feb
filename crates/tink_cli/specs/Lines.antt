-- What a command over files has done, by its words.
use Rattle.std.specs.Prelude.{◌≡◌, ◌⊎◌, ℕ, List, Bool, true, false, Option, Some, None, Result, Ok, Err}
use Rattle.std.specs.Io.KnownBytes.{Appends}
use Rattle.tink_cli_words.specs.declared.commands.Given.{Given}
use Rattle.tink_cli_words.specs.declared.wrong.Wrong.{Wrong}
use Rattle.tink_cli_words.specs.declared.form.Action.TheVariants as actions
use Rattle.tink_cli_words.specs.declared.form.Action.{Action}
use Rattle.tink_cli_words.specs.Help.{help_of}
use Rattle.tink_cli_words.specs.LineRead.{LineRead}
use Rattle.tink_keygen.specs.TemplateLines.{template_lines}
use Rattle.tink_cli.specs.declared.showing.TheConstants.{VERSION}
use Rattle.tink_io.specs.Faults.{Rose}
use Rattle.tink_io.specs.Written.{AppendsPrefix}
use Rattle.tink_system.specs.States.{SystemState}
use Rattle.tink_cli_jobs.specs.Outputs.{KeepsFiles}
use Rattle.tink_cli_ranges.specs.Informing.{IsInformed, LeavesInfo}
use Rattle.tink_cli_ranges.specs.Leaving.{LeavesRange}
use Rattle.tink_cli_ranges.specs.Ranges.{IsRanged}
use Rattle.tink_cli_ranges.specs.Refusing.{HasInfoCause, HasRangeCause}
use Rattle.tink_cli_streams.specs.Breaking.{IsUnmade}
use Rattle.tink_cli_streams.specs.Causes.{HasMakeCause, HasMoveCause}
use Rattle.tink_cli_streams.specs.Streams.{IsChecked, IsMade, IsMoved}
use Rattle.tink_cli_jobs.specs.Loading.{named}
use Rattle.tink_cli_keys.specs.KeyFiles.{AreListed, IsConverted, IsEdited, IsGrown, IsNew}
use Rattle.tink_cli_keys.specs.Refusing.{HasConvertCause, HasEditCause, HasGrowCause, HasListCause, HasNewCause, HasUnwrapCause, HasWrapCause, LeavesOutAs, converted_by, listed_by, new_by, unwrapped_by, wrapped_by}
use Rattle.tink_cli_keys.specs.Wrapping.{IsUnwrapped, IsWrapped}

-- by each command
abbrev pub IsDone : Action → LineRead → SystemState → SystemState → Option (List ℕ) → Option (List ℕ) → Type 0
IsDone actions.New line old new got got_after = IsNew line old new got got_after
IsDone actions.Add line old new got got_after = IsGrown actions.Add line old new × (got_after ≡ got)
IsDone actions.Rotate line old new got got_after = IsGrown actions.Rotate line old new × (got_after ≡ got)
IsDone actions.Keys line old new got got_after = AreListed line old got got_after × KeepsFiles old new
IsDone actions.Promote line old new got got_after = IsEdited actions.Promote line old new × (got_after ≡ got)
IsDone actions.Enable line old new got got_after = IsEdited actions.Enable line old new × (got_after ≡ got)
IsDone actions.Disable line old new got got_after = IsEdited actions.Disable line old new × (got_after ≡ got)
IsDone actions.Destroy line old new got got_after = IsEdited actions.Destroy line old new × (got_after ≡ got)
IsDone actions.Delete line old new got got_after = IsEdited actions.Delete line old new × (got_after ≡ got)
IsDone actions.Convert line old new got got_after = IsConverted line old new got got_after
IsDone actions.Encrypt line old new got got_after = IsMade actions.Encrypt line old new got got_after
IsDone actions.Decrypt line old new got got_after = IsMade actions.Decrypt line old new got got_after
IsDone actions.Sign line old new got got_after = IsMade actions.Sign line old new got got_after
IsDone actions.Verify line old new got got_after = IsMade actions.Verify line old new got got_after
IsDone actions.Check line old new got got_after = IsChecked line old × KeepsFiles old new × (got_after ≡ got)
IsDone actions.Rewrap line old new got got_after = IsMoved line old new got got_after
IsDone actions.Range line old new got got_after = IsRanged line old new got got_after
IsDone actions.Wrap line old new got got_after = IsWrapped line old new got got_after
IsDone actions.Unwrap line old new got got_after = IsUnwrapped line old new got got_after
IsDone actions.Templates line old new got got_after = Appends got got_after template_lines × KeepsFiles old new
IsDone actions.Help line old new got got_after = Appends got got_after (help_of line.topic) × KeepsFiles old new
IsDone actions.Version line old new got got_after = Appends got got_after VERSION.now × KeepsFiles old new
IsDone actions.Info line old new got got_after = IsInformed line old got got_after × KeepsFiles old new

abbrev pub IsDoneUnless : Bool → Given → SystemState → SystemState → Option (List ℕ) → Option (List ℕ) → Type 0
IsDoneUnless true given old new got got_after = Appends got got_after (help_of (Some given.action)) × KeepsFiles old new
IsDoneUnless false given old new got got_after = IsDone given.action given.line old new got got_after

-- what the words of a line mean was done
abbrev pub IsDoneBy : Given → SystemState → SystemState → Option (List ℕ) → Option (List ℕ) → Type 0
IsDoneBy given old new got got_after = IsDoneUnless given.line.help given old new got got_after

abbrev pub IsDoneLine : Result Given Wrong → SystemState → SystemState → Option (List ℕ) → Option (List ℕ) → Type 0
IsDoneLine (Ok given) old new got got_after = IsDoneBy given old new got got_after
IsDoneLine (Err wrong) old new got got_after = ⊥

-- the words spell no command
abbrev pub IsWrong : Result Given Wrong → Type 0
IsWrong (Ok given) = ⊥
IsWrong (Err wrong) = Unit {0}

-- standard output has failed
abbrev pub IsUnshown : ℕ → ℕ → ℕ → Type 0
IsUnshown out out_after status = (status ≡ 12) × Rose out out_after

-- What is on standard output after an error of a command, by its status. Of `rewrap` nothing is said.
abbrev pub LeavesOutput : Action → LineRead → SystemState → Option (List ℕ) → Option (List ℕ) → ℕ → Type 0
LeavesOutput actions.Add line old got got_after status = got_after ≡ got
LeavesOutput actions.Rotate line old got got_after status = got_after ≡ got
LeavesOutput actions.Promote line old got got_after status = got_after ≡ got
LeavesOutput actions.Enable line old got got_after status = got_after ≡ got
LeavesOutput actions.Disable line old got got_after status = got_after ≡ got
LeavesOutput actions.Destroy line old got got_after status = got_after ≡ got
LeavesOutput actions.Delete line old got got_after status = got_after ≡ got
LeavesOutput actions.Check line old got got_after status = got_after ≡ got
LeavesOutput actions.New line old got got_after status = LeavesOutAs (new_by line old) (named line.output) got got_after
LeavesOutput actions.Convert line old got got_after status = LeavesOutAs (converted_by line old) (named line.output) got got_after
LeavesOutput actions.Wrap line old got got_after status = LeavesOutAs (wrapped_by line old) (named line.output) got got_after
LeavesOutput actions.Unwrap line old got got_after status = LeavesOutAs (unwrapped_by line old) (named line.output) got got_after
LeavesOutput actions.Keys line old got got_after status = LeavesOutAs (listed_by line old) None got got_after
LeavesOutput actions.Templates line old got got_after status = AppendsPrefix got got_after template_lines
LeavesOutput actions.Help line old got got_after status = AppendsPrefix got got_after (help_of line.topic)
LeavesOutput actions.Version line old got got_after status = AppendsPrefix got got_after VERSION.now
LeavesOutput actions.Encrypt line old got got_after status = IsUnmade actions.Encrypt line old got got_after status
LeavesOutput actions.Decrypt line old got got_after status = IsUnmade actions.Decrypt line old got got_after status
LeavesOutput actions.Sign line old got got_after status = IsUnmade actions.Sign line old got got_after status
LeavesOutput actions.Verify line old got got_after status = IsUnmade actions.Verify line old got got_after status
LeavesOutput actions.Range line old got got_after status = LeavesRange line old got got_after status
LeavesOutput actions.Info line old got got_after status = LeavesInfo line old got got_after status
LeavesOutput _ line old got got_after status = Unit {0}

abbrev pub LeavesOutputUnless : Bool → Given → SystemState → Option (List ℕ) → Option (List ℕ) → ℕ → Type 0
LeavesOutputUnless true given old got got_after status = AppendsPrefix got got_after (help_of (Some given.action))
LeavesOutputUnless false given old got got_after status = LeavesOutput given.action given.line old got got_after status

abbrev pub LeavesOutputBy : Given → SystemState → Option (List ℕ) → Option (List ℕ) → ℕ → Type 0
LeavesOutputBy given old got got_after status = LeavesOutputUnless given.line.help given old got got_after status

-- Why a command ended by an error, by its status, the counts of faults of the system before and after, and those of standard
-- output. Of `check` nothing is said.
abbrev pub HasCause : Action → LineRead → SystemState → ℕ → ℕ → ℕ → ℕ → ℕ → Type 0
HasCause actions.New line old before now out out_after status = HasNewCause line old before now out out_after status
HasCause actions.Keys line old before now out out_after status = HasListCause line old before now out out_after status
HasCause actions.Add line old before now out out_after status = HasGrowCause actions.Add line old before now status
HasCause actions.Rotate line old before now out out_after status = HasGrowCause actions.Rotate line old before now status
HasCause actions.Promote line old before now out out_after status = HasEditCause actions.Promote line old before now status
HasCause actions.Enable line old before now out out_after status = HasEditCause actions.Enable line old before now status
HasCause actions.Disable line old before now out out_after status = HasEditCause actions.Disable line old before now status
HasCause actions.Destroy line old before now out out_after status = HasEditCause actions.Destroy line old before now status
HasCause actions.Delete line old before now out out_after status = HasEditCause actions.Delete line old before now status
HasCause actions.Convert line old before now out out_after status = HasConvertCause line old before now out out_after status
HasCause actions.Encrypt line old before now out out_after status = HasMakeCause actions.Encrypt line old before now status
HasCause actions.Decrypt line old before now out out_after status = HasMakeCause actions.Decrypt line old before now status
HasCause actions.Sign line old before now out out_after status = HasMakeCause actions.Sign line old before now status
HasCause actions.Verify line old before now out out_after status = HasMakeCause actions.Verify line old before now status
HasCause actions.Rewrap line old before now out out_after status = HasMoveCause line old before now status
HasCause actions.Range line old before now out out_after status = HasRangeCause line old before now out out_after status
HasCause actions.Info line old before now out out_after status = HasInfoCause line old before now out out_after status
HasCause actions.Wrap line old before now out out_after status = HasWrapCause line old before now out out_after status
HasCause actions.Unwrap line old before now out out_after status = HasUnwrapCause line old before now out out_after status
HasCause actions.Templates line old before now out out_after status = (status ≡ 10) ⊎ IsUnshown out out_after status
HasCause actions.Help line old before now out out_after status = IsUnshown out out_after status
HasCause actions.Version line old before now out out_after status = IsUnshown out out_after status
HasCause _ line old before now out out_after status = Unit {0}

abbrev pub HasCauseUnless : Bool → Given → SystemState → ℕ → ℕ → ℕ → ℕ → ℕ → Type 0
HasCauseUnless true given old before now out out_after status = IsUnshown out out_after status
HasCauseUnless false given old before now out out_after status = HasCause given.action given.line old before now out out_after status

abbrev pub HasCauseBy : Given → SystemState → ℕ → ℕ → ℕ → ℕ → ℕ → Type 0
HasCauseBy given old before now out out_after status = HasCauseUnless given.line.help given old before now out out_after status

-- What an error of a line leaves, and its cause. It has a status of its own, in place of which 1 comes if it is 0.
pub record LeavesAt (given : Given) (old : SystemState) (before now out out_after : ℕ) (got got_after : Option (List ℕ)) (result : ℕ) : Type 0 where
  pub status : ℕ
  pub is : (status ≡ 0 → ⊥) → result ≡ status
  pub leaves : LeavesOutputBy given old got got_after status
  pub cause : HasCauseBy given old before now out out_after status

abbrev pub LeavesLine : Result Given Wrong → SystemState → ℕ → ℕ → ℕ → ℕ → Option (List ℕ) → Option (List ℕ) → ℕ → Type 0
LeavesLine (Ok given) old before now out out_after got got_after result = LeavesAt given old before now out out_after got got_after result
LeavesLine (Err wrong) old before now out out_after got got_after result = got_after ≡ got
