-- What the steps of a seal say.
use Rattle.std.specs.Prelude.{◌≡◌, ℕ, ◌<◌, ◌≤◌, List, length, drop, Result, Ok, Err, None}
use Rattle.tink_io.specs.declared.error.Kind.{Kind}
use Rattle.tink_io.specs.declared.error.Kind.TheVariants.{OutOfMemory, ReadFault, WriteFault, RandomFault, UnknownHash, UnsupportedHash, TooManySegments}
use Rattle.tink_io.specs.declared.error.TinkError.{TinkError}
use Rattle.stream_model.specs.Key.{StreamKey, keys_of}
use Rattle.stream_model.specs.Sealing.{drawn, salt_of, nonce_prefix_of}
use Rattle.tink_run.specs.declared.report.Report.{Report}
use Rattle.tink_io.specs.Outside.{Outside, IsUntouched}
use Rattle.tink_run.specs.SealAnswers.{SealingMeans, WantsMemory}

-- by which kind a seal is refused whose stream was not begun by some kind
abbrev pub kind_not_begun : Kind → Kind
kind_not_begun UnknownHash = UnsupportedHash
kind_not_begun kind = kind

-- salt and prefix were drawn and keys derived, and this is what the stream's sealing says
pub record IsUnderWay (k : StreamKey) (aad draws left_draws : List ℕ) (old new : Outside) (answer : Result Report TinkError) : Type 0 where
  pub enough : drawn k ≤ length draws
  pub rest : left_draws ≡ drop (drawn k) draws
  pub derives : keys_of k aad (salt_of k draws) ≡ None → ⊥
  pub means : SealingMeans k aad (salt_of k draws) (nonce_prefix_of k draws) old new answer

-- too few draws are left
pub record HasFew (k : StreamKey) (draws left_draws : List ℕ) (old new : Outside) : Type 0 where
  pub few : length draws < drawn k
  pub untouched : IsUntouched old new
  pub undrawn : left_draws ≡ draws

-- the key derives nothing
pub record HasNoKeys (k : StreamKey) (aad draws left_draws : List ℕ) (old new : Outside) : Type 0 where
  pub enough : drawn k ≤ length draws
  pub rest : left_draws ≡ drop (drawn k) draws
  pub none : keys_of k aad (salt_of k draws) ≡ None
  pub untouched : IsUntouched old new

abbrev pub SealsUnderRefused : StreamKey → List ℕ → List ℕ → List ℕ → Outside → Outside → TinkError → Kind → Type 0
SealsUnderRefused k aad draws left_draws old new e OutOfMemory = WantsMemory draws left_draws old new
SealsUnderRefused k aad draws left_draws old new e RandomFault = HasFew k draws left_draws old new
SealsUnderRefused k aad draws left_draws old new e UnsupportedHash = HasNoKeys k aad draws left_draws old new
SealsUnderRefused k aad draws left_draws old new e ReadFault = IsUnderWay k aad draws left_draws old new (Err e)
SealsUnderRefused k aad draws left_draws old new e WriteFault = IsUnderWay k aad draws left_draws old new (Err e)
SealsUnderRefused k aad draws left_draws old new e TooManySegments = IsUnderWay k aad draws left_draws old new (Err e)
SealsUnderRefused k aad draws left_draws old new e _ = ⊥

-- what a seal under a key answers
abbrev pub SealsUnder : StreamKey → List ℕ → List ℕ → List ℕ → Outside → Outside → Result Report TinkError → Type 0
SealsUnder k aad draws left_draws old new (Ok report) = IsUnderWay k aad draws left_draws old new (Ok report)
SealsUnder k aad draws left_draws old new (Err e) = SealsUnderRefused k aad draws left_draws old new e e.kind
