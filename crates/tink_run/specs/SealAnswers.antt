-- What a seal says by each of its answers.
use Rattle.std.specs.Prelude.{◌≡◌, ◌⊎◌, ℕ, ◌<◌, ◌≤◌, ◌^◌, List, length, drop, Result, Ok, Err, None}
use Rattle.std.specs.Io.KnownBytes.{Appends, Consumes, IsAtEnd}
use Rattle.tink_io.specs.Faults.{Rose}
use Rattle.tink_io.specs.Written.{AppendsPrefix}
use Rattle.tink_io.specs.declared.error.Kind.{Kind}
use Rattle.tink_io.specs.declared.error.Kind.TheVariants.{OutOfMemory, ReadFault, WriteFault, RandomFault, BadKeyset, InvalidKeyset, UnsupportedKeyType, InvalidKey, NoPrimary, WrongPrimitive, UnsupportedHash, TooManySegments}
use Rattle.tink_io.specs.declared.error.TinkError.{TinkError}
use Rattle.stream_model.specs.Key.{StreamKey, keys_of}
use Rattle.stream_model.specs.Sealing.{stream, part, longest_part, chunk_count, drawn, salt_of, nonce_prefix_of}
use Rattle.loading_model.specs.Loading.{Loaded}
use Rattle.tink_run.specs.AllKeys.{load}
use Rattle.tink_run.specs.declared.report.Report.{Report}
use Rattle.tink_io.specs.Outside.{Outside, IsUntouched}

-- the stream of the whole text was written
pub record IsSealedWhole (k : StreamKey) (aad salt prefix : List ℕ) (old new : Outside) (report : Report) : Type 0 where
  pub text : List ℕ
  pub read : Consumes old.left new.left text
  pub at_end : IsAtEnd new.left
  pub few : chunk_count k text ≤ 2 ^ 32
  pub written : Appends old.got new.got (stream k aad salt prefix text)
  pub segments : report.segments ≡ chunk_count k text
  pub bytes : report.bytes ≡ length text

-- the text has more than 2^32 chunks: the front and all segments that are surely not the last were written
pub record IsTooLong (k : StreamKey) (aad salt prefix : List ℕ) (old new : Outside) : Type 0 where
  pub text : List ℕ
  pub read : Consumes old.left new.left text
  pub many : 2 ^ 32 < chunk_count k text
  pub written : Appends old.got new.got (longest_part k aad salt prefix text)

-- the source failed: the front and the unmarked segments of what was read were written
pub record SourceFailed (k : StreamKey) (aad salt prefix : List ℕ) (old new : Outside) : Type 0 where
  pub text : List ℕ
  pub read : Consumes old.left new.left text
  pub written : Appends old.got new.got (part k aad salt prefix text)
  pub rose : Rose old.read_faults new.read_faults

-- the sink failed: a prefix of these was written or, where the source was at its end, of the whole stream
pub record SinkFailed (k : StreamKey) (aad salt prefix : List ℕ) (old new : Outside) : Type 0 where
  pub text : List ℕ
  pub read : Consumes old.left new.left text
  pub written : AppendsPrefix old.got new.got (part k aad salt prefix text) ⊎ (IsAtEnd new.left × AppendsPrefix old.got new.got (stream k aad salt prefix text))
  pub rose : Rose old.write_faults new.write_faults

-- what the stream's sealing answers, once salt and prefix are drawn and keys derived
abbrev pub SealingRefused : StreamKey → List ℕ → List ℕ → List ℕ → Outside → Outside → Kind → Type 0
SealingRefused k aad salt prefix old new ReadFault = SourceFailed k aad salt prefix old new
SealingRefused k aad salt prefix old new WriteFault = SinkFailed k aad salt prefix old new
SealingRefused k aad salt prefix old new TooManySegments = IsTooLong k aad salt prefix old new
SealingRefused k aad salt prefix old new _ = ⊥

abbrev pub SealingMeans : StreamKey → List ℕ → List ℕ → List ℕ → Outside → Outside → Result Report TinkError → Type 0
SealingMeans k aad salt prefix old new (Ok report) = IsSealedWhole k aad salt prefix old new report
SealingMeans k aad salt prefix old new (Err e) = SealingRefused k aad salt prefix old new e.kind

-- keys were loaded, the primary's salt and prefix were drawn, and this is what its stream's sealing says
pub record SealsLoaded (keyset aad draws left_draws : List ℕ) (old new : Outside) (answer : Result Report TinkError) : Type 0 where
  pub loaded : Loaded
  pub loads : load keyset ≡ Ok loaded
  pub enough : drawn loaded.primary ≤ length draws
  pub rest : left_draws ≡ drop (drawn loaded.primary) draws
  pub derives : keys_of loaded.primary aad (salt_of loaded.primary draws) ≡ None → ⊥
  pub means : SealingMeans loaded.primary aad (salt_of loaded.primary draws) (nonce_prefix_of loaded.primary draws) old new answer

-- the keyset was refused: nothing was read, written or drawn
pub record IsRefused (keyset : List ℕ) (kind : Kind) (draws left_draws : List ℕ) (old new : Outside) : Type 0 where
  pub cause : load keyset ≡ Err kind
  pub untouched : IsUntouched old new
  pub undrawn : left_draws ≡ draws

-- too few draws are left for the primary's salt and prefix, and none were taken
pub record PrimaryHasFewDraws (keyset draws left_draws : List ℕ) (old new : Outside) : Type 0 where
  pub loaded : Loaded
  pub loads : load keyset ≡ Ok loaded
  pub few : length draws < drawn loaded.primary
  pub untouched : IsUntouched old new
  pub undrawn : left_draws ≡ draws

-- the primary's hash derives no keys; the draws were taken
pub record PrimaryDerivesNothing (keyset aad draws left_draws : List ℕ) (old new : Outside) : Type 0 where
  pub loaded : Loaded
  pub loads : load keyset ≡ Ok loaded
  pub enough : drawn loaded.primary ≤ length draws
  pub rest : left_draws ≡ drop (drawn loaded.primary) draws
  pub none : keys_of loaded.primary aad (salt_of loaded.primary draws) ≡ None
  pub untouched : IsUntouched old new

-- `OutOfMemory` comes before anything was read, written or drawn
pub record WantsMemory (draws left_draws : List ℕ) (old new : Outside) : Type 0 where
  pub untouched : IsUntouched old new
  pub undrawn : left_draws ≡ draws

-- each refusal has its cause, and says what stands after it. No other refusal is given.
abbrev pub SealRefused : List ℕ → List ℕ → List ℕ → List ℕ → Outside → Outside → TinkError → Kind → Type 0
SealRefused keyset aad draws left_draws old new e OutOfMemory = WantsMemory draws left_draws old new
SealRefused keyset aad draws left_draws old new e BadKeyset = IsRefused keyset BadKeyset draws left_draws old new
SealRefused keyset aad draws left_draws old new e InvalidKeyset = IsRefused keyset InvalidKeyset draws left_draws old new
SealRefused keyset aad draws left_draws old new e UnsupportedKeyType = IsRefused keyset UnsupportedKeyType draws left_draws old new
SealRefused keyset aad draws left_draws old new e InvalidKey = IsRefused keyset InvalidKey draws left_draws old new
SealRefused keyset aad draws left_draws old new e NoPrimary = IsRefused keyset NoPrimary draws left_draws old new
SealRefused keyset aad draws left_draws old new e WrongPrimitive = IsRefused keyset WrongPrimitive draws left_draws old new
SealRefused keyset aad draws left_draws old new e RandomFault = PrimaryHasFewDraws keyset draws left_draws old new
SealRefused keyset aad draws left_draws old new e UnsupportedHash = PrimaryDerivesNothing keyset aad draws left_draws old new
SealRefused keyset aad draws left_draws old new e ReadFault = SealsLoaded keyset aad draws left_draws old new (Err e)
SealRefused keyset aad draws left_draws old new e WriteFault = SealsLoaded keyset aad draws left_draws old new (Err e)
SealRefused keyset aad draws left_draws old new e TooManySegments = SealsLoaded keyset aad draws left_draws old new (Err e)
SealRefused keyset aad draws left_draws old new e _ = ⊥

abbrev pub SealMeans : List ℕ → List ℕ → List ℕ → List ℕ → Outside → Outside → Result Report TinkError → Type 0
SealMeans keyset aad draws left_draws old new (Ok report) = SealsLoaded keyset aad draws left_draws old new (Ok report)
SealMeans keyset aad draws left_draws old new (Err e) = SealRefused keyset aad draws left_draws old new e e.kind
