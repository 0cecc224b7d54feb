-- What `run` says, by its command, and the promises that follow from it.
use Rattle.std.specs.Prelude.{◌≡◌, ℕ, ◌≤◌, ◌^◌, List, [], ◌++◌, length, drop, Some, None, Result, Ok, Err}
use Rattle.std.specs.Io.KnownBytes.{Keeps}
use Rattle.tink_io.specs.Written.{AppendsPrefix}
use Rattle.tink_io.specs.declared.error.Kind.{Kind}
use Rattle.tink_io.specs.declared.error.Kind.TheVariants.{OutOfMemory, RandomFault, BadKeyset, InvalidKeyset, UnsupportedKeyType, InvalidKey, NoPrimary, WrongPrimitive, UnsupportedHash, NoMatchingKey}
use Rattle.tink_io.specs.declared.error.TinkError.{TinkError}
use Rattle.stream_model.specs.Agree.{joined}
use Rattle.stream_model.specs.Key.{keys_of}
use Rattle.stream_model.specs.Opening.{OpeningKey, IsAgreed, IsChosen, IsStream}
use Rattle.stream_model.specs.Sealing.{stream, chunk_count, drawn, salt_of, nonce_prefix_of}
use Rattle.loading_model.specs.Loading.{Loaded, opening_keys}
use Rattle.tink_run.specs.AllKeys.{load}
use Rattle.tink_run.specs.declared.report.Command.{Command}
use Rattle.tink_run.specs.declared.report.Command.TheVariants.{Seal, Open}
use Rattle.tink_run.specs.declared.report.Report.{Report}
use Rattle.tink_io.specs.Outside.{Outside, HasNoFault, AreKnown}
use Rattle.tink_run.specs.SealAnswers.{SealMeans}
use Rattle.tink_run.specs.OpenAnswers.{OpenMeans}

-- the table of answers: each with its cause, and what stands after it
abbrev pub AnswerMeans : Command → List ℕ → List ℕ → List ℕ → List ℕ → Outside → Outside → Result Report TinkError → Type 0
AnswerMeans Seal keyset aad draws left_draws old new answer = SealMeans keyset aad draws left_draws old new answer
AnswerMeans Open keyset aad draws left_draws old new answer = OpenMeans keyset aad draws left_draws old new answer × (left_draws ≡ draws)

-- kinds by which a command is refused before it reads or writes
abbrev pub IsEarly : Kind → Type 0
IsEarly OutOfMemory = Unit {0}
IsEarly BadKeyset = Unit {0}
IsEarly InvalidKeyset = Unit {0}
IsEarly UnsupportedKeyType = Unit {0}
IsEarly InvalidKey = Unit {0}
IsEarly NoPrimary = Unit {0}
IsEarly WrongPrimitive = Unit {0}
IsEarly RandomFault = Unit {0}
IsEarly UnsupportedHash = Unit {0}
IsEarly _ = ⊥

-- a refusal by such a kind leaves both ends exactly as they were
abbrev pub LeavesEnds : {S K : Type 0} → Result Report TinkError → S → S → K → K → Type 0
LeavesEnds (Ok report) source source_after sink sink_after = Unit {0}
LeavesEnds (Err e) source source_after sink sink_after = IsEarly e.kind → (source_after ≡ source) × (sink_after ≡ sink)

-- kinds by which a command is refused before it writes
abbrev pub WritesNothing : Kind → Type 0
WritesNothing NoMatchingKey = Unit {0}
WritesNothing kind = IsEarly kind

-- a refusal by such a kind leaves the sink exactly as it was, whatever the sink tells
abbrev pub LeavesSinkItself : {K : Type 0} → Result Report TinkError → K → K → Type 0
LeavesSinkItself (Ok report) sink sink_after = Unit {0}
LeavesSinkItself (Err e) sink sink_after = WritesNothing e.kind → sink_after ≡ sink

-- exactly the stream of the whole text under the primary key and the first draws was written, and nothing is left
pub record IsWholeStream (keyset aad draws left_draws T G : List ℕ) (new : Outside) (report : Report) : Type 0 where
  pub loaded : Loaded
  pub loads : load keyset ≡ Ok loaded
  pub written : new.got ≡ Some (G ++ stream loaded.primary aad (salt_of loaded.primary draws) (nonce_prefix_of loaded.primary draws) T)
  pub at_end : new.left ≡ Some []
  pub rest : left_draws ≡ drop (drawn loaded.primary) draws
  pub segments : report.segments ≡ chunk_count loaded.primary T
  pub bytes : report.bytes ≡ length T

-- the source was exactly a stream of the chosen key, its text was written, and nothing is left
pub record IsWholeText (keyset aad S G : List ℕ) (new : Outside) (report : Report) : Type 0 where
  pub loaded : Loaded
  pub loads : load keyset ≡ Ok loaded
  pub key : OpeningKey
  pub chosen : IsChosen (opening_keys aad loaded) S (Some key)
  pub texts : List (List ℕ)
  pub stream : IsStream key S texts
  pub written : new.got ≡ Some (G ++ joined texts)
  pub at_end : new.left ≡ Some []
  pub segments : report.segments ≡ length texts
  pub bytes : report.bytes ≡ length (joined texts)

abbrev pub OkMeans : Command → List ℕ → List ℕ → List ℕ → List ℕ → List ℕ → List ℕ → Outside → Report → Type 0
OkMeans Seal keyset aad draws left_draws T G new report = IsWholeStream keyset aad draws left_draws T G new report
OkMeans Open keyset aad draws left_draws S G new report = IsWholeText keyset aad S G new report

-- what was written is a prefix of the texts that agree under the chosen key, and nothing where no key is chosen
pub record IsOfAgreeing (keyset aad S : List ℕ) (old new : Outside) : Type 0 where
  pub under_a_key : (loaded : Loaded) (key : OpeningKey) (texts : List (List ℕ)) → load keyset ≡ Ok loaded → IsChosen (opening_keys aad loaded) S (Some key) → IsAgreed key S texts → AppendsPrefix old.got new.got (joined texts)
  pub under_none : (loaded : Loaded) → load keyset ≡ Ok loaded → IsChosen (opening_keys aad loaded) S None → Keeps old.got new.got
  pub unloaded : (kind : Kind) → load keyset ≡ Err kind → Keeps old.got new.got

-- an open of known bytes, whatever it answers
abbrev pub OnlyAgreeing : Command → List ℕ → List ℕ → Outside → Outside → Type 0
OnlyAgreeing Seal keyset aad old new = Unit {0}
OnlyAgreeing Open keyset aad old new = (S G : List ℕ) → AreKnown old S G → IsOfAgreeing keyset aad S old new

abbrev pub IsOkOrWant : Result Report TinkError → Type 0
IsOkOrWant (Ok report) = Unit {0}
IsOkOrWant (Err e) = e.kind ≡ OutOfMemory

-- the keyset loads, draws suffice, keys are derived, and the text has at most 2^32 chunks
pub record CanSeal (keyset aad draws T : List ℕ) : Type 0 where
  pub loaded : Loaded
  pub loads : load keyset ≡ Ok loaded
  pub enough : drawn loaded.primary ≤ length draws
  pub derives : keys_of loaded.primary aad (salt_of loaded.primary draws) ≡ None → ⊥
  pub few : chunk_count loaded.primary T ≤ 2 ^ 32

-- the keyset loads, and the source is a stream of the chosen key
pub record CanOpen (keyset aad S : List ℕ) : Type 0 where
  pub loaded : Loaded
  pub loads : load keyset ≡ Ok loaded
  pub key : OpeningKey
  pub chosen : IsChosen (opening_keys aad loaded) S (Some key)
  pub texts : List (List ℕ)
  pub stream : IsStream key S texts

abbrev pub CanSucceed : Command → List ℕ → List ℕ → List ℕ → List ℕ → Type 0
CanSucceed Seal keyset aad draws T = CanSeal keyset aad draws T
CanSucceed Open keyset aad draws S = CanOpen keyset aad S

-- where neither count rose and the command can succeed, it does, or there is no memory
abbrev pub IsComplete : Command → List ℕ → List ℕ → List ℕ → Outside → Outside → Result Report TinkError → Type 0
IsComplete command keyset aad draws old new answer = (T G : List ℕ) → AreKnown old T G → HasNoFault old new → CanSucceed command keyset aad draws T → IsOkOrWant answer
