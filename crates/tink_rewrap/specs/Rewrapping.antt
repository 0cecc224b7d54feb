-- What a rewrap says by each of its answers.
use Rattle.std.specs.Prelude.{◌≡◌, ◌⊎◌, ℕ, ◌≤◌, List, length, drop, Result, Ok, Err, Some, None, IfErr, IfSome}
use Rattle.tink_io.specs.declared.error.Kind.{Kind}
use Rattle.tink_io.specs.declared.error.Kind.TheVariants.{OutOfMemory, ReadFault, WriteFault, RandomFault, BadKeyset, InvalidKeyset, UnsupportedKeyType, InvalidKey, NoPrimary, WrongPrimitive, UnsupportedHash, TooManySegments, NoMatchingKey, BadSegment, Truncated}
use Rattle.tink_io.specs.declared.error.TinkError.{TinkError}
use Rattle.stream_model.specs.Key.{StreamKey, keys_of}
use Rattle.stream_model.specs.Opening.{OpeningKey, IsChosen}
use Rattle.stream_model.specs.Sealing.{drawn, salt_of}
use Rattle.loading_model.specs.Loading.{Loaded, opening_keys}
use Rattle.tink_run.specs.AllKeys.{load}
use Rattle.tink_run.specs.declared.report.Report.{Report}
use Rattle.tink_run.specs.Endings.{EndsAs}
use Rattle.tink_run.specs.OpenReads.{room_under}
use Rattle.tink_io.specs.Outside.{Outside, IsUntouched}
use Rattle.tink_run.specs.SealAnswers.{WantsMemory}
use Rattle.tink_run.specs.SealSteps.{HasFew, HasNoKeys}
use Rattle.tink_rewrap.specs.Passing.{LeadsUnder, NewBytes, OpensWithin, PassMeans, bytes_under}

-- ---- from keys to a key

-- a key is chosen for the source
abbrev pub HasKey : List OpeningKey → Outside → Type 0
HasKey keys m = IfSome m.left (λ S. (key : OpeningKey) × IsChosen keys S (Some key))

-- by a refusal a key was chosen, or the sink is itself as it was
abbrev pub LeavesOrBegins : {K : Type 0} → List OpeningKey → Outside → Result Report TinkError → K → K → Type 0
LeavesOrBegins keys old (Ok report) sink sink_after = Unit {0}
LeavesOrBegins keys old (Err e) sink sink_after = (sink_after ≡ sink) ⊎ HasKey keys old

-- what passing the text on says where the source is opened under these keys, with at most so many bytes held of it
abbrev pub PassesUnder : List OpeningKey → NewBytes → Outside → Outside → Result Report TinkError → Type 0
PassesUnder keys b old new answer = PassMeans (OpensWithin (room_under keys) keys) (LeadsUnder (room_under keys) keys) (HasKey keys) b old new answer

-- salt and prefix were drawn and keys derived, and this is what passing the text on says
pub record IsPassing (keys : List OpeningKey) (k : StreamKey) (aad draws left_draws : List ℕ) (old new : Outside) (answer : Result Report TinkError) : Type 0 where
  pub enough : drawn k ≤ length draws
  pub rest : left_draws ≡ drop (drawn k) draws
  pub derives : keys_of k aad (salt_of k draws) ≡ None → ⊥
  pub means : PassesUnder keys (bytes_under k aad draws) old new answer

abbrev pub RewrapsUnderRefused : List OpeningKey → StreamKey → List ℕ → List ℕ → List ℕ → Outside → Outside → TinkError → Kind → Type 0
RewrapsUnderRefused keys k aad draws left_draws old new e OutOfMemory = WantsMemory draws left_draws old new
RewrapsUnderRefused keys k aad draws left_draws old new e RandomFault = HasFew k draws left_draws old new
RewrapsUnderRefused keys k aad draws left_draws old new e UnsupportedHash = HasNoKeys k aad draws left_draws old new
RewrapsUnderRefused keys k aad draws left_draws old new e NoMatchingKey = IsPassing keys k aad draws left_draws old new (Err e)
RewrapsUnderRefused keys k aad draws left_draws old new e TooManySegments = IsPassing keys k aad draws left_draws old new (Err e)
RewrapsUnderRefused keys k aad draws left_draws old new e (Truncated n) = IsPassing keys k aad draws left_draws old new (Err e)
RewrapsUnderRefused keys k aad draws left_draws old new e (BadSegment n) = IsPassing keys k aad draws left_draws old new (Err e)
RewrapsUnderRefused keys k aad draws left_draws old new e ReadFault = IsPassing keys k aad draws left_draws old new (Err e)
RewrapsUnderRefused keys k aad draws left_draws old new e WriteFault = IsPassing keys k aad draws left_draws old new (Err e)
RewrapsUnderRefused keys k aad draws left_draws old new e _ = ⊥

-- what a rewrap from the first of some keys that begins the source to a key answers
abbrev pub RewrapsUnder : List OpeningKey → StreamKey → List ℕ → List ℕ → List ℕ → Outside → Outside → Result Report TinkError → Type 0
RewrapsUnder keys k aad draws left_draws old new (Ok report) = IsPassing keys k aad draws left_draws old new (Ok report)
RewrapsUnder keys k aad draws left_draws old new (Err e) = RewrapsUnderRefused keys k aad draws left_draws old new e e.kind

-- What such a rewrap answered over a sink that gathered what it got, and how it ended. By a refusal a key was chosen, or
-- nothing was to be handed on.
pub record RewrapEnds (keys : List OpeningKey) (k : StreamKey) (aad draws left_draws : List ℕ) (old new : Outside) (ended : Result Report TinkError) : Type 0 where
  pub ends : EndsAs (RewrapsUnder keys k aad draws left_draws old) old new ended
  pub begun : IfErr ends.answer (λ e. ((ended ≡ ends.answer) × (ends.told ≡ new.got) × (ends.faults ≡ new.write_faults)) ⊎ HasKey keys old)

-- ---- from a keyset to a keyset

-- a keyset, its associated data, and those that the stream is moved to
pub record Sides : Type 0 where
  pub from : List ℕ
  pub from_aad : List ℕ
  pub to : List ℕ
  pub to_aad : List ℕ

abbrev pub sides : List ℕ → List ℕ → List ℕ → List ℕ → Sides
sides from from_aad to to_aad = record { from = from; from_aad = from_aad; to = to; to_aad = to_aad }

-- the first keyset loads, and a key of it is chosen for the source
abbrev pub HasKeyOf : Sides → Outside → Type 0
HasKeyOf s m = (loaded : Loaded) × (load s.from ≡ Ok loaded) × HasKey (opening_keys s.from_aad loaded) m

-- by a refusal a key of the first keyset was chosen, or the sink is itself as it was
abbrev pub LeavesOrBeginsOf : {K : Type 0} → Sides → Outside → Result Report TinkError → K → K → Type 0
LeavesOrBeginsOf s old (Ok report) sink sink_after = Unit {0}
LeavesOrBeginsOf s old (Err e) sink sink_after = (sink_after ≡ sink) ⊎ HasKeyOf s old

-- both keysets were loaded, and this is what the rewrap from the keys of the one to the primary key of the other says
pub record RewrapsLoaded (s : Sides) (draws left_draws : List ℕ) (old new : Outside) (answer : Result Report TinkError) : Type 0 where
  pub from_loaded : Loaded
  pub from_loads : load s.from ≡ Ok from_loaded
  pub to_loaded : Loaded
  pub to_loads : load s.to ≡ Ok to_loaded
  pub means : RewrapsUnder (opening_keys s.from_aad from_loaded) to_loaded.primary s.to_aad draws left_draws old new answer

-- the second keyset was refused, and the first was not
pub record SecondRefused (s : Sides) (kind : Kind) : Type 0 where
  pub from_loaded : Loaded
  pub from_loads : load s.from ≡ Ok from_loaded
  pub cause : load s.to ≡ Err kind

-- a keyset was refused: nothing was read, written or drawn
pub record IsUnloaded (s : Sides) (kind : Kind) (draws left_draws : List ℕ) (old new : Outside) : Type 0 where
  pub cause : (load s.from ≡ Err kind) ⊎ SecondRefused s kind
  pub untouched : IsUntouched old new
  pub undrawn : left_draws ≡ draws

-- each refusal has its cause, and says what stands after it. No other refusal is given.
abbrev pub RewrapRefused : Sides → List ℕ → List ℕ → Outside → Outside → TinkError → Kind → Type 0
RewrapRefused s draws left_draws old new e OutOfMemory = WantsMemory draws left_draws old new
RewrapRefused s draws left_draws old new e BadKeyset = IsUnloaded s BadKeyset draws left_draws old new
RewrapRefused s draws left_draws old new e InvalidKeyset = IsUnloaded s InvalidKeyset draws left_draws old new
RewrapRefused s draws left_draws old new e UnsupportedKeyType = IsUnloaded s UnsupportedKeyType draws left_draws old new
RewrapRefused s draws left_draws old new e InvalidKey = IsUnloaded s InvalidKey draws left_draws old new
RewrapRefused s draws left_draws old new e NoPrimary = IsUnloaded s NoPrimary draws left_draws old new
RewrapRefused s draws left_draws old new e WrongPrimitive = IsUnloaded s WrongPrimitive draws left_draws old new
RewrapRefused s draws left_draws old new e RandomFault = RewrapsLoaded s draws left_draws old new (Err e)
RewrapRefused s draws left_draws old new e UnsupportedHash = RewrapsLoaded s draws left_draws old new (Err e)
RewrapRefused s draws left_draws old new e NoMatchingKey = RewrapsLoaded s draws left_draws old new (Err e)
RewrapRefused s draws left_draws old new e TooManySegments = RewrapsLoaded s draws left_draws old new (Err e)
RewrapRefused s draws left_draws old new e (Truncated n) = RewrapsLoaded s draws left_draws old new (Err e)
RewrapRefused s draws left_draws old new e (BadSegment n) = RewrapsLoaded s draws left_draws old new (Err e)
RewrapRefused s draws left_draws old new e ReadFault = RewrapsLoaded s draws left_draws old new (Err e)
RewrapRefused s draws left_draws old new e WriteFault = RewrapsLoaded s draws left_draws old new (Err e)
RewrapRefused s draws left_draws old new e _ = ⊥

abbrev pub RewrapMeans : Sides → List ℕ → List ℕ → Outside → Outside → Result Report TinkError → Type 0
RewrapMeans s draws left_draws old new (Ok report) = RewrapsLoaded s draws left_draws old new (Ok report)
RewrapMeans s draws left_draws old new (Err e) = RewrapRefused s draws left_draws old new e e.kind
