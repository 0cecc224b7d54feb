-- Tokens of what a source has: the MACs that a keyset loads as, what is made of an input, and each answer.
use Rattle.std.specs.Prelude.{◌≡◌, ◌≤◌, ◌++◌, ℕ, List, [], length, Bool, Option, Some, Result, Ok, Err, IfErr}
use Rattle.std.specs.Io.KnownBytes.{Appends}
use Rattle.std.specs.Str.{bytes_eq}
use Rattle.tink_io.specs.Faults.{Rose}
use Rattle.tink_io.specs.Answering.{made_of}
use Rattle.tink_io.specs.Written.{AppendsPrefix}
use Rattle.tink_io.specs.declared.error.Kind.{Kind}
use Rattle.tink_io.specs.declared.error.Kind.TheVariants.{OutOfMemory, WriteFault, BadToken, MacMismatch}
use Rattle.tink_io.specs.declared.error.TinkError.{TinkError}
use Rattle.tink_proto.specs.declared.messages.keys.Keyset.{Keyset}
use Rattle.tink_sets.specs.Entries.{entry_of_id}
use Rattle.tink_sets.specs.declared.entry.TypedEntry.{TypedEntry}
use Rattle.tink_keysets.specs.Encrypted.{chained}
use Rattle.tink_keysets.specs.Valid.{valid_keyset}
use Rattle.tink_keysets.specs.Accepting.{entries_of}
use Rattle.tink_mac.specs.MacKinds.{kind_computes, kind_verifies}
use Rattle.tink_mac.specs.Rotation.{mac_entries}
use Rattle.tink_mac.specs.declared.mac_kind.MacKind.{MacKind}
use Rattle.tink_mac.specs.Tokens.{IsAccepted, IsAnswered, IsNoToken, IsSigned}
use Rattle.tink.specs.Managers.{row_of}
use Rattle.tink.specs.Registered.{with_everything}
use Rattle.tink.specs.declared.managers.Managers.{Managers}
use Rattle.tink_io.specs.Outside.{HasNoFault, Outside, AreKnown}
use Rattle.tink_tokens.specs.Inputs.{input_limit, InputRefused, IsOfInput, LeavesSink}

-- ---- what loads

-- the entries of a keyset's enabled keys as MACs, and the id of the primary one
pub record Macs : Type 0 where
  pub id : ℕ
  pub entries : List (TypedEntry MacKind)

abbrev pub with_id : ℕ → List (TypedEntry MacKind) → Macs
with_id id entries = record { id = id; entries = entries }

-- a manager takes the URL that is its own
abbrev pub supports_own : Managers → List ℕ → Bool
supports_own m url = bytes_eq (row_of m).url url

-- the MACs of a keyset by the eleven managers, or the refusal of the first key that does not build, of a keyset
-- without a primary key, or of the first key that is no MAC
abbrev pub macs_in : Keyset → Result Macs Kind
macs_in ks =
    made_of (with_id ks.primary_key_id)
    (mac_entries (λ m. (row_of m).url) supports_own (λ m. (row_of m).built) with_everything.managers ks)

-- the MACs that a keyset's bytes load as, or the first refusal
unfoldable pub macs_of : List ℕ → Result Macs Kind
macs_of bytes = chained macs_in (valid_keyset bytes)

-- ---- what is made of an input

-- the token of a payload by the primary key's MAC
abbrev pub SignsTo : Macs → List ℕ → List ℕ → Type 0
SignsTo macs payload token = IsSigned kind_computes (entry_of_id macs.id macs.entries) payload token

abbrev pub RefusesSigning : Macs → List ℕ → Kind → Type 0
RefusesSigning macs payload kind = ⊥

-- the payload of a token whose MAC a key accepts
abbrev pub VerifiesTo : Macs → List ℕ → List ℕ → Type 0
VerifiesTo macs token payload = IsAccepted kind_verifies (entries_of macs.entries) token payload

-- a text is no token, or one whose MAC no key accepts
abbrev pub RefusesVerifying : Macs → List ℕ → Kind → Type 0
RefusesVerifying macs token BadToken = IsNoToken token
RefusesVerifying macs token MacMismatch =
    (payload : List ℕ) × IsAnswered kind_verifies (entries_of macs.entries) token (Err MacMismatch) payload
RefusesVerifying macs token _ = ⊥

-- ---- what an answer says

-- what is made of an input was written
pub record GaveOutput (Gives : Macs → List ℕ → List ℕ → Type 0) (macs : Macs) (input : List ℕ) (old new : Outside)
    (Written : Option (List ℕ) → Option (List ℕ) → List ℕ → Type 0) : Type 0 where
  pub output : List ℕ
  pub gives : Gives macs input output
  pub written : Written old.got new.got output

module _ (Gives : Macs → List ℕ → List ℕ → Type 0) (Refuses : Macs → List ℕ → Kind → Type 0) where
  -- why an input that was read is refused: a fault after a prefix of what is made of it, or nothing is made of it
  abbrev pub TokenRefuses : Outside → Outside → Macs → List ℕ → Kind → Type 0
  TokenRefuses old new macs input WriteFault =
      GaveOutput Gives macs input old new AppendsPrefix × Rose old.write_faults new.write_faults
  TokenRefuses old new macs input kind = Refuses macs input kind × LeavesSink old new

module _ (Gives : Macs → List ℕ → List ℕ → Type 0) (Refuses : Macs → List ℕ → Kind → Type 0) (keyset : List ℕ) where
  -- why a call is refused, and what stands after it
  abbrev pub TokenRefused : Outside → Outside → Kind → Type 0
  TokenRefused old new kind = InputRefused (macs_of keyset) (TokenRefuses Gives Refuses old new) old new kind

  -- what stands after each answer, and why it came
  abbrev pub TokenMeans : Outside → Outside → Result (Unit {0}) TinkError → Type 0
  TokenMeans old new (Ok _) =
      IsOfInput (macs_of keyset) old new (λ macs input. GaveOutput Gives macs input old new Appends)
  TokenMeans old new (Err e) = TokenRefused old new e.kind

  -- ---- known bytes

  -- exactly what is made of the whole input was written, and nothing is left
  pub record IsAnsweredWhole (T G : List ℕ) (new : Outside) : Type 0 where
    pub macs : Macs
    pub loads : macs_of keyset ≡ Ok macs
    pub fits : length T ≤ input_limit
    pub output : List ℕ
    pub gives : Gives macs T output
    pub written : new.got ≡ Some (G ++ output)
    pub at_end : new.left ≡ Some []

  -- the keyset loads, and something is made of the input, which is not too long
  pub record CanAnswer (T : List ℕ) : Type 0 where
    pub macs : Macs
    pub loads : macs_of keyset ≡ Ok macs
    pub fits : length T ≤ input_limit
    pub output : List ℕ
    pub gives : Gives macs T output

  -- where neither count rose and something is made of the input, the answer is Ok, or there is no memory
  abbrev pub CompletesToken : Outside → Outside → Result (Unit {0}) TinkError → Type 0
  CompletesToken old new answer =
      (T G : List ℕ) → AreKnown old T G → HasNoFault old new → CanAnswer T → IfErr answer (λ e. e.kind ≡ OutOfMemory)

  -- the keyset loads, and the input, which is not too long, is refused
  pub record CannotAnswer (T : List ℕ) (kind : Kind) : Type 0 where
    pub macs : Macs
    pub loads : macs_of keyset ≡ Ok macs
    pub fits : length T ≤ input_limit
    pub refuses : Refuses macs T kind
