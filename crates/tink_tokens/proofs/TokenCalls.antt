-- Tokens of what a source has, from the calls to the answers.
use Rattle.std.proofs.Common.{◌≡◌, ◌⊎◌, inl, inr, ℕ, List, true, Some, None, refl, sym, ◌∙◌, ap, subst}
use Rattle.std.specs.Prelude.{Option, Result, Ok, Err, is_some, IfErr, OnErr, OnOk}
use Rattle.std.specs.Io.KnownBytes.{Appends}
use Rattle.tink_io.specs.Faults.{Rose}
use Rattle.tink_io.specs.Written.{AppendsPrefix}
use Rattle.tink_io.specs.declared.error.Kind.{Kind}
use Rattle.tink_io.specs.declared.error.Kind.TheVariants.{OutOfMemory, ReadFault, WriteFault, InputTooLong, BadToken, MacMismatch}
use Rattle.tink_io.specs.declared.error.TinkError.{TinkError}
use Rattle.tink_io.specs.Answering.{made_of, Answers}
use Rattle.tink_proto.specs.declared.messages.keys.Keyset.{Keyset}
use Rattle.tink_registry.specs.Listed.{Registered}
use Rattle.tink_set_builder.specs.Built.{GivesSet}
use Rattle.tink_keysets.specs.Encrypted.{chained}
use Rattle.tink_keysets.specs.Valid.{valid_keyset}
use Rattle.tink_mac.specs.Rotation.{mac_entries}
use Rattle.tink.specs.Managers.{row_of, Built}
use Rattle.tink.specs.Registered.{managers_alone, with_everything}
use Rattle.tink.specs.declared.managers.Managers.{Managers}
use Rattle.tink_sets.specs.Groups.{group_of}
use Rattle.tink_sets.specs.declared.entry.TypedEntry.{TypedEntry}
use Rattle.tink_keyset_io.specs.Reading.{IsUnreadText}
use Rattle.tink_keysets.specs.Accepting.{entries_of}
use Rattle.tink_mac.specs.MacKinds.{kind_computes, kind_verifies}
use Rattle.tink_mac.specs.Wrapped.{primary_mac, IsMacOf}
use Rattle.tink_mac.specs.declared.factory.WrappedMac.{WrappedMac}
use Rattle.tink_mac.specs.declared.mac_kind.MacKind.{MacKind}
use Rattle.tink_mac.specs.Tokens.{spelled, IsAnswered, IsSigned, IsSigning, IsVerifying}
use Rattle.tink_io.specs.Outside.{Outside}
use Rattle.tink_tokens.specs.Inputs.{input_limit, HasInput, IsOfInput, IsUnloadable, IsUnwritten, LeavesSink, ReadsInput}
use Rattle.tink_tokens.specs.TokenSteps.{AreLoadedMacs, GivesMacs, MakesNothing, MakesOfInput}
use Rattle.tink_tokens.specs.Tokens.{macs_in, macs_of, supports_own, with_id, Macs, RefusesSigning, RefusesVerifying, SignsTo, TokenMeans, TokenRefused, TokenRefuses, VerifiesTo}
use Rattle.tink_tokens.proofs.InputSteps.{unloaded}
use Rattle.tink_tokens.proofs.MacFacts.{macs_refuse}

-- ---- what loads

-- a refused keyset has no MACs
pub keyset_refused : (bytes : List ℕ) (e : TinkError) → Answers {T = Keyset} (Err e) (valid_keyset bytes) → GivesMacs (Err e) (macs_of bytes)
unfolding macs_of
keyset_refused bytes e (inl want) = inl want
keyset_refused bytes e (inr is) = inr (ap (chained macs_in) is)

-- a valid keyset has its own
pub keyset_macs : (bytes : List ℕ) (ks : Keyset) (result : Result (WrappedMac MacKind) TinkError) → valid_keyset bytes ≡ Ok ks → GivesMacs result (macs_in ks) → GivesMacs result (macs_of bytes)
unfolding macs_of
keyset_macs bytes ks result is gives = rw is gives

abbrev url : Managers → List ℕ
url m = (row_of m).url

abbrev builds : Managers → List ℕ → Result Built Kind
builds m value = (row_of m).built value

-- what the managers of the registry give
pub built_macs : (ks : Keyset) (r : Registered Managers) (result : Result (WrappedMac MacKind) TinkError) → r ≡ managers_alone
    → GivesSet (λ es w. IsMacOf kind_computes kind_verifies ks.primary_key_id es w.ps.primary w.ps.entries) result (mac_entries url supports_own builds r.managers ks)
    → GivesMacs result (macs_in ks)
built_macs ks r result same gives =
    by_result result (subst (λ (x : Registered Managers). GivesSet (λ es w. IsMacOf kind_computes kind_verifies ks.primary_key_id es w.ps.primary w.ps.entries) result (mac_entries url supports_own builds x.managers ks)) same gives)
  where
    by_result : (result : Result (WrappedMac MacKind) TinkError)
        → GivesSet (λ es w. IsMacOf kind_computes kind_verifies ks.primary_key_id es w.ps.primary w.ps.entries) result (mac_entries url supports_own builds with_everything.managers ks)
        → GivesMacs result (macs_in ks)
    by_result (Ok w) g = (with_id ks.primary_key_id g.0, ap (made_of (with_id ks.primary_key_id)) g.1, g.2)
    by_result (Err e) (inl want) = inl want
    by_result (Err e) (inr is) = inr (ap (made_of (with_id ks.primary_key_id)) is)

-- ---- what is made of the input

-- nothing of an input that could not be read
pub unread : (Gives : List ℕ → List ℕ → Type 0) (Refuses : List ℕ → Kind → Type 0) (a b : Option (List ℕ)) (kind : Kind) (before now : ℕ)
    → IsUnreadText input_limit InputTooLong a kind before now → MakesNothing Gives Refuses a b before now kind
unread Gives Refuses a b kind before now (inl (inl want)) = rw want tt
unread Gives Refuses a b kind before now (inl (inr fault)) = rw fault.0 fault.1
unread Gives Refuses a b kind before now (inr long) = rw long.0 long.1

-- a primary MAC is computed
no_refusal : (primary : Option (TypedEntry MacKind)) (message : List ℕ) (kind : Kind) → is_some primary ≡ true → primary_mac kind_computes primary message ≡ Err kind → ⊥
no_refusal None message kind there is = cc there
no_refusal (Some e) message kind there is = cc is

-- the token of the input
pub signed : (m : Macs) (w : WrappedMac MacKind) (a b : Option (List ℕ)) (before now : ℕ) (input text : List ℕ) (result : Result (List ℕ) TinkError) → is_some w.ps.primary ≡ true
    → ReadsInput a b input → text ≡ input → IsSigning kind_computes w.ps.primary text result → AreLoadedMacs m w → MakesOfInput (SignsTo m) (RefusesSigning m) a b before now result
signed m w a b before now input text (Ok token) there read same is macs =
    (input, read, subst (λ p. IsSigned kind_computes p input token) macs.has.by_id (subst (λ x. IsSigned kind_computes w.ps.primary x token) same is))
signed m w a b before now input text (Err e) there read same (inl want) macs = rw want tt
signed m w a b before now input text (Err e) there read same (inr refused) macs = absurd (no_refusal w.ps.primary (spelled text) e.kind there refused)

-- what the keys answer is what the entries answer
entries_answer : (m : Macs) (w : WrappedMac MacKind) (token payload : List ℕ) (answer : Result (Unit {0}) Kind) → AreLoadedMacs m w
    → IsAnswered kind_verifies (group_of w.ps.entries) token answer payload → IsAnswered kind_verifies (entries_of m.entries) token answer payload
entries_answer m w token payload answer macs a =
    record { mac = a.mac; is = a.is; answered = sym (macs.verified a.mac (spelled payload)) ∙ a.answered }

-- the payload of the input
pub verified : (m : Macs) (w : WrappedMac MacKind) (a b : Option (List ℕ)) (before now : ℕ) (input text : List ℕ) (result : Result (List ℕ) TinkError)
    → ReadsInput a b input → text ≡ input → IsVerifying kind_verifies (group_of w.ps.entries) text result → AreLoadedMacs m w → MakesOfInput (VerifiesTo m) (RefusesVerifying m) a b before now result
verified m w a b before now input text result read same is macs = by_result result (subst (λ x. IsVerifying kind_verifies (group_of w.ps.entries) x result) same is)
  where
    by_result : (result : Result (List ℕ) TinkError) → IsVerifying kind_verifies (group_of w.ps.entries) input result → MakesOfInput (VerifiesTo m) (RefusesVerifying m) a b before now result
    by_result (Ok payload) is =
        let one = entries_answer m w input payload (Ok tt) macs is in
        (input, read, record { mac = one.mac; is = one.is.is; accepted = one.answered })
    by_result (Err e) (inl want) = rw want tt
    by_result (Err e) (inr (inl bad)) = rw bad.0 (input, read, bad.1)
    by_result (Err e) (inr (inr other)) = rw other.0 (input, read, (other.1.0, entries_answer m w input other.1.0 (Err MacMismatch) macs other.1.1))

-- ---- of a keyset

module _ (Gives : Macs → List ℕ → List ℕ → Type 0) (Refuses : Macs → List ℕ → Kind → Type 0) (keyset : List ℕ) where
  -- a keyset whose MACs do not load
  pub not_loaded : (o : Outside) (e : TinkError) → GivesMacs (Err e) (macs_of keyset) → TokenMeans Gives Refuses keyset o o (Err e)
  not_loaded o e (inl want) = rw want (record { got = refl; faults = refl })
  not_loaded o e (inr is) = unloaded (macs_of keyset) (TokenRefuses Gives Refuses o o) o e.kind is (macs_refuse keyset e.kind is)

  refused : (old new : Outside) (macs : Macs) (kind : Kind) → macs_of keyset ≡ Ok macs → LeavesSink old new → (input : List ℕ) × HasInput old new input × Refuses macs input kind
      → IsOfInput (macs_of keyset) old new (λ m input. Refuses m input kind × LeavesSink old new)
  refused old new macs kind loads sink m = record { loaded = macs; loads = loads; input = m.0; has = m.1; then = (m.2, sink) }

  -- nothing was made of the input
  pub not_made : (only : (macs : Macs) (input : List ℕ) (kind : Kind) → Refuses macs input kind → (kind ≡ BadToken) ⊎ (kind ≡ MacMismatch))
      → (old new : Outside) (macs : Macs) (kind : Kind) → macs_of keyset ≡ Ok macs → new.got ≡ old.got → new.write_faults ≡ old.write_faults
      → MakesNothing (Gives macs) (Refuses macs) old.left new.left old.read_faults new.read_faults kind → TokenRefused Gives Refuses keyset old new kind
  not_made only old new macs OutOfMemory loads got faults m = record { got = got; faults = faults }
  not_made only old new macs ReadFault loads got faults m = ((macs, loads), record { got = got; faults = faults }, m)
  not_made only old new macs InputTooLong loads got faults m = ((macs, loads), record { got = got; faults = faults }, m)
  not_made only old new macs BadToken loads got faults m = refused old new macs BadToken loads (record { got = got; faults = faults }) m
  not_made only old new macs MacMismatch loads got faults m = refused old new macs MacMismatch loads (record { got = got; faults = faults }) m
  not_made only old new macs _ loads got faults m = elim (only macs m.0 _ m.2) [ inl is ↦ absurd (cc is) | inr is ↦ absurd (cc is) ]

  -- whatever is made of an input, the keyset loaded
  pub loaded_first : {S : Type 0} (only : (macs : Macs) (input : List ℕ) (kind : Kind) → Refuses macs input kind → (kind ≡ BadToken) ⊎ (kind ≡ MacMismatch))
      → (macs : Macs) (a b : Option (List ℕ)) (before now : ℕ) (kind : Kind) (s t : S) → MakesNothing (Gives macs) (Refuses macs) a b before now kind → IsUnloadable kind → t ≡ s
  loaded_first only macs a b before now OutOfMemory s t m unloadable = absurd unloadable
  loaded_first only macs a b before now ReadFault s t m unloadable = absurd unloadable
  loaded_first only macs a b before now InputTooLong s t m unloadable = absurd unloadable
  loaded_first only macs a b before now _ s t m unloadable = elim (only macs m.0 _ m.2) [ inl is ↦ absurd (subst IsUnloadable is unloadable) | inr is ↦ absurd (subst IsUnloadable is unloadable) ]

  -- what was made was written, or a prefix of it
  pub made : (old new : Outside) (macs : Macs) (output written : List ℕ) (answer : Result (Unit {0}) TinkError) → macs_of keyset ≡ Ok macs
      → MakesOfInput (Gives macs) (Refuses macs) old.left new.left old.read_faults new.read_faults (Ok output) → written ≡ output
      → OnOk answer (Appends old.got new.got written) → OnErr answer (AppendsPrefix old.got new.got written) → OnErr answer (Rose old.write_faults new.write_faults)
      → IfErr answer (λ e. e ≡ record { kind = WriteFault }) → TokenMeans Gives Refuses keyset old new answer
  made old new macs output written (Ok done) loads m same whole front rose fault = record {
    loaded = macs;
    loads = loads;
    input = m.0;
    has = m.1;
    then = record { output = output; gives = m.2; written = subst (λ x. Appends old.got new.got x) same whole };
  }
  made old new macs output written (Err e) loads m same whole front rose fault =
      rw (ap (λ (x : TinkError). x.kind) fault) (record {
        loaded = macs;
        loads = loads;
        input = m.0;
        has = m.1;
        then = (record { output = output; gives = m.2; written = subst (λ x. AppendsPrefix old.got new.got x) same front }, rose);
      })

-- a fault of the sink is neither of a keyset that does not load nor one that comes before a write
pub fault_loaded : {S : Type 0} (answer : Result (Unit {0}) TinkError) (s t : S) → IfErr answer (λ e. e ≡ record { kind = WriteFault }) → IfErr answer (λ e. IsUnloadable e.kind → t ≡ s)
fault_loaded (Ok done) s t fault = tt
fault_loaded (Err e) s t fault = rw fault (λ unloadable. absurd unloadable)

pub fault_writes : {K : Type 0} (answer : Result (Unit {0}) TinkError) (k l : K) → IfErr answer (λ e. e ≡ record { kind = WriteFault }) → IfErr answer (λ e. IsUnwritten e.kind → l ≡ k)
fault_writes (Ok done) k l fault = tt
fault_writes (Err e) k l fault = rw fault (λ unwritten. absurd unwritten)

pub signing_only : (macs : Macs) (input : List ℕ) (kind : Kind) → RefusesSigning macs input kind → (kind ≡ BadToken) ⊎ (kind ≡ MacMismatch)
signing_only macs input kind refuses = absurd refuses

pub verifying_only : (macs : Macs) (input : List ℕ) (kind : Kind) → RefusesVerifying macs input kind → (kind ≡ BadToken) ⊎ (kind ≡ MacMismatch)
verifying_only macs input BadToken refuses = inl refl
verifying_only macs input MacMismatch refuses = inr refl
verifying_only macs input _ refuses = absurd refuses
