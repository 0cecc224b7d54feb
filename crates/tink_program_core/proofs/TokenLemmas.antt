-- What a command of tokens says by its answer, it says by its status.
use Rattle.std.proofs.Common.{◌≡◌, ◌⊎◌, inl, inr, ◌+◌, ℕ, List, true, refl, sym, ◌∙◌, subst, arith}
use Rattle.std.specs.Prelude.{Result, Ok, Err, IfErr}
use Rattle.std.specs.Io.KnownBytes.{Appends}
use Rattle.tink_io.specs.Faults.{Rose}
use Rattle.tink_io.specs.declared.error.Kind.{Kind}
use Rattle.tink_io.specs.declared.error.Kind.TheVariants.{OutOfMemory, ReadFault, WriteFault, BadKeyset, InvalidKeyset, UnsupportedKeyType, InvalidKey, NoPrimary, WrongPrimitive, InputTooLong, BadToken, MacMismatch}
use Rattle.tink_io.specs.declared.error.TinkError.{TinkError}
use Rattle.tink_keysets.specs.Accepting.{entries_of}
use Rattle.tink_mac.specs.MacKinds.{kind_verifies}
use Rattle.tink_mac.specs.Wrapped.{any_verifies}
use Rattle.tink_mac.specs.Tokens.{spelled, IsAnswered}
use Rattle.tink_io.specs.Taken.{LosesAtMost}
use Rattle.tink_io.specs.Outside.{Outside, HasNoFault, AreKnown}
use Rattle.tink_tokens.specs.Inputs.{input_limit, IsOfInput, IsUnloadable, IsUnwritten}
use Rattle.tink_tokens.specs.Tokens.{macs_of, CanAnswer, CannotAnswer, GaveOutput, Macs, RefusesSigning, RefusesVerifying, SignsTo, TokenMeans, TokenRefused, TokenRefuses, VerifiesTo}
use Rattle.tink_tokens.proofs.ToldLemmas.{answered_whole, not_long, of_loaded}
use Rattle.tink_io.specs.Statuses.{kind_status}
use Rattle.tink_program_core.specs.Program.{answer_outcome, own_statuses, status_of, IsAmong, IsEarlyKind, Leaves}
use Rattle.tink_program_core.specs.TokenPromises.{TokenOutcome, TokenPromises}
use Rattle.tink_program_core.specs.Words.Asked.{Signing, Verifying}
use Rattle.tink_program_core.specs.declared.outcomes.Outcome.{Outcome}
use Rattle.tink_program_core.specs.declared.outcomes.Outcome.TheVariants.{Done, Usage, Refused}
use Rattle.tink_program_core.proofs.InputLemmas.{done_facts, refusal_facts, refusal_leaves, refused_told, too_long}
use Rattle.tink_program_core.proofs.StatusLemmas.{above_2, CommandFacts}

module _ (Gives : Macs → List ℕ → List ℕ → Type 0) (Refuses : Macs → List ℕ → Kind → Type 0) where
  -- an early kind is none by which an input is refused
  abbrev AreLate : Type 0
  AreLate = (old new : Outside) (macs : Macs) (input : List ℕ) (kind : Kind) → TokenRefuses Gives Refuses old new macs input kind → IsEarlyKind kind → ⊥

  rose : (old new : Outside) (macs : Macs) (input : List ℕ) → TokenRefuses Gives Refuses old new macs input WriteFault → Rose old.write_faults new.write_faults
  rose old new macs input refuses = refuses.1

module _ (Gives : Macs → List ℕ → List ℕ → Type 0) (Refuses : Macs → List ℕ → Kind → Type 0) (keyset : List ℕ) where
  pub token_outcome : (old new : Outside) (answer : Result (Unit {0}) TinkError) → TokenMeans Gives Refuses keyset old new answer → TokenOutcome Gives Refuses keyset old new (answer_outcome answer)
  token_outcome old new (Ok done) m = m
  token_outcome old new (Err e) m = m

  -- what an outcome leaves of the ends themselves
  leaves : {S K : Type 0} (late : AreLate Gives Refuses) (old new : Outside) (answer : Result (Unit {0}) TinkError) (s t : S) (k l : K) → TokenMeans Gives Refuses keyset old new answer
      → IfErr answer (λ e. IsUnloadable e.kind → t ≡ s) → IfErr answer (λ e. IsUnwritten e.kind → l ≡ k) → Leaves true (λ kind. IsUnwritten kind) (answer_outcome answer) s t k l
  leaves late old new (Ok done) s t k l m unread unwritten = tt
  leaves late old new (Err e) s t k l m unread unwritten =
      refusal_leaves (macs_of keyset) (TokenRefuses Gives Refuses) late (rose Gives Refuses) old new e.kind s t k l m unread unwritten

  -- ---- what a status promises

  -- what is given, and by which kind an input is refused, exclude each other
  module _ (late : AreLate Gives Refuses)
      (apart : (macs : Macs) (input output : List ℕ) (kind : Kind) → Gives macs input output → Refuses macs input kind → ⊥)
      (one_kind : (macs : Macs) (input : List ℕ) (kind other : Kind) → Refuses macs input kind → Refuses macs input other → kind_status kind ≡ kind_status other) where
    not_refused : (old new : Outside) (macs : Macs) (input output : List ℕ) (kind : Kind) → HasNoFault old new → Gives macs input output → TokenRefuses Gives Refuses old new macs input kind → ⊥
    not_refused old new macs input output WriteFault faultless gives refuses = faultless.writes refuses.1
    not_refused old new macs input output _ faultless gives refuses = apart macs input output _ gives refuses.0

    same_kind : (old new : Outside) (macs : Macs) (input : List ℕ) (kind other : Kind) → HasNoFault old new → TokenRefuses Gives Refuses old new macs input kind → Refuses macs input other
        → kind_status kind ≡ kind_status other
    same_kind old new macs input WriteFault other faultless refuses cannot = absurd (faultless.writes refuses.1)
    same_kind old new macs input _ other faultless refuses cannot = one_kind macs input _ other refuses.0 cannot

    of_refusal : (old new : Outside) (T G : List ℕ) (macs : Macs) (kind : Kind) → AreKnown old T G → macs_of keyset ≡ Ok macs
        → IsOfInput (macs_of keyset) old new (λ m input. TokenRefuses Gives Refuses old new m input kind) → TokenRefuses Gives Refuses old new macs T kind
    of_refusal old new T G macs kind told loads m = of_loaded (macs_of keyset) (λ l input. TokenRefuses Gives Refuses old new l input kind) old new T G macs told loads m

    succeeds : (old new : Outside) (kind : Kind) → TokenRefused Gives Refuses keyset old new kind → (T G : List ℕ) → AreKnown old T G → HasNoFault old new → CanAnswer Gives Refuses keyset T
        → kind_status kind ≡ 10
    succeeds old new kind m T G told faultless can =
        elim (refused_told (macs_of keyset) (TokenRefuses Gives Refuses) late (rose Gives Refuses) old new kind T G can.macs m told faultless can.loads can.fits) [
          | inl want ↦ want
          | inr h ↦ absurd (not_refused old new can.macs T can.output kind faultless can.gives (of_refusal old new T G can.macs kind told can.loads h))
        ]

    refused : (old new : Outside) (kind : Kind) → TokenRefused Gives Refuses keyset old new kind → (T G : List ℕ) (other : Kind) → AreKnown old T G → HasNoFault old new
        → CannotAnswer Gives Refuses keyset T other → (kind_status kind ≡ kind_status other) ⊎ (kind_status kind ≡ 10)
    refused old new kind m T G other told faultless cannot =
        elim (refused_told (macs_of keyset) (TokenRefuses Gives Refuses) late (rose Gives Refuses) old new kind T G cannot.macs m told faultless cannot.loads cannot.fits) [
          | inl want ↦ inr want
          | inr h ↦ inl (same_kind old new cannot.macs T kind other faultless (of_refusal old new T G cannot.macs kind told cannot.loads h) cannot.refuses)
        ]

    -- given, an input is not refused
    answered : {A : Type 0} (old new : Outside) (T G : List ℕ) (kind : Kind) → IsOfInput (macs_of keyset) old new (λ macs input. GaveOutput Gives macs input old new Appends) → AreKnown old T G
        → CannotAnswer Gives Refuses keyset T kind → A
    answered old new T G kind m told cannot =
        let gave = of_loaded (macs_of keyset) (λ macs input. GaveOutput Gives macs input old new Appends) old new T G cannot.macs told cannot.loads m in
        absurd (apart cannot.macs T gave.output kind gave.gives cannot.refuses)

    pub token_promised : (old new : Outside) (outcome : Outcome) → TokenOutcome Gives Refuses keyset old new outcome → LosesAtMost (input_limit + 1) old.left new.left
        → TokenPromises Gives Refuses keyset kind_status old new (status_of outcome)
    token_promised old new Done m taken = record {
      whole = λ T G told _. answered_whole Gives Refuses keyset old new m T G told;
      succeeds = λ _ _ _ _ _. inl refl;
      refused = λ T G kind told _ cannot. answered old new T G kind m told cannot;
      long = λ T G told _ much. not_long old new T G m.input told m.has much.long;
      taken = taken;
    }
    token_promised old new Usage m taken = absurd m
    token_promised old new (Refused kind) m taken = record {
      whole = λ T G told is. absurd (omega (arith, is, above_2 kind));
      succeeds = λ T G told faultless can. inr (succeeds old new kind m T G told faultless can);
      refused = λ T G other told faultless cannot. refused old new kind m T G other told faultless cannot;
      long = λ T G told faultless much. too_long (macs_of keyset) (TokenRefuses Gives Refuses) late (rose Gives Refuses) old new kind T G m told faultless much;
      taken = taken;
    }

-- ---- signing

sign_late : AreLate SignsTo RefusesSigning
sign_late old new macs input WriteFault refuses is = is
sign_late old new macs input _ refuses is = refuses.0

sign_own : (keyset : List ℕ) (old new : Outside) (kind : Kind) → TokenRefused SignsTo RefusesSigning keyset old new kind → IsAmong (own_statuses (Signing keyset)) (kind_status kind)
sign_own keyset old new OutOfMemory m = refl
sign_own keyset old new BadKeyset m = refl
sign_own keyset old new InvalidKeyset m = refl
sign_own keyset old new UnsupportedKeyType m = refl
sign_own keyset old new InvalidKey m = refl
sign_own keyset old new NoPrimary m = refl
sign_own keyset old new WrongPrimitive m = refl
sign_own keyset old new ReadFault m = refl
sign_own keyset old new InputTooLong m = refl
sign_own keyset old new WriteFault m = refl
sign_own keyset old new _ m = absurd m.then.0

pub sign_facts : (keyset : List ℕ) (old new : Outside) (outcome : Outcome) → TokenOutcome SignsTo RefusesSigning keyset old new outcome → CommandFacts (Signing keyset) old new (status_of outcome)
sign_facts keyset old new Done m =
    done_facts (macs_of keyset) (TokenRefuses SignsTo RefusesSigning) sign_late (rose SignsTo RefusesSigning) (Signing keyset) (λ kind is. is) (λ kind is. is) refl refl m.loaded m.loads old new
sign_facts keyset old new Usage m = absurd m
sign_facts keyset old new (Refused kind) m =
    refusal_facts (macs_of keyset) (TokenRefuses SignsTo RefusesSigning) sign_late (rose SignsTo RefusesSigning) (Signing keyset) (λ kind is. is) (λ kind is. is) refl (sign_own keyset) old new kind m

pub sign_leaves : {S K : Type 0} (keyset : List ℕ) (old new : Outside) (answer : Result (Unit {0}) TinkError) (s t : S) (k l : K) → TokenMeans SignsTo RefusesSigning keyset old new answer
    → IfErr answer (λ e. IsUnloadable e.kind → t ≡ s) → IfErr answer (λ e. IsUnwritten e.kind → l ≡ k) → Leaves true (λ kind. IsUnwritten kind) (answer_outcome answer) s t k l
sign_leaves keyset old new answer s t k l m unread unwritten = leaves SignsTo RefusesSigning keyset sign_late old new answer s t k l m unread unwritten

pub sign_promised : (keyset : List ℕ) (old new : Outside) (outcome : Outcome) → TokenOutcome SignsTo RefusesSigning keyset old new outcome → LosesAtMost (input_limit + 1) old.left new.left
    → TokenPromises SignsTo RefusesSigning keyset kind_status old new (status_of outcome)
sign_promised keyset old new outcome m taken =
    token_promised SignsTo RefusesSigning keyset sign_late (λ macs input output kind gives refuses. refuses) (λ macs input kind other p q. absurd p) old new outcome m taken

-- ---- verifying

verify_late : AreLate VerifiesTo RefusesVerifying
verify_late old new macs input WriteFault refuses is = is
verify_late old new macs input BadToken refuses is = is
verify_late old new macs input MacMismatch refuses is = is
verify_late old new macs input _ refuses is = refuses.0

verify_own : (keyset : List ℕ) (old new : Outside) (kind : Kind) → TokenRefused VerifiesTo RefusesVerifying keyset old new kind → IsAmong (own_statuses (Verifying keyset)) (kind_status kind)
verify_own keyset old new OutOfMemory m = refl
verify_own keyset old new BadKeyset m = refl
verify_own keyset old new InvalidKeyset m = refl
verify_own keyset old new UnsupportedKeyType m = refl
verify_own keyset old new InvalidKey m = refl
verify_own keyset old new NoPrimary m = refl
verify_own keyset old new WrongPrimitive m = refl
verify_own keyset old new ReadFault m = refl
verify_own keyset old new InputTooLong m = refl
verify_own keyset old new WriteFault m = refl
verify_own keyset old new BadToken m = refl
verify_own keyset old new MacMismatch m = refl
verify_own keyset old new _ m = absurd m.then.0

pub verify_facts : (keyset : List ℕ) (old new : Outside) (outcome : Outcome) → TokenOutcome VerifiesTo RefusesVerifying keyset old new outcome → CommandFacts (Verifying keyset) old new (status_of outcome)
verify_facts keyset old new Done m =
    done_facts (macs_of keyset) (TokenRefuses VerifiesTo RefusesVerifying) verify_late (rose VerifiesTo RefusesVerifying) (Verifying keyset) (λ kind is. is) (λ kind is. is) refl refl m.loaded m.loads old new
verify_facts keyset old new Usage m = absurd m
verify_facts keyset old new (Refused kind) m =
    refusal_facts (macs_of keyset) (TokenRefuses VerifiesTo RefusesVerifying) verify_late (rose VerifiesTo RefusesVerifying) (Verifying keyset) (λ kind is. is) (λ kind is. is) refl (verify_own keyset) old new kind m

pub verify_leaves : {S K : Type 0} (keyset : List ℕ) (old new : Outside) (answer : Result (Unit {0}) TinkError) (s t : S) (k l : K) → TokenMeans VerifiesTo RefusesVerifying keyset old new answer
    → IfErr answer (λ e. IsUnloadable e.kind → t ≡ s) → IfErr answer (λ e. IsUnwritten e.kind → l ≡ k) → Leaves true (λ kind. IsUnwritten kind) (answer_outcome answer) s t k l
verify_leaves keyset old new answer s t k l m unread unwritten = leaves VerifiesTo RefusesVerifying keyset verify_late old new answer s t k l m unread unwritten

-- a token has one answer
mismatch_apart : (macs : Macs) (token payload other : List ℕ) → VerifiesTo macs token payload → IsAnswered kind_verifies (entries_of macs.entries) token (Err MacMismatch) other → ⊥
mismatch_apart macs token payload other accepted a =
    let same = a.is.alone payload accepted.mac accepted.is in
    let one : any_verifies kind_verifies (entries_of macs.entries) a.mac (spelled other) ≡ Ok tt =
    subst (λ p. any_verifies kind_verifies (entries_of macs.entries) a.mac (spelled p) ≡ Ok tt) same.0
    (subst (λ m. any_verifies kind_verifies (entries_of macs.entries) m (spelled payload) ≡ Ok tt) same.1 accepted.accepted) in
    let two = sym one ∙ a.answered in
    cc two

verify_apart : (macs : Macs) (token payload : List ℕ) (kind : Kind) → VerifiesTo macs token payload → RefusesVerifying macs token kind → ⊥
verify_apart macs token payload BadToken accepted none = none payload accepted.mac accepted.is
verify_apart macs token payload MacMismatch accepted other = mismatch_apart macs token payload other.0 accepted other.1
verify_apart macs token payload _ accepted refuses = refuses

verify_kind : (macs : Macs) (token : List ℕ) (kind other : Kind) → RefusesVerifying macs token kind → RefusesVerifying macs token other → kind_status kind ≡ kind_status other
verify_kind macs token BadToken BadToken p q = refl
verify_kind macs token MacMismatch MacMismatch p q = refl
verify_kind macs token BadToken MacMismatch p q = absurd (p q.0 q.1.mac q.1.is.is)
verify_kind macs token MacMismatch BadToken p q = absurd (q p.0 p.1.mac p.1.is.is)
verify_kind macs token BadToken _ p q = absurd q
verify_kind macs token MacMismatch _ p q = absurd q
verify_kind macs token _ other p q = absurd p

pub verify_promised : (keyset : List ℕ) (old new : Outside) (outcome : Outcome) → TokenOutcome VerifiesTo RefusesVerifying keyset old new outcome → LosesAtMost (input_limit + 1) old.left new.left
    → TokenPromises VerifiesTo RefusesVerifying keyset kind_status old new (status_of outcome)
verify_promised keyset old new outcome m taken = token_promised VerifiesTo RefusesVerifying keyset verify_late verify_apart verify_kind old new outcome m taken
