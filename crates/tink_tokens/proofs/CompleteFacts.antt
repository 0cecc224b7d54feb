-- Where no end fails and something can be made of the input, it is.
use Rattle.std.proofs.Common.{◌≡◌, ◌⊎◌, ◌∙◌, inl, inr, ℕ, List, refl, subst, sym}
use Rattle.std.specs.Prelude.{Result, Ok, Err}
use Rattle.tink_io.specs.declared.error.Kind.{Kind}
use Rattle.tink_io.specs.declared.error.Kind.TheVariants.{OutOfMemory, ReadFault, WriteFault, BadKeyset, InvalidKeyset, UnsupportedKeyType, InvalidKey, NoPrimary, WrongPrimitive, InputTooLong, BadToken, MacMismatch}
use Rattle.tink_io.specs.declared.error.TinkError.{TinkError}
use Rattle.tink_keysets.specs.Accepting.{entries_of}
use Rattle.tink_mac.specs.MacKinds.{kind_verifies}
use Rattle.tink_mac.specs.Wrapped.{any_verifies}
use Rattle.tink_mac.specs.Tokens.{spelled, IsAnswered}
use Rattle.tink_io.specs.Outside.{Outside, HasNoFault, AreKnown}
use Rattle.tink_tokens.specs.Inputs.{IsOfInput}
use Rattle.tink_tokens.specs.Tokens.{macs_of, CanAnswer, CompletesToken, Macs, RefusesSigning, RefusesVerifying, SignsTo, TokenMeans, TokenRefused, TokenRefuses, VerifiesTo}
use Rattle.tink_tokens.proofs.ToldLemmas.{long_told, never_loaded, of_loaded}

-- what is made of an input, and by which kind it is refused, exclude each other
module _ (Gives : Macs → List ℕ → List ℕ → Type 0) (Refuses : Macs → List ℕ → Kind → Type 0) (keyset : List ℕ)
    (apart : (macs : Macs) (input output : List ℕ) (kind : Kind) → Gives macs input output → Refuses macs input kind → ⊥) where
  not_refused : (old new : Outside) (macs : Macs) (input output : List ℕ) (kind : Kind) → HasNoFault old new → Gives macs input output → TokenRefuses Gives Refuses old new macs input kind → ⊥
  not_refused old new macs input output WriteFault faultless gives refuses = faultless.writes refuses.1
  not_refused old new macs input output _ faultless gives refuses = apart macs input output _ gives refuses.0

  unloaded : {A : Type 0} (T : List ℕ) (kind : Kind) → CanAnswer Gives Refuses keyset T → macs_of keyset ≡ Err kind → A
  unloaded T kind can cause = absurd (never_loaded (macs_of keyset) kind can.macs cause can.loads)

  of_input : {A : Type 0} (old new : Outside) (T G : List ℕ) (kind : Kind) → AreKnown old T G → HasNoFault old new → CanAnswer Gives Refuses keyset T
      → IsOfInput (macs_of keyset) old new (λ macs input. TokenRefuses Gives Refuses old new macs input kind) → A
  of_input old new T G kind told faultless can m =
      absurd (not_refused old new can.macs T can.output kind faultless can.gives
      (of_loaded (macs_of keyset) (λ macs input. TokenRefuses Gives Refuses old new macs input kind) old new T G can.macs told can.loads m))

  -- a refusal is the input's own, where neither end fails
  own_refusal : (old new : Outside) (T G : List ℕ) (kind : Kind) → AreKnown old T G → HasNoFault old new → CanAnswer Gives Refuses keyset T → TokenRefused Gives Refuses keyset old new kind
      → (kind ≡ OutOfMemory) ⊎ IsOfInput (macs_of keyset) old new (λ macs input. TokenRefuses Gives Refuses old new macs input kind)
  own_refusal old new T G OutOfMemory told faultless can m = inl refl
  own_refusal old new T G BadKeyset told faultless can m = unloaded T BadKeyset can m.cause
  own_refusal old new T G InvalidKeyset told faultless can m = unloaded T InvalidKeyset can m.cause
  own_refusal old new T G UnsupportedKeyType told faultless can m = unloaded T UnsupportedKeyType can m.cause
  own_refusal old new T G InvalidKey told faultless can m = unloaded T InvalidKey can m.cause
  own_refusal old new T G NoPrimary told faultless can m = unloaded T NoPrimary can m.cause
  own_refusal old new T G WrongPrimitive told faultless can m = unloaded T WrongPrimitive can m.cause
  own_refusal old new T G ReadFault told faultless can m = absurd (faultless.reads m.2)
  own_refusal old new T G InputTooLong told faultless can m = long_told old T G told m.2 can.fits
  own_refusal old new T G _ told faultless can m = inr m

  by_kind : (old new : Outside) (T G : List ℕ) (kind : Kind) → AreKnown old T G → HasNoFault old new → CanAnswer Gives Refuses keyset T → TokenRefused Gives Refuses keyset old new kind → kind ≡ OutOfMemory
  by_kind old new T G kind told faultless can m =
      elim (own_refusal old new T G kind told faultless can m) [ inl want ↦ want | inr h ↦ of_input old new T G kind told faultless can h ]

  completed : (old new : Outside) (answer : Result (Unit {0}) TinkError) → TokenMeans Gives Refuses keyset old new answer → CompletesToken Gives Refuses keyset old new answer
  completed old new (Ok done) m = λ T G told faultless can. tt
  completed old new (Err e) m = λ T G told faultless can. by_kind old new T G e.kind told faultless can m

-- no input is refused
pub sign_completed : (keyset : List ℕ) (old new : Outside) (answer : Result (Unit {0}) TinkError) → TokenMeans SignsTo RefusesSigning keyset old new answer
    → CompletesToken SignsTo RefusesSigning keyset old new answer
sign_completed keyset old new answer means = completed SignsTo RefusesSigning keyset (λ macs input output kind gives refuses. refuses) old new answer means

-- a token has one answer
mismatch_apart : (macs : Macs) (token payload other : List ℕ) → VerifiesTo macs token payload → IsAnswered kind_verifies (entries_of macs.entries) token (Err MacMismatch) other → ⊥
mismatch_apart macs token payload other accepted a =
    let same = a.is.alone payload accepted.mac accepted.is in
    let one : any_verifies kind_verifies (entries_of macs.entries) a.mac (spelled other) ≡ Ok tt =
    subst (λ p. any_verifies kind_verifies (entries_of macs.entries) a.mac (spelled p) ≡ Ok tt) same.0
    (subst (λ m. any_verifies kind_verifies (entries_of macs.entries) m (spelled payload) ≡ Ok tt) same.1 accepted.accepted) in
    let two = sym one ∙ a.answered in
    cc two

pub verify_apart : (macs : Macs) (token payload : List ℕ) (kind : Kind) → VerifiesTo macs token payload → RefusesVerifying macs token kind → ⊥
verify_apart macs token payload BadToken accepted none = none payload accepted.mac accepted.is
verify_apart macs token payload MacMismatch accepted other = mismatch_apart macs token payload other.0 accepted other.1
verify_apart macs token payload _ accepted refuses = refuses

pub verify_completed : (keyset : List ℕ) (old new : Outside) (answer : Result (Unit {0}) TinkError) → TokenMeans VerifiesTo RefusesVerifying keyset old new answer
    → CompletesToken VerifiesTo RefusesVerifying keyset old new answer
verify_completed keyset old new answer means = completed VerifiesTo RefusesVerifying keyset verify_apart old new answer means
