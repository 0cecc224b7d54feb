-- What a command that holds its input says by its answer, it says by its status.
use Rattle.std.proofs.Common.{◌≡◌, ◌⊎◌, inl, inr, ◌≤◌, ℕ, List, length, true, refl, ap, arith}
use Rattle.std.specs.Prelude.{Result, Ok, Err}
use Rattle.tink_io.specs.Faults.{Rose}
use Rattle.tink_io.specs.declared.error.Kind.{Kind}
use Rattle.tink_io.specs.declared.error.Kind.TheVariants.{OutOfMemory, ReadFault, WriteFault, BadKeyset, InvalidKeyset, UnsupportedKeyType, InvalidKey, NoPrimary, WrongPrimitive, UnsupportedHash, UnknownTemplate, NoFreshId, InputTooLong}
use Rattle.tink_io.specs.Outside.{Outside, HasNoFault, AreKnown}
use Rattle.tink_tokens.specs.Inputs.{input_limit, HasTooMuch, InputRefused, IsOfInput, IsUnloadable, IsUnwritten, LeavesSink}
use Rattle.tink_tokens.proofs.ToldLemmas.{long_told, never_loaded, not_long, one_refusal}
use Rattle.tink_io.specs.Statuses.{kind_status}
use Rattle.tink_program_core.specs.Program.{own_statuses, reads_first, refused_statuses, IsAmong, IsCause, IsEarlyKind, IsUnusableBy}
use Rattle.tink_program_core.specs.Words.{Asked}
use Rattle.tink_program_core.proofs.StatusLemmas.{above_2, CommandFacts}

module _ {L : Type 0} (loading : Result L Kind) (Refuses : Outside → Outside → L → List ℕ → Kind → Type 0)
    (late : (old new : Outside) (loaded : L) (input : List ℕ) (kind : Kind) → Refuses old new loaded input kind → IsEarlyKind kind → ⊥)
    (rose : (old new : Outside) (loaded : L) (input : List ℕ) → Refuses old new loaded input WriteFault → Rose old.write_faults new.write_faults) where
  -- ---- what is left as it was

  -- an input that was read is refused by no early kind
  pub early : (old new : Outside) (kind : Kind) → InputRefused loading (Refuses old new) old new kind → IsEarlyKind kind → IsUnloadable kind
  early old new UnsupportedHash m is = absurd (late old new m.loaded m.input UnsupportedHash m.then is)
  early old new UnknownTemplate m is = absurd (late old new m.loaded m.input UnknownTemplate m.then is)
  early old new NoFreshId m is = absurd (late old new m.loaded m.input NoFreshId m.then is)
  early old new _ m is = is

  pub refusal_leaves : {S K : Type 0} (old new : Outside) (kind : Kind) (s t : S) (k l : K) → InputRefused loading (Refuses old new) old new kind
      → (IsUnloadable kind → t ≡ s) → (IsUnwritten kind → l ≡ k)
      → (IsEarlyKind kind → t ≡ s) × (IsUnwritten kind → l ≡ k) × (kind ≡ OutOfMemory → (true ≡ true) ⊎ (t ≡ s))
  refusal_leaves old new kind s t k l m unread unwritten = (
    λ is. unread (early old new kind m is),
    unwritten,
    λ _. inl refl,
  )

  -- ---- what a status says

  -- what a keyset gets that does not load
  unloaded : (old new : Outside) (kind other : Kind) → loading ≡ Err kind → InputRefused loading (Refuses old new) old new other
      → (kind_status other ≡ kind_status kind) ⊎ (kind_status other ≡ 10)
  unloaded old new kind OutOfMemory is m = inr refl
  unloaded old new kind BadKeyset is m = inl (ap kind_status (one_refusal loading kind BadKeyset is m.cause))
  unloaded old new kind InvalidKeyset is m = inl (ap kind_status (one_refusal loading kind InvalidKeyset is m.cause))
  unloaded old new kind UnsupportedKeyType is m = inl (ap kind_status (one_refusal loading kind UnsupportedKeyType is m.cause))
  unloaded old new kind InvalidKey is m = inl (ap kind_status (one_refusal loading kind InvalidKey is m.cause))
  unloaded old new kind NoPrimary is m = inl (ap kind_status (one_refusal loading kind NoPrimary is m.cause))
  unloaded old new kind WrongPrimitive is m = inl (ap kind_status (one_refusal loading kind WrongPrimitive is m.cause))
  unloaded old new kind ReadFault is m = absurd (never_loaded loading kind m.0.0 is m.0.1)
  unloaded old new kind InputTooLong is m = absurd (never_loaded loading kind m.0.0 is m.0.1)
  unloaded old new kind _ is m = absurd (never_loaded loading kind m.loaded is m.loads)

  caused : (old new : Outside) (kind : Kind) → InputRefused loading (Refuses old new) old new kind → IsAmong refused_statuses (kind_status kind) → loading ≡ Err kind
  caused old new BadKeyset m among = m.cause
  caused old new InvalidKeyset m among = m.cause
  caused old new UnsupportedKeyType m among = m.cause
  caused old new InvalidKey m among = m.cause
  caused old new NoPrimary m among = m.cause
  caused old new WrongPrimitive m among = m.cause
  caused old new UnknownTemplate m among = absurd (late old new m.loaded m.input UnknownTemplate m.then tt)
  caused old new NoFreshId m among = absurd (late old new m.loaded m.input NoFreshId m.then tt)
  caused old new _ m among = absurd (cc among)

  want_cause : (old new : Outside) (kind : Kind) → InputRefused loading (Refuses old new) old new kind → kind_status kind ≡ 10 → LeavesSink old new
  want_cause old new OutOfMemory m is = m
  want_cause old new _ m is = absurd (omega (arith, is))

  read_cause : (old new : Outside) (kind : Kind) → InputRefused loading (Refuses old new) old new kind → kind_status kind ≡ 11 → Rose old.read_faults new.read_faults
  read_cause old new ReadFault m is = m.2
  read_cause old new _ m is = absurd (omega (arith, is))

  write_cause : (old new : Outside) (kind : Kind) → InputRefused loading (Refuses old new) old new kind → kind_status kind ≡ 12 → Rose old.write_faults new.write_faults
  write_cause old new WriteFault m is = rose old new m.loaded m.input m.then
  write_cause old new _ m is = absurd (omega (arith, is))

  -- of a command whose keyset is unusable exactly where this does not load
  module _ (a : Asked) (unusable : (kind : Kind) → IsUnusableBy a kind → loading ≡ Err kind) (because : (kind : Kind) → loading ≡ Err kind → IsCause a kind) (reads : reads_first a ≡ true) where
    pub refusal_facts : (own : (old new : Outside) (kind : Kind) → InputRefused loading (Refuses old new) old new kind → IsAmong (own_statuses a) (kind_status kind))
        → (old new : Outside) (kind : Kind) → InputRefused loading (Refuses old new) old new kind → CommandFacts a old new (kind_status kind)
    refusal_facts own old new kind m = record {
      not_usage = λ is. absurd (omega (arith, is, above_2 kind));
      own = own old new kind m;
      refused = λ by is. unloaded old new by kind (unusable by is) m;
      cause = λ among. (kind, refl, because kind (caused old new kind m among));
      want = λ is. (want_cause old new kind m is, inl reads);
      read_fault = read_cause old new kind m;
      write_fault = write_cause old new kind m;
    }

    pub done_facts : IsAmong (own_statuses a) 0 → (loaded : L) → loading ≡ Ok loaded → (old new : Outside) → CommandFacts a old new 0
    done_facts own loaded loads old new = record {
      not_usage = λ is. cc is;
      own = own;
      refused = λ kind is. absurd (never_loaded loading kind loaded (unusable kind is) loads);
      cause = λ among. absurd (cc among);
      want = λ is. absurd (omega (arith, is));
      read_fault = λ is. absurd (omega (arith, is));
      write_fault = λ is. absurd (omega (arith, is));
    }

  -- ---- what a status promises

  -- where neither end fails, a keyset loads and the input fits, a refusal is the input's own
  pub refused_told : (old new : Outside) (kind : Kind) (T G : List ℕ) (loaded : L) → InputRefused loading (Refuses old new) old new kind → AreKnown old T G → HasNoFault old new
      → loading ≡ Ok loaded → length T ≤ input_limit → (kind_status kind ≡ 10) ⊎ IsOfInput loading old new (λ l input. Refuses old new l input kind)
  refused_told old new OutOfMemory T G loaded m told faultless loads fits = inl refl
  refused_told old new BadKeyset T G loaded m told faultless loads fits = absurd (never_loaded loading BadKeyset loaded m.cause loads)
  refused_told old new InvalidKeyset T G loaded m told faultless loads fits = absurd (never_loaded loading InvalidKeyset loaded m.cause loads)
  refused_told old new UnsupportedKeyType T G loaded m told faultless loads fits = absurd (never_loaded loading UnsupportedKeyType loaded m.cause loads)
  refused_told old new InvalidKey T G loaded m told faultless loads fits = absurd (never_loaded loading InvalidKey loaded m.cause loads)
  refused_told old new NoPrimary T G loaded m told faultless loads fits = absurd (never_loaded loading NoPrimary loaded m.cause loads)
  refused_told old new WrongPrimitive T G loaded m told faultless loads fits = absurd (never_loaded loading WrongPrimitive loaded m.cause loads)
  refused_told old new ReadFault T G loaded m told faultless loads fits = absurd (faultless.reads m.2)
  refused_told old new InputTooLong T G loaded m told faultless loads fits = long_told old T G told m.2 fits
  refused_told old new WriteFault T G loaded m told faultless loads fits = absurd (faultless.writes (rose old new m.loaded m.input m.then))
  refused_told old new _ T G loaded m told faultless loads fits = inr m

  -- an input that is too long
  pub too_long : (old new : Outside) (kind : Kind) (T G : List ℕ) → InputRefused loading (Refuses old new) old new kind → AreKnown old T G → HasNoFault old new → HasTooMuch loading T
      → (kind_status kind ≡ 26) ⊎ (kind_status kind ≡ 10)
  too_long old new OutOfMemory T G m told faultless much = inr refl
  too_long old new BadKeyset T G m told faultless much = absurd (never_loaded loading BadKeyset much.loads.0 m.cause much.loads.1)
  too_long old new InvalidKeyset T G m told faultless much = absurd (never_loaded loading InvalidKeyset much.loads.0 m.cause much.loads.1)
  too_long old new UnsupportedKeyType T G m told faultless much = absurd (never_loaded loading UnsupportedKeyType much.loads.0 m.cause much.loads.1)
  too_long old new InvalidKey T G m told faultless much = absurd (never_loaded loading InvalidKey much.loads.0 m.cause much.loads.1)
  too_long old new NoPrimary T G m told faultless much = absurd (never_loaded loading NoPrimary much.loads.0 m.cause much.loads.1)
  too_long old new WrongPrimitive T G m told faultless much = absurd (never_loaded loading WrongPrimitive much.loads.0 m.cause much.loads.1)
  too_long old new ReadFault T G m told faultless much = absurd (faultless.reads m.2)
  too_long old new InputTooLong T G m told faultless much = inl refl
  too_long old new _ T G m told faultless much = not_long old new T G m.input told m.has much.long
