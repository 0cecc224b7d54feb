-- What an answer says of known bytes.
use Rattle.std.proofs.Common.{◌≡◌, ◌≤◌, ◌<◌, ℕ, List, length, sym, ◌∙◌, subst, arith}
use Rattle.std.specs.Prelude.{Result, Ok, Err}
use Rattle.std.specs.Io.KnownBytes.{Appends}
use Rattle.tink_io.specs.declared.error.Kind.{Kind}
use Rattle.tink_io.specs.Outside.{Outside, AreKnown}
use Rattle.tink_io.proofs.OutsideFacts.{told_appended, told_if, told_whole}
use Rattle.tink_tokens.specs.Inputs.{input_limit, ExceedsLimit, HasInput, IsOfInput, IsReadWhole}
use Rattle.tink_tokens.specs.Tokens.{macs_of, GaveOutput, IsAnsweredWhole, Macs}

-- ---- of a keyset

module _ {L : Type 0} (loading : Result L Kind) where
  -- it has one refusal, and none where it loads
  pub one_refusal : (kind other : Kind) → loading ≡ Err kind → loading ≡ Err other → other ≡ kind
  one_refusal kind other p q = let same = sym q ∙ p in cc same

  pub never_loaded : (kind : Kind) (loaded : L) → loading ≡ Err kind → loading ≡ Ok loaded → ⊥
  never_loaded kind loaded p q = let same = sym q ∙ p in cc same

  pub one_load : (loaded other : L) → loading ≡ Ok loaded → loading ≡ Ok other → loaded ≡ other
  one_load loaded other p q = let same = sym p ∙ q in cc same

-- ---- of an input

not_both : {A : Type 0} (n : ℕ) → n ≤ input_limit → input_limit < n → A
not_both n fits long = absurd (omega (arith, fits, long))

-- known bytes that were read to their end
told_input : (old new : Outside) (T G input : List ℕ) → AreKnown old T G → HasInput old new input → T ≡ input
told_input old new T G input told has = (told_whole old.left new.left T input told.left has.read has.at_end).0

-- an input that was read is not too long
pub not_long : {A : Type 0} (old new : Outside) (T G input : List ℕ) → AreKnown old T G → HasInput old new input → input_limit < length T → A
not_long old new T G input told has long =
    not_both (length T) (subst (λ x. length x ≤ input_limit) (sym (told_input old new T G input told has)) has.fits) long

pub long_told : {A : Type 0} (old : Outside) (T G : List ℕ) → AreKnown old T G → ExceedsLimit old.left → length T ≤ input_limit → A
long_told old T G told long fits = not_both (length T) fits (told_if (λ x. input_limit < length x) old.left T told.left long)

module _ {L : Type 0} (loading : Result L Kind) (P : L → List ℕ → Type 0) where
  -- what holds of an input that was read holds of the known bytes
  pub of_told : (old new : Outside) (T G : List ℕ) → AreKnown old T G → IsOfInput loading old new P → IsReadWhole loading P T new
  of_told old new T G told m =
      let all = told_whole old.left new.left T m.input told.left m.has.read m.has.at_end in
      record {
        loaded = m.loaded;
        loads = m.loads;
        fits = subst (λ x. length x ≤ input_limit) (sym all.0) m.has.fits;
        then = subst (λ x. P m.loaded x) (sym all.0) m.then;
        at_end = all.1;
      }

  -- and of what the keyset loads as
  pub of_loaded : (old new : Outside) (T G : List ℕ) (loaded : L) → AreKnown old T G → loading ≡ Ok loaded → IsOfInput loading old new P → P loaded T
  of_loaded old new T G loaded told loads m =
      let h = of_told old new T G told m in
      subst (λ l. P l T) (one_load loading h.loaded loaded h.loads loads) h.then

-- ---- of an answer

module _ (Gives : Macs → List ℕ → List ℕ → Type 0) (Refuses : Macs → List ℕ → Kind → Type 0) (keyset : List ℕ) where
  pub answered_whole : (old new : Outside) → IsOfInput (macs_of keyset) old new (λ macs input. GaveOutput Gives macs input old new Appends)
      → (T G : List ℕ) → AreKnown old T G → IsAnsweredWhole Gives Refuses keyset T G new
  answered_whole old new m T G told =
      let h = of_told (macs_of keyset) (λ macs input. GaveOutput Gives macs input old new Appends) old new T G told m in
      record {
        macs = h.loaded;
        loads = h.loads;
        fits = h.fits;
        output = h.then.output;
        gives = h.then.gives;
        written = told_appended old.got new.got G h.then.output told.got h.then.written;
        at_end = h.at_end;
      }
