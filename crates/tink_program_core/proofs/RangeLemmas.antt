-- What a range says by its answer, it says by its status.
use Rattle.std.proofs.Common.{◌≡◌, ◌⊎◌, inl, inr, ◌≤◌, ◌+◌, ℕ, List, length, true, Some, refl, subst, arith}
use Rattle.std.specs.Prelude.{Option, Result, Ok, Err, IfErr}
use Rattle.tink_io.specs.Faults.{Rose}
use Rattle.tink_io.specs.declared.error.Kind.{Kind}
use Rattle.tink_io.specs.declared.error.Kind.TheVariants.{OutOfMemory, ReadFault, WriteFault, BadKeyset, InvalidKeyset, UnsupportedKeyType, InvalidKey, NoPrimary, WrongPrimitive, TooManySegments, NoMatchingKey, BadSegment, Truncated, InputTooLong}
use Rattle.tink_io.specs.declared.error.TinkError.{TinkError}
use Rattle.stream_model.specs.Opening.{IsChosen, IsStream}
use Rattle.loading_model.specs.Loading.{Loaded, opening_keys}
use Rattle.tink_io.specs.Taken.{LosesAtMost}
use Rattle.tink_range.proofs.StreamRanges.{gives_slice, under_not_refused}
use Rattle.tink_run.specs.AllKeys.{load}
use Rattle.tink_io.specs.Outside.{Outside, HasNoFault, AreKnown}
use Rattle.tink_run.specs.Run.{CanOpen}
use Rattle.tink_run.proofs.OpenLemmas.{chosen_lawful}
use Rattle.tink_io.proofs.OutsideFacts.{told_appended}
use Rattle.tink_rewrap.specs.KeysetRanges.{GivesSlice}
use Rattle.tink_rewrap.specs.SetRanges.{WritesNoRange}
use Rattle.tink_tokens.specs.Inputs.{input_limit, InputRefused, IsOfInput, IsUnloadable}
use Rattle.tink_tokens.proofs.ToldLemmas.{not_long, of_loaded, of_told, one_load}
use Rattle.tink_io.specs.Statuses.{kind_status}
use Rattle.tink_program_core.specs.Program.{answer_outcome, own_statuses, status_of, IsAmong, IsEarlyKind, IsUnwrittenBy, Leaves}
use Rattle.tink_program_core.specs.Ranges.{HoldsNoInput, IsRangeWhole, RangeAnswer, RangeOutcome, RangePromises, RangesInput, RefusesRange, SinkAt, StopsRange, moments_of}
use Rattle.tink_program_core.specs.Words.Asked.{Ranging}
use Rattle.tink_program_core.specs.declared.outcomes.Outcome.{Outcome}
use Rattle.tink_program_core.specs.declared.outcomes.Outcome.TheVariants.{Done, Usage, Refused}
use Rattle.tink_program_core.proofs.InputLemmas.{done_facts, early, refusal_facts, refused_told, too_long}
use Rattle.tink_program_core.proofs.StatusLemmas.{above_2, CommandFacts}

abbrev got_at : SinkAt → Option (List ℕ)
got_at s = s.got

abbrev faults_at : SinkAt → ℕ
faults_at s = s.faults

module _ (keyset aad : List ℕ) (start len : ℕ) where
  abbrev refuses : Outside → Outside → Loaded → List ℕ → Kind → Type 0
  refuses old new loaded input kind = RefusesRange aad start len old new loaded input kind

  -- an early kind is none by which a range of an input is refused
  late : (old new : Outside) (loaded : Loaded) (input : List ℕ) (kind : Kind) → RefusesRange aad start len old new loaded input kind → IsEarlyKind kind → ⊥
  late old new loaded input NoMatchingKey r is = is
  late old new loaded input ReadFault r is = is
  late old new loaded input WriteFault r is = is
  late old new loaded input TooManySegments r is = is
  late old new loaded input (Truncated n) r is = is
  late old new loaded input (BadSegment n) r is = is
  late old new loaded input _ r is = r

  rose : (old new : Outside) (loaded : Loaded) (input : List ℕ) → RefusesRange aad start len old new loaded input WriteFault → Rose old.write_faults new.write_faults
  rose old new loaded input r = r.then.gave.rose

  pub range_outcome : (old new : Outside) (answer : Result ℕ TinkError) → RangeAnswer keyset aad start len old new answer → RangeOutcome keyset aad start len old new (answer_outcome answer)
  range_outcome old new (Ok n) m = (n, m)
  range_outcome old new (Err e) m = m

  -- where nothing was written, no input was held, or no range of it was written
  held : (old new : Outside) (kind : Kind) → InputRefused (load keyset) (RefusesRange aad start len old new) old new kind
      → IsUnwrittenBy (Ranging keyset aad start len) kind → HoldsNoInput kind ⊎ WritesNoRange kind
  held old new OutOfMemory m none = inl tt
  held old new BadKeyset m none = inl tt
  held old new InvalidKeyset m none = inl tt
  held old new UnsupportedKeyType m none = inl tt
  held old new InvalidKey m none = inl tt
  held old new NoPrimary m none = inl tt
  held old new WrongPrimitive m none = inl tt
  held old new ReadFault m none = inl tt
  held old new InputTooLong m none = inl tt
  held old new NoMatchingKey m none = inr tt
  held old new TooManySegments m none = inr tt
  held old new (Truncated n) m none = inr tt
  held old new WriteFault m none = elim none [ inl is ↦ absurd is | inr is ↦ is ]
  held old new (BadSegment n) m none = elim none [ inl is ↦ absurd is | inr is ↦ is ]
  held old new _ m none = absurd m.then

  -- what an outcome leaves of the ends themselves
  pub range_leaves : {S K : Type 0} (old new : Outside) (answer : Result ℕ TinkError) (s t : S) (k l : K) → RangeAnswer keyset aad start len old new answer
      → IfErr answer (λ e. IsUnloadable e.kind → t ≡ s) → IfErr answer (λ e. HoldsNoInput e.kind ⊎ WritesNoRange e.kind → l ≡ k)
      → Leaves true (λ kind. IsUnwrittenBy (Ranging keyset aad start len) kind) (answer_outcome answer) s t k l
  range_leaves old new (Ok n) s t k l m unread unwritten = tt
  range_leaves old new (Err e) s t k l m unread unwritten = (
    λ is. unread (early (load keyset) refuses late rose old new e.kind m is),
    λ none. unwritten (held old new e.kind m none),
    λ _. inl refl,
  )

  -- ---- what a status says

  own : (old new : Outside) (kind : Kind) → InputRefused (load keyset) (RefusesRange aad start len old new) old new kind → IsAmong (own_statuses (Ranging keyset aad start len)) (kind_status kind)
  own old new OutOfMemory m = refl
  own old new BadKeyset m = refl
  own old new InvalidKeyset m = refl
  own old new UnsupportedKeyType m = refl
  own old new InvalidKey m = refl
  own old new NoPrimary m = refl
  own old new WrongPrimitive m = refl
  own old new ReadFault m = refl
  own old new InputTooLong m = refl
  own old new NoMatchingKey m = refl
  own old new WriteFault m = refl
  own old new TooManySegments m = refl
  own old new (Truncated n) m = refl
  own old new (BadSegment n) m = refl
  own old new _ m = absurd m.then

  pub range_facts : (old new : Outside) (outcome : Outcome) → RangeOutcome keyset aad start len old new outcome → CommandFacts (Ranging keyset aad start len) old new (status_of outcome)
  range_facts old new Done m =
      done_facts (load keyset) refuses late rose (Ranging keyset aad start len) (λ kind is. is) (λ kind is. is) refl refl m.1.loaded m.1.loads old new
  range_facts old new Usage m = absurd m
  range_facts old new (Refused kind) m =
      refusal_facts (load keyset) refuses late rose (Ranging keyset aad start len) (λ kind is. is) (λ kind is. is) refl own old new kind m

  -- ---- what a status promises

  -- of a stream of the chosen key that slice of its text was written
  slice : (T : List ℕ) (old new : Outside) (n : ℕ) (loaded : Loaded) → load keyset ≡ Ok loaded → RangesInput aad start len old new loaded T (Ok n)
      → GivesSlice got_at keyset aad start len (moments_of T old new) n
  slice T old new n loaded loads r = λ S G l key texts told got loads_l chosen stream.
      let same : l ≡ loaded = one_load (load keyset) l loaded loads_l loads in
      let all : S ≡ T = cc told in
      let here : IsChosen (opening_keys aad loaded) T (Some key) = subst (λ x. IsChosen (opening_keys aad loaded) x (Some key)) all (subst (λ x. IsChosen (opening_keys aad x) S (Some key)) same chosen) in
      let gave = gives_slice got_at faults_at (opening_keys aad loaded) (length T) start len (moments_of T old new) T key texts refl refl here
      (chosen_lawful keyset aad T loaded key loads here) (subst (λ x. IsStream key x texts) all stream) n r in
      record { written = told_appended old.got new.got G _ got gave.0; count = gave.1 }

  whole : (old new : Outside) (n : ℕ) → IsOfInput (load keyset) old new (λ loaded input. RangesInput aad start len old new loaded input (Ok n)) → (T G : List ℕ) → AreKnown old T G
      → IsRangeWhole keyset aad start len T old new
  whole old new n m T G told =
      let h = of_told (load keyset) (λ loaded input. RangesInput aad start len old new loaded input (Ok n)) old new T G told m in
      record { count = n; read = h; slice = slice T old new n h.loaded h.loads h.then }

  stopped : (old new : Outside) (kind : Kind) → InputRefused (load keyset) (RefusesRange aad start len old new) old new kind → (T G : List ℕ) → AreKnown old T G → kind_status kind ≡ 22
      → (n : ℕ) × StopsRange keyset aad start len n T old new
  stopped old new (BadSegment n) m T G told is = (n, of_told (load keyset) (λ loaded input. RefusesRange aad start len old new loaded input (BadSegment n)) old new T G told m)
  stopped old new _ m T G told is = absurd (omega (arith, is))

  succeeds : (old new : Outside) (kind : Kind) → InputRefused (load keyset) (RefusesRange aad start len old new) old new kind → (T G : List ℕ) → AreKnown old T G → HasNoFault old new
      → CanOpen keyset aad T → length T ≤ input_limit → kind_status kind ≡ 10
  succeeds old new kind m T G told faultless can fits =
      elim (refused_told (load keyset) refuses late rose old new kind T G can.loaded m told faultless can.loads fits) [
        | inl want ↦ want
        | inr h ↦ absurd (under_not_refused got_at faults_at (opening_keys aad can.loaded) (length T) start len (moments_of T old new) T can.key can.texts refl refl can.chosen
            (chosen_lawful keyset aad T can.loaded can.key can.loads can.chosen) can.stream (λ reads. omega (arith, reads)) faultless.writes kind
            (of_loaded (load keyset) (λ loaded input. RefusesRange aad start len old new loaded input kind) old new T G can.loaded told can.loads h))
      ]

  pub range_promised : (old new : Outside) (outcome : Outcome) → RangeOutcome keyset aad start len old new outcome → LosesAtMost (input_limit + 1) old.left new.left
      → RangePromises keyset aad start len kind_status old new (status_of outcome)
  range_promised old new Done m taken = record {
    whole = λ T G told _. whole old new m.0 m.1 T G told;
    stopped = λ T G told is. absurd (omega (arith, is));
    succeeds = λ _ _ _ _ _ _. inl refl;
    long = λ T G told _ much. not_long old new T G m.1.input told m.1.has much.long;
    taken = taken;
  }
  range_promised old new Usage m taken = absurd m
  range_promised old new (Refused kind) m taken = record {
    whole = λ T G told is. absurd (omega (arith, is, above_2 kind));
    stopped = λ T G told is. stopped old new kind m T G told is;
    succeeds = λ T G told faultless can fits. inr (succeeds old new kind m T G told faultless can fits);
    long = λ T G told faultless much. too_long (load keyset) refuses late rose old new kind T G m told faultless much;
    taken = taken;
  }
