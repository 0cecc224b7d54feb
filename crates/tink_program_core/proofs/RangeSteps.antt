-- A range, from the calls to the answer.
use Rattle.std.proofs.Common.{◌≡◌, ◌⊎◌, inl, inr, ℕ, List, length, Some, refl, ap, subst, arith}
use Rattle.std.specs.Prelude.{Option, Result, Ok, Err, IfErr}
use Rattle.tink_io.specs.declared.error.Kind.{Kind}
use Rattle.tink_io.specs.declared.error.Kind.TheVariants.{OutOfMemory, ReadFault, WriteFault, BadKeyset, InvalidKeyset, UnsupportedKeyType, InvalidKey, NoPrimary, WrongPrimitive, InputTooLong, TooManySegments, NoMatchingKey, BadSegment, Truncated}
use Rattle.tink_io.specs.declared.error.TinkError.{TinkError}
use Rattle.stream_model.specs.Opening.{OpeningKey}
use Rattle.loading_model.specs.Loading.{Loaded, opening_keys}
use Rattle.tink_keyset_io.specs.Reading.{IsUnreadText}
use Rattle.tink_range.specs.ChunkReading.{Moments}
use Rattle.tink_range.specs.Giving.{Cutting, GaveAll, GaveSome, GaveUpTo}
use Rattle.tink_range.specs.KeyRanges.{IsCutUnder, RangesUnder, RangesUnderRefused}
use Rattle.tink_range.specs.RangeReading.{GavePrefixOfRange, GaveRange, RangeRefused, StopsAtLast, range_end, range_start}
use Rattle.tink_run.specs.AllKeys.{load}
use Rattle.tink_run.specs.HeldKeys.{GivesLoaded}
use Rattle.tink_io.specs.Outside.{Outside}
use Rattle.tink_run.specs.Run.{IsEarly}
use Rattle.tink_run.proofs.LoadedFacts.{load_refuses}
use Rattle.tink_rewrap.specs.SetRanges.{LeavesRangeEnds, LeavesUnwritten, RangesOf, RangesOfRefused, WritesNoRange}
use Rattle.tink_tokens.specs.Inputs.{input_limit, InputRefused, IsUnloadable, ReadsInput}
use Rattle.tink_tokens.proofs.InputSteps.{input_unread, unloaded}
use Rattle.tink_program_core.specs.Ranges.{HoldsNoInput, RangeAnswer, RefusesRange, SinkAt}

-- ---- of a sink, and of what it has got

module _ {W : Type 0} (got : W → Option (List ℕ)) (faults : W → ℕ) where
  abbrev at : W → SinkAt
  at w = record { got = got w; faults = faults w }

  abbrev got_at : SinkAt → Option (List ℕ)
  got_at s = s.got

  abbrev faults_at : SinkAt → ℕ
  faults_at s = s.faults

  abbrev told : Moments W → Moments SinkAt
  told e = record { all = e.all; reads_before = e.reads_before; reads_after = e.reads_after; old = at e.old; new = at e.new }

  module _ (c : Cutting) (behind start len : ℕ) (e : Moments W) where
    abbrev lo : ℕ
    lo = range_start c behind start

    abbrev hi : ℕ
    hi = range_end c behind start len

    gave_all : (n : ℕ) → GaveAll got faults c lo hi e n → GaveAll got_at faults_at c lo hi (told e) n
    gave_all n g = record { bytes = g.bytes; gives = g.gives; written = g.written; count = g.count }

    gave_some : (before after : ℕ) → GaveSome got faults c lo hi e before after → GaveSome got_at faults_at c lo hi (told e) before after
    gave_some before after g = record { rose = g.rose; bytes = g.bytes; gives = g.gives; written = g.written }

    gave_up_to : (n : ℕ) → GaveUpTo got faults c lo hi e n → GaveUpTo got_at faults_at c lo hi (told e) n
    gave_up_to n g = record { bytes = g.bytes; stops = g.stops; written = g.written }

    gave_range : (n : ℕ) → GaveRange got faults c behind start len e n → GaveRange got_at faults_at c behind start len (told e) n
    gave_range n g = record { few = g.few; checked = g.checked; gave = gave_all n g.gave }

    gave_front : (before after : ℕ) → GavePrefixOfRange got faults c behind start len e before after → GavePrefixOfRange got_at faults_at c behind start len (told e) before after
    unfolding gave_some
    gave_front before after g = record { few = g.few; gave = gave_some before after g.gave; checked = g.checked }

    at_last : (n : ℕ) (P : ℕ → Type 0) → StopsAtLast got faults c behind start len e n P → StopsAtLast got_at faults_at c behind start len (told e) n P
    at_last n P g = record { few = g.few; last = g.last; same = ap at g.same }

    range_refused : (kind : Kind) → RangeRefused got faults c behind start len e kind → RangeRefused got_at faults_at c behind start len (told e) kind
    range_refused ReadFault g = gave_front e.reads_before e.reads_after g
    range_refused WriteFault g = gave_front (faults e.old) (faults e.new) g
    range_refused TooManySegments g = record { many = g.many; same = ap at g.same }
    range_refused (Truncated n) g = at_last n _ g
    range_refused (BadSegment n) (inl g) = inl (at_last n _ g)
    range_refused (BadSegment n) (inr g) = inr (record { few = g.few; checked = g.checked; gave = gave_up_to n g.gave })
    range_refused _ g = absurd g

  module _ (keys : List OpeningKey) (whole start len : ℕ) (e : Moments W) where
    cut_refused : (kind : Kind) → IsCutUnder keys e.all whole (λ c behind. RangeRefused got faults c behind start len e kind)
        → IsCutUnder keys e.all whole (λ c behind. RangeRefused got_at faults_at c behind start len (told e) kind)
    cut_refused kind x = record { cutting = x.cutting; behind = x.behind; found = x.found; whole_is = x.whole_is; then = range_refused x.cutting x.behind start len e kind x.then }

    under_refused : (kind : Kind) → RangesUnderRefused got faults keys whole start len e kind → RangesUnderRefused got_at faults_at keys whole start len (told e) kind
    under_refused NoMatchingKey x = record { none = x.none; same = ap at x.same }
    under_refused ReadFault (inl x) = inl (record { rose = x.rose; same = ap at x.same })
    under_refused ReadFault (inr x) = inr (cut_refused ReadFault x)
    under_refused WriteFault x = cut_refused WriteFault x
    under_refused TooManySegments x = cut_refused TooManySegments x
    under_refused (Truncated n) x = cut_refused (Truncated n) x
    under_refused (BadSegment n) x = cut_refused (BadSegment n) x
    under_refused _ x = absurd x

    under : (n : ℕ) → RangesUnder got faults keys whole start len e (Ok n) → RangesUnder got_at faults_at keys whole start len (told e) (Ok n)
    under n x = record { cutting = x.cutting; behind = x.behind; found = x.found; whole_is = x.whole_is; then = gave_range x.cutting x.behind start len e n x.then }

-- ---- from the calls

module _ (keyset aad : List ℕ) (start len : ℕ) where
  -- a keyset that does not load
  pub keys_not_loaded : (o : Outside) (e : TinkError) → GivesLoaded (Err e) (load keyset) → RangeAnswer keyset aad start len o o (Err e)
  keys_not_loaded o e (inl want) = rw want (record { got = refl; faults = refl })
  keys_not_loaded o e (inr is) = unloaded (load keyset) (RefusesRange aad start len o o) o e.kind is (load_refuses keyset e.kind is)

  -- an input that could not be read
  pub not_read : (old new : Outside) (loaded : Loaded) (e : TinkError) → load keyset ≡ Ok loaded → new.got ≡ old.got → new.write_faults ≡ old.write_faults
      → IsUnreadText input_limit InputTooLong old.left e.kind old.read_faults new.read_faults → RangeAnswer keyset aad start len old new (Err e)
  not_read old new loaded e loads got faults unread =
      input_unread (load keyset) (RefusesRange aad start len old new) old new loaded e.kind loads (record { got = got; faults = faults }) unread

-- a range of an input
module _ (aad : List ℕ) (start len : ℕ) {W : Type 0} (got : W → Option (List ℕ)) (faults : W → ℕ) (k l : W) (loaded : Loaded) (input : List ℕ) where
  abbrev held : Moments W
  held = record { all = Some input; reads_before = 0; reads_after = 0; old = k; new = l }

  -- an input that is held never fails
  no_fault : {A : Type 0} → RangesUnderRefused got faults (opening_keys aad loaded) (length input) start len held ReadFault → A
  no_fault (inl x) = absurd (omega (arith, x.rose))
  no_fault (inr x) = absurd (omega (arith, x.then.gave.rose))

  -- of data and an object that are these
  pub of_equal : (d object : List ℕ) (answer : Result ℕ TinkError) → d ≡ aad → object ≡ input
      → RangesOf got faults (opening_keys d loaded) (length object) start len (record { all = Some object; reads_before = 0; reads_after = 0; old = k; new = l }) answer
      → RangesOf got faults (opening_keys aad loaded) (length input) start len held answer
  of_equal d object answer about same x =
      subst (λ i. RangesOf got faults (opening_keys aad loaded) (length i) start len (record { all = Some i; reads_before = 0; reads_after = 0; old = k; new = l }) answer) same
      (subst (λ a. RangesOf got faults (opening_keys a loaded) (length object) start len (record { all = Some object; reads_before = 0; reads_after = 0; old = k; new = l }) answer) about x)

  -- what is left of the ends
  sink_left : {O : Type 0} (o p : O) (kind : Kind) → RangesOfRefused got faults (opening_keys aad loaded) (length input) start len held kind
      → (IsEarly kind → (p ≡ o) × (l ≡ k)) → (WritesNoRange kind → l ≡ k) → HoldsNoInput kind ⊎ WritesNoRange kind → l ≡ k
  sink_left o p OutOfMemory x early none is = (early tt).1
  sink_left o p ReadFault x early none is = no_fault x
  sink_left o p NoMatchingKey x early none is = none tt
  sink_left o p TooManySegments x early none is = none tt
  sink_left o p (Truncated n) x early none is = none tt
  sink_left o p WriteFault x early none is = elim is [ inl held ↦ absurd held | inr written ↦ absurd written ]
  sink_left o p (BadSegment n) x early none is = elim is [ inl held ↦ absurd held | inr written ↦ absurd written ]
  sink_left o p _ x early none is = absurd x

  pub unranged : {O : Type 0} (o p : O) (answer : Result ℕ TinkError) → RangesOf got faults (opening_keys aad loaded) (length input) start len held answer
      → LeavesRangeEnds answer o p k l → LeavesUnwritten answer k l → IfErr answer (λ e. HoldsNoInput e.kind ⊎ WritesNoRange e.kind → l ≡ k)
  unranged o p (Ok n) x early none = tt
  unranged o p (Err e) x early none = sink_left o p e.kind x early none

  not_unloadable : {A : Type 0} (kind : Kind) → RangesOfRefused got faults (opening_keys aad loaded) (length input) start len held kind → IsUnloadable kind → A
  not_unloadable BadKeyset x is = absurd x
  not_unloadable InvalidKeyset x is = absurd x
  not_unloadable UnsupportedKeyType x is = absurd x
  not_unloadable InvalidKey x is = absurd x
  not_unloadable NoPrimary x is = absurd x
  not_unloadable WrongPrimitive x is = absurd x
  not_unloadable _ x is = absurd is

  pub range_unread : {O : Type 0} (o p : O) (answer : Result ℕ TinkError) → RangesOf got faults (opening_keys aad loaded) (length input) start len held answer
      → IfErr answer (λ e. IsUnloadable e.kind → p ≡ o)
  range_unread o p (Ok n) x = tt
  range_unread o p (Err e) x = λ is. not_unloadable e.kind x is

  module _ (keyset : List ℕ) (left left_after : Option (List ℕ)) (reads reads_after : ℕ) where
    abbrev before : Outside
    before = record { left = left; read_faults = reads; got = got k; write_faults = faults k }

    abbrev after : Outside
    after = record { left = left_after; read_faults = reads_after; got = got l; write_faults = faults l }

    refused : (kind : Kind) → load keyset ≡ Ok loaded → ReadsInput left left_after input → RangesOfRefused got faults (opening_keys aad loaded) (length input) start len held kind
        → InputRefused (load keyset) (RefusesRange aad start len before after) before after kind
    refused OutOfMemory loads has x = record { got = ap got x.same; faults = ap faults x.same }
    refused ReadFault loads has x = no_fault x
    refused NoMatchingKey loads has x = record { loaded = loaded; loads = loads; input = input; has = has; then = under_refused got faults (opening_keys aad loaded) (length input) start len held NoMatchingKey x }
    refused WriteFault loads has x = record { loaded = loaded; loads = loads; input = input; has = has; then = under_refused got faults (opening_keys aad loaded) (length input) start len held WriteFault x }
    refused TooManySegments loads has x = record { loaded = loaded; loads = loads; input = input; has = has; then = under_refused got faults (opening_keys aad loaded) (length input) start len held TooManySegments x }
    refused (Truncated n) loads has x = record { loaded = loaded; loads = loads; input = input; has = has; then = under_refused got faults (opening_keys aad loaded) (length input) start len held (Truncated n) x }
    refused (BadSegment n) loads has x = record { loaded = loaded; loads = loads; input = input; has = has; then = under_refused got faults (opening_keys aad loaded) (length input) start len held (BadSegment n) x }
    refused _ loads has x = absurd x

    pub ranged : (answer : Result ℕ TinkError) → load keyset ≡ Ok loaded → ReadsInput left left_after input → RangesOf got faults (opening_keys aad loaded) (length input) start len held answer
        → RangeAnswer keyset aad start len before after answer
    ranged (Ok n) loads has x = record { loaded = loaded; loads = loads; input = input; has = has; then = under got faults (opening_keys aad loaded) (length input) start len held n x }
    ranged (Err e) loads has x = refused e.kind loads has x

-- an input that could not be read is refused by no kind by which a keyset does not load
pub unread_late : {A : Type 0} (left : Option (List ℕ)) (kind : Kind) (m n : ℕ) → IsUnreadText input_limit InputTooLong left kind m n → IsUnloadable kind → A
unread_late left kind m n (inl (inl want)) is = absurd (subst (λ k. IsUnloadable k) want is)
unread_late left kind m n (inl (inr fault)) is = absurd (subst (λ k. IsUnloadable k) fault.0 is)
unread_late left kind m n (inr long) is = absurd (subst (λ k. IsUnloadable k) long.0 is)
