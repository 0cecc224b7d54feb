-- From a start and a range to a range under keys.
use Rattle.std.proofs.Common.{◌≡◌, inl, inr, ◌≤◌, ◌+◌, ◌-◌, ◌*◌, ◌/◌, ℕ, List, length, map, refl, sym, ap, subst, ◌∙◌, arith, Some, None, IfSome}
use Rattle.std.specs.Prelude.{Result, Ok, Err}
use Rattle.std.proofs.lemmas.List.{length-map}
use Rattle.std.specs.declared.option.Option.{Option}
use Rattle.tink_io.proofs.FaultLemmas.{Rose-earlier}
use Rattle.tink_io.specs.declared.error.Kind.{Kind}
use Rattle.tink_io.specs.declared.error.Kind.TheVariants.{BadSegment, NoMatchingKey, ReadFault, TooManySegments, Truncated, WriteFault}
use Rattle.tink_io.specs.declared.error.TinkError.{TinkError}
use Rattle.stream_model.specs.Opening.{IsChosen, OpeningKey}
use Rattle.tink_streaming_io.specs.Choosing.{Found, StartRefused}
use Rattle.tink_range.specs.ChunkReading.{Moments}
use Rattle.tink_range.specs.Giving.{Cutting}
use Rattle.tink_range.specs.KeyRanges.{IsCutUnder, RangesUnder, RangesUnderRefused, TakesRangeSteps, range_steps}
use Rattle.tink_range.specs.ReadCounts.{TakesRangeBytes}
use Rattle.tink_range.specs.StreamSizes.{SizesRefused}
use Rattle.tink_range.specs.RangeReading.{EndRefused, GaveRange, RangeMeans, RangeRefused, range_end, range_start}

module _ {W : Type 0} (got : W → Option (List ℕ)) (faults : W → ℕ) (c : Cutting) (behind start len : ℕ) (e : Moments W) (then : ℕ) (before : e.reads_before ≤ then) where
  gave_earlier : (n : ℕ) → GaveRange got faults c behind start len (record e { reads_before = then }) n → GaveRange got faults c behind start len e n
  gave_earlier n r = record {
    few = r.few;
    checked = r.checked;
    gave = record { bytes = r.gave.bytes; gives = r.gave.gives; written = r.gave.written; count = r.gave.count };
  }

  -- a refusal that was so from a later moment on
  refused_earlier : (kind : Kind) → RangeRefused got faults c behind start len (record e { reads_before = then }) kind → RangeRefused got faults c behind start len e kind
  refused_earlier ReadFault r = record {
    few = r.few;
    gave = record { rose = Rose-earlier _ _ _ before r.gave.rose; bytes = r.gave.bytes; gives = r.gave.gives; written = r.gave.written };
    checked = r.checked;
  }
  refused_earlier WriteFault r = record {
    few = r.few;
    gave = record { rose = r.gave.rose; bytes = r.gave.bytes; gives = r.gave.gives; written = r.gave.written };
    checked = r.checked;
  }
  refused_earlier TooManySegments r = record { many = r.many; same = r.same }
  refused_earlier (Truncated n) r = record { few = r.few; last = r.last; same = r.same }
  refused_earlier (BadSegment n) (inl r) = inl (record { few = r.few; last = r.last; same = r.same })
  refused_earlier (BadSegment n) (inr r) = inr (record {
    few = r.few;
    checked = r.checked;
    gave = record { bytes = r.gave.bytes; stops = r.gave.stops; written = r.gave.written };
  })
  refused_earlier _ r = absurd r

  module _ (keys : List OpeningKey) (whole : ℕ) (whole_is : c.front + behind ≡ whole) (found : IfSome e.all (λ S. Found keys S c.seg c.front c.first c.size c.over)) where
    refused_under : (kind : Kind) → RangeRefused got faults c behind start len (record e { reads_before = then }) kind → RangesUnderRefused got faults keys whole start len e kind
    refused_under ReadFault r = inr (record { cutting = c; behind = behind; found = found; whole_is = whole_is; then = refused_earlier ReadFault r })
    refused_under WriteFault r = record { cutting = c; behind = behind; found = found; whole_is = whole_is; then = refused_earlier WriteFault r }
    refused_under TooManySegments r = record { cutting = c; behind = behind; found = found; whole_is = whole_is; then = refused_earlier TooManySegments r }
    refused_under (Truncated n) r = record { cutting = c; behind = behind; found = found; whole_is = whole_is; then = refused_earlier (Truncated n) r }
    refused_under (BadSegment n) r = record { cutting = c; behind = behind; found = found; whole_is = whole_is; then = refused_earlier (BadSegment n) r }
    refused_under _ r = absurd r

    -- what a range answers behind the front of the chosen key
    pub under_key : (r : Result ℕ TinkError) → RangeMeans got faults c behind start len (record e { reads_before = then }) r → RangesUnder got faults keys whole start len e r
    under_key (Ok n) r = record { cutting = c; behind = behind; found = found; whole_is = whole_is; then = gave_earlier n r }
    under_key (Err error) r = refused_under error.kind r

-- what a range answers behind the front of the chosen key, whose start left the bytes as they were
pub under_chosen : {W : Type 0} (got : W → Option (List ℕ)) (faults : W → ℕ) (c : Cutting) (behind start len : ℕ) (e : Moments W) (then : ℕ) (known : Option (List ℕ)) (keys : List OpeningKey) (whole : ℕ) (r : Result ℕ TinkError) → e.reads_before ≤ then → known ≡ e.all
    → c.front + behind ≡ whole → IfSome e.all (λ S. Found keys S c.seg c.front c.first c.size c.over)
    → RangeMeans got faults c behind start len (record { all = known; reads_before = then; reads_after = e.reads_after; old = e.old; new = e.new }) r → RangesUnder got faults keys whole start len e r
under_chosen got faults c behind start len e then known keys whole r before told whole_is found m =
    under_key got faults c behind start len e then before keys whole whole_is found r
    (subst (λ (all : Option (List ℕ)). RangeMeans got faults c behind start len (record { all = all; reads_before = then; reads_after = e.reads_after; old = e.old; new = e.new }) r) told m)

-- the steps of a start and of the range
pub takes_steps : (c : Cutting) (behind start len old mid new n whole : ℕ) (all : Option (List ℕ)) (keys : List OpeningKey) → n ≡ length keys → c.front + behind ≡ whole → IfSome all (λ S. Found keys S c.seg c.front c.first c.size c.over)
    → mid ≤ old + n → new ≤ mid + (range_end c behind start len - range_start c behind start + (c.size - c.over) - 1) / (c.size - c.over) + 2 → TakesRangeSteps keys all whole start len old new
takes_steps c behind start len old mid new n whole all keys count whole_is found tried given =
    inr (record {
      cutting = c;
      behind = behind;
      found = found;
      whole_is = whole_is;
      then = added old mid new n (length keys) ((range_end c behind start len - range_start c behind start + (c.size - c.over) - 1) / (c.size - c.over)) count tried given;
    })
  where
    added : (old mid new n m q : ℕ) → n ≡ m → mid ≤ old + n → new ≤ mid + q + 2 → new ≤ old + m + (q + 2)
    added old mid new n m q count tried given = omega arith

-- a start that is refused takes a step for each key at most
pub few_steps : {T : Type 0} (of : T → OpeningKey) (ks : List T) (all : Option (List ℕ)) (whole start len before now : ℕ) → now ≤ before + length ks → TakesRangeSteps (map of ks) all whole start len before now
few_steps of ks all whole start len before now few = inl (subst (λ (n : ℕ). now ≤ before + n) (sym (length-map ks of)) few)

-- and nothing was written
pub start_refused : {W : Type 0} (got : W → Option (List ℕ)) (faults : W → ℕ) (keys : List OpeningKey) (whole start len : ℕ) (all : Option (List ℕ)) (before after : ℕ) (w : W) (kind : Kind) → StartRefused keys all before after kind
    → RangesUnderRefused got faults keys whole start len (record { all = all; reads_before = before; reads_after = after; old = w; new = w }) kind
start_refused got faults keys whole start len all before after w NoMatchingKey h = record { none = h; same = refl }
start_refused got faults keys whole start len all before after w ReadFault h = inl (record { rose = h; same = refl })
start_refused got faults keys whole start len all before after w _ h = absurd h

if_told : (o : Option (List ℕ)) (P Q : List ℕ → Type 0) → ((S : List ℕ) → P S → Q S) → IfSome o P → IfSome o Q
if_told None P Q f h = tt
if_told (Some S) P Q f h = f S h

-- where the same key is chosen of as many other keys
pub steps_by_others : (ks js : List OpeningKey) (all : Option (List ℕ)) (whole start len before now : ℕ) → length ks ≡ length js → ((S : List ℕ) (chosen : Option OpeningKey) → IsChosen ks S chosen → IsChosen js S chosen)
    → TakesRangeSteps ks all whole start len before now → TakesRangeSteps js all whole start len before now
steps_by_others ks js all whole start len before now count same (inl few) = inl (omega (arith, count, few))
steps_by_others ks js all whole start len before now count same (inr r) =
    inr (record {
      cutting = r.cutting;
      behind = r.behind;
      found = if_told all _ _ (λ S f. record { key = f.key; chosen = same S (Some f.key) f.chosen; opener = f.opener }) r.found;
      whole_is = r.whole_is;
      then = subst (λ (n : ℕ). now ≤ before + n + range_steps r.cutting r.behind start len) count r.then;
    })

-- and as much is read for each of them
pub bytes_by_others : (ks js : List OpeningKey) (all : Option (List ℕ)) (whole start len room most before now : ℕ) → length ks ≡ length js → room ≡ most → ((S : List ℕ) (chosen : Option OpeningKey) → IsChosen ks S chosen → IsChosen js S chosen)
    → TakesRangeBytes ks all whole start len room before now → TakesRangeBytes js all whole start len most before now
bytes_by_others ks js all whole start len room most before now count larger same takes = go takes
  where
    total : length ks * room ≡ length js * most
    total = ap (λ (n : ℕ). n * room) count ∙ ap (λ (n : ℕ). length js * n) larger

    go : TakesRangeBytes ks all whole start len room before now → TakesRangeBytes js all whole start len most before now
    go (inl few) = inl (subst (λ (n : ℕ). now ≤ before + n) total few)
    go (inr r) =
        inr (record {
          cutting = r.cutting;
          behind = r.behind;
          found = if_told all _ _ (λ S f. record { key = f.key; chosen = same S (Some f.key) f.chosen; opener = f.opener }) r.found;
          whole_is = r.whole_is;
          then = subst (λ (n : ℕ). now ≤ before + n + range_steps r.cutting r.behind start len * r.cutting.size) total r.then;
        })

-- where the same key is chosen of other keys, it cuts the same
pub cut_by_others : (ks js : List OpeningKey) (all : Option (List ℕ)) (whole : ℕ) (P Q : Cutting → ℕ → Type 0) → ((S : List ℕ) (chosen : Option OpeningKey) → IsChosen ks S chosen → IsChosen js S chosen)
    → ((c : Cutting) (behind : ℕ) → P c behind → Q c behind) → IsCutUnder ks all whole P → IsCutUnder js all whole Q
cut_by_others ks js all whole P Q same further r = record {
  cutting = r.cutting;
  behind = r.behind;
  found = if_told all _ _ (λ S f. record { key = f.key; chosen = same S (Some f.key) f.chosen; opener = f.opener }) r.found;
  whole_is = r.whole_is;
  then = further r.cutting r.behind r.then;
}

module _ {W : Type 0} (got : W → Option (List ℕ)) (faults : W → ℕ) (ks js : List OpeningKey) (whole start len : ℕ) (e : Moments W) (same : (S : List ℕ) (chosen : Option OpeningKey) → IsChosen ks S chosen → IsChosen js S chosen) where
  cut_same : (P : Cutting → ℕ → Type 0) → IsCutUnder ks e.all whole P → IsCutUnder js e.all whole P
  cut_same P r = cut_by_others ks js e.all whole P P same (λ c behind x. x) r

  pub refused_by_others : (kind : Kind) → RangesUnderRefused got faults ks whole start len e kind → RangesUnderRefused got faults js whole start len e kind
  refused_by_others NoMatchingKey r = record { none = if_told e.all _ _ (λ S. same S None) r.none; same = r.same }
  refused_by_others ReadFault (inl r) = inl (record { rose = r.rose; same = r.same })
  refused_by_others ReadFault (inr r) = inr (cut_same _ r)
  refused_by_others WriteFault r = cut_same _ r
  refused_by_others TooManySegments r = cut_same _ r
  refused_by_others (Truncated n) r = cut_same _ r
  refused_by_others (BadSegment n) r = cut_same _ r
  refused_by_others _ r = absurd r

  pub ranges_by_others : (r : Result ℕ TinkError) → RangesUnder got faults ks whole start len e r → RangesUnder got faults js whole start len e r
  ranges_by_others (Ok n) r = cut_same _ r
  ranges_by_others (Err error) r = refused_by_others error.kind r

-- the end of the chunks by which the chosen key cuts an object is refused
pub sizes_refused : (keys : List OpeningKey) (all known : Option (List ℕ)) (whole before mid after : ℕ) (c : Cutting) (behind : ℕ) (kind : Kind) → before ≤ mid → known ≡ all → c.front + behind ≡ whole
    → IfSome all (λ S. Found keys S c.seg c.front c.first c.size c.over) → EndRefused c behind known mid after kind → SizesRefused keys all whole before after kind
sizes_refused keys all known whole before mid after c behind kind earlier told whole_is found r =
    go kind (subst (λ (k : Option (List ℕ)). EndRefused c behind k mid after kind) told r)
  where
    go : (kind : Kind) → EndRefused c behind all mid after kind → SizesRefused keys all whole before after kind
    go NoMatchingKey r = absurd r.1
    go ReadFault r = Rose-earlier _ _ _ earlier r.1
    go TooManySegments r = record { cutting = c; behind = behind; found = found; whole_is = whole_is; then = r }
    go (Truncated n) r = record { cutting = c; behind = behind; found = found; whole_is = whole_is; then = r }
    go (BadSegment n) r = record { cutting = c; behind = behind; found = found; whole_is = whole_is; then = r }
    go _ r = absurd r.1
