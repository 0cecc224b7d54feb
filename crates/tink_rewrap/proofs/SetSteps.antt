-- From the keys of a list to those of a set, and to those that were loaded.
use Rattle.std.proofs.Common.{◌≡◌, ◌∙◌, ℕ, List, length, map, refl, sym, ap, subst}
use Rattle.std.proofs.lemmas.List.{length-map}
use Rattle.std.proofs.lemmas.Simd.{map-map}
use Rattle.std.specs.Prelude.{Result, Ok, Err}
use Rattle.std.specs.declared.option.Option.{Option}
use Rattle.tink_io.specs.declared.error.Kind.{Kind}
use Rattle.tink_io.specs.declared.error.Kind.TheVariants.{BadSegment, NoMatchingKey, OutOfMemory, ReadFault, TooManySegments, Truncated, WriteFault}
use Rattle.tink_io.specs.declared.error.TinkError.{TinkError}
use Rattle.stream_model.specs.Key.{StreamKey}
use Rattle.stream_model.specs.Opening.{IsChosen, OpeningKey, opening_key}
use Rattle.stream_model.proofs.OrderFacts.{choose_the_same}
use Rattle.loading_model.specs.Loading.{AreUsable, Loaded, opening_keys}
use Rattle.tink_sets.specs.declared.typed_set.TypedPrimitiveSet.{TypedPrimitiveSet}
use Rattle.tink_streaming_keys.specs.declared.stream_kind.StreamKind.{StreamKind}
use Rattle.tink_streaming_aead.specs.Wrapped.{KeepsOrder, all_entries, keys_in}
use Rattle.tink_range.specs.ChunkReading.{Moments}
use Rattle.tink_range.specs.ReadCounts.{TakesRangeBytes}
use Rattle.tink_range.specs.KeyRanges.{RangesUnder, RangesUnderRefused, TakesRangeSteps}
use Rattle.tink_range.proofs.KeyRangeSteps.{bytes_by_others, ranges_by_others, refused_by_others, steps_by_others}
use Rattle.tink_run.specs.HeldKeys.{HoldsLoaded}
use Rattle.tink_run.specs.Run.{IsEarly}
use Rattle.tink_run.specs.OpenReads.{room_under}
use Rattle.tink_run.proofs.ReadEndings.{same_room}
use Rattle.tink_run.proofs.RunSteps.{are_of_keyset, ordered_keys}
use Rattle.tink_rewrap.proofs.CountFacts.{same_count}
use Rattle.tink_rewrap.specs.SetRanges.{LeavesRangeEnds, LeavesUnwritten, RangesOf, RangesOfRefused, WritesNoRange}

-- ends that stay as they were are left so by every answer
pub leaves_same : {A W : Type 0} (answer : Result ℕ TinkError) (object : A) (sink : W) → LeavesRangeEnds answer object object sink sink
leaves_same (Ok n) object sink = tt
leaves_same (Err e) object sink = λ early. (refl, refl)

pub unwritten_same : {W : Type 0} (answer : Result ℕ TinkError) (sink : W) → LeavesUnwritten answer sink sink
unwritten_same (Ok n) sink = tt
unwritten_same (Err e) sink = λ unwritten. refl

module _ {W : Type 0} (got : W → Option (List ℕ)) (faults : W → ℕ) (keys : List OpeningKey) (whole start len : ℕ) where
  -- what a range under keys says besides `OutOfMemory`
  pub ranges_of : (e : Moments W) (answer : Result ℕ TinkError) → RangesUnder got faults keys whole start len e answer → RangesOf got faults keys whole start len e answer
  ranges_of e (Ok n) m = m
  ranges_of e (Err error) m = go error.kind m
    where
      go : (kind : Kind) → RangesUnderRefused got faults keys whole start len e kind → RangesOfRefused got faults keys whole start len e kind
      go OutOfMemory r = absurd r
      go _ r = r

  -- there was no memory
  pub no_memory : (all : Option (List ℕ)) (reads : ℕ) (w : W) (error : TinkError) → error ≡ record { kind = OutOfMemory } → RangesOf got faults keys whole start len (record { all = all; reads_before = reads; reads_after = reads; old = w; new = w }) (Err error)
  no_memory all reads w error is = rw is (record { reads = refl; same = refl })

  -- a range that has begun to read is not refused early
  pub leaves_under : {A : Type 0} (e : Moments W) (answer : Result ℕ TinkError) (o p : A) (s t : W) → RangesUnder got faults keys whole start len e answer → LeavesRangeEnds answer o p s t
  leaves_under e (Ok n) o p s t m = tt
  leaves_under e (Err error) o p s t m = go error.kind m
    where
      go : (kind : Kind) → RangesUnderRefused got faults keys whole start len e kind → IsEarly kind → (p ≡ o) × (t ≡ s)
      go NoMatchingKey m early = absurd early
      go ReadFault m early = absurd early
      go WriteFault m early = absurd early
      go TooManySegments m early = absurd early
      go (Truncated n) m early = absurd early
      go (BadSegment n) m early = absurd early
      go _ m early = absurd m

  -- what stands of the sink where nothing was written
  pub unwritten_of : (e : Moments W) (answer : Result ℕ TinkError) → RangesOf got faults keys whole start len e answer → LeavesUnwritten answer e.old e.new
  unwritten_of e (Ok n) m = tt
  unwritten_of e (Err error) m = go error.kind m
    where
      go : (kind : Kind) → RangesOfRefused got faults keys whole start len e kind → WritesNoRange kind → e.new ≡ e.old
      go NoMatchingKey m unwritten = m.same
      go TooManySegments m unwritten = m.then.same
      go (Truncated n) m unwritten = m.then.same
      go _ m unwritten = absurd unwritten

-- of the keys that were loaded the same one is chosen as of those of the set
pub chosen_of_loaded : (aad : List ℕ) (l : Loaded) (set : TypedPrimitiveSet StreamKind) → AreUsable l.keys → HoldsLoaded l set → KeepsOrder set.entries → (S : List ℕ) (chosen : Option OpeningKey)
    → IsChosen (map (opening_key aad) (keys_in (all_entries set.entries))) S chosen → IsChosen (opening_keys aad l) S chosen
chosen_of_loaded aad l set usable holds order S chosen h =
    let own : List StreamKey = map (λ k. k.key) l.keys in
    let ordered = ordered_keys l set holds order in
    subst (λ (ks : List OpeningKey). IsChosen ks S chosen) (map-map (opening_key aad) (λ k. k.key) l.keys)
    ((choose_the_same aad S (keys_in (all_entries set.entries)) own chosen (are_of_keyset l.keys usable) ordered).0 h)

-- and they are as many
pub steps_of_loaded : (aad : List ℕ) (set : TypedPrimitiveSet StreamKind) (all : Option (List ℕ)) (whole start len before now : ℕ) → KeepsOrder set.entries
    → TakesRangeSteps (map (opening_key aad) (keys_in (all_entries set.entries))) all whole start len before now
    → (l : Loaded) → AreUsable l.keys → HoldsLoaded l set → TakesRangeSteps (opening_keys aad l) all whole start len before now
steps_of_loaded aad set all whole start len before now order takes l usable holds =
    let keys : List StreamKey = keys_in (all_entries set.entries) in
    let own : List StreamKey = map (λ k. k.key) l.keys in
    let ordered = ordered_keys l set holds order in
    let count : length (map (opening_key aad) keys) ≡ length (opening_keys aad l) =
    length-map keys (opening_key aad) ∙ same_count keys own ordered ∙ length-map l.keys (λ k. k.key) ∙ sym (length-map l.keys (λ k. opening_key aad k.key)) in
    steps_by_others (map (opening_key aad) keys) (opening_keys aad l) all whole start len before now count (chosen_of_loaded aad l set usable holds order) takes

-- and have as much room
pub bytes_of_loaded : (aad : List ℕ) (set : TypedPrimitiveSet StreamKind) (all : Option (List ℕ)) (whole start len before now : ℕ) → KeepsOrder set.entries
    → TakesRangeBytes (map (opening_key aad) (keys_in (all_entries set.entries))) all whole start len (room_under (map (opening_key aad) (keys_in (all_entries set.entries)))) before now
    → (l : Loaded) → AreUsable l.keys → HoldsLoaded l set → TakesRangeBytes (opening_keys aad l) all whole start len (room_under (opening_keys aad l)) before now
bytes_of_loaded aad set all whole start len before now order takes l usable holds =
    let keys : List StreamKey = keys_in (all_entries set.entries) in
    let own : List StreamKey = map (λ k. k.key) l.keys in
    let ordered = ordered_keys l set holds order in
    let count : length (map (opening_key aad) keys) ≡ length (opening_keys aad l) =
    length-map keys (opening_key aad) ∙ same_count keys own ordered ∙ length-map l.keys (λ k. k.key) ∙ sym (length-map l.keys (λ k. opening_key aad k.key)) in
    let room : room_under (map (opening_key aad) keys) ≡ room_under (opening_keys aad l) = same_room aad keys own ordered ∙ ap room_under (map-map (opening_key aad) (λ k. k.key) l.keys) in
    bytes_by_others (map (opening_key aad) keys) (opening_keys aad l) all whole start len (room_under (map (opening_key aad) keys)) (room_under (opening_keys aad l)) before now count room
    (chosen_of_loaded aad l set usable holds order) takes

-- so a range under the keys of the set is one under those that were loaded
pub ranges_of_loaded : {W : Type 0} (got : W → Option (List ℕ)) (faults : W → ℕ) (aad : List ℕ) (set : TypedPrimitiveSet StreamKind) (whole start len : ℕ) (e : Moments W) (answer : Result ℕ TinkError) → KeepsOrder set.entries
    → RangesOf got faults (map (opening_key aad) (keys_in (all_entries set.entries))) whole start len e answer
    → (l : Loaded) → AreUsable l.keys → HoldsLoaded l set → RangesOf got faults (opening_keys aad l) whole start len e answer
ranges_of_loaded got faults aad set whole start len e (Ok n) order m l usable holds =
    ranges_by_others got faults (map (opening_key aad) (keys_in (all_entries set.entries))) (opening_keys aad l) whole start len e (chosen_of_loaded aad l set usable holds order) (Ok n) m
ranges_of_loaded got faults aad set whole start len e (Err error) order m l usable holds = go error.kind m
  where
    go : (kind : Kind) → RangesOfRefused got faults (map (opening_key aad) (keys_in (all_entries set.entries))) whole start len e kind → RangesOfRefused got faults (opening_keys aad l) whole start len e kind
    go OutOfMemory r = r
    go kind r = refused_by_others got faults (map (opening_key aad) (keys_in (all_entries set.entries))) (opening_keys aad l) whole start len e (chosen_of_loaded aad l set usable holds order) kind r
