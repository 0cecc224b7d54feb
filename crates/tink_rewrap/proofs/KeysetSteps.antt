-- From the keys that were loaded to a keyset, and to what is promised of known bytes.
use Rattle.std.proofs.Common.{◌≡◌, inl, inr, ℕ, ◌+◌, List, drop, take, length, refl, sym, subst, Some, IfSome}
use Rattle.std.specs.Prelude.{Result, Ok, Err, IfOk}
use Rattle.std.specs.declared.option.Option.{Option}
use Rattle.tink_io.specs.Faults.{Rose}
use Rattle.tink_io.specs.declared.error.Kind.{Kind}
use Rattle.tink_io.specs.declared.error.Kind.TheVariants.{BadKeyset, BadSegment, InvalidKey, InvalidKeyset, NoMatchingKey, NoPrimary, OutOfMemory, ReadFault, TooManySegments, Truncated, UnsupportedKeyType, WriteFault, WrongPrimitive}
use Rattle.tink_io.specs.declared.error.TinkError.{TinkError}
use Rattle.stream_model.specs.Agree.{joined}
use Rattle.stream_model.specs.Opening.{IsChosen}
use Rattle.loading_model.specs.Loading.{AreUsable, Loaded, opening_keys}
use Rattle.loading_model.proofs.UsableKeys.{IsOfLoading}
use Rattle.tink_sets.specs.declared.typed_set.TypedPrimitiveSet.{TypedPrimitiveSet}
use Rattle.tink_streaming_keys.specs.declared.stream_kind.StreamKind.{StreamKind}
use Rattle.tink_range.specs.ChunkReading.{Moments}
use Rattle.tink_range.specs.ReadCounts.{TakesRangeBytes}
use Rattle.tink_range.specs.KeyRanges.{RangesUnderRefused, TakesRangeSteps}
use Rattle.tink_range.specs.Objects.{RisesByKind}
use Rattle.tink_range.proofs.StreamRanges.{gives_slice, under_not_refused}
use Rattle.tink_run.specs.AllKeys.{load}
use Rattle.tink_run.specs.OpenReads.{room_under}
use Rattle.tink_run.specs.HeldKeys.{GivesLoaded, HoldsLoaded}
use Rattle.tink_run.specs.Run.{CanOpen, IsEarly}
use Rattle.tink_run.proofs.OpenLemmas.{chosen_lawful, same_loaded}
use Rattle.tink_run.proofs.LoadedFacts.{load_refuses, loaded_usable}
use Rattle.tink_io.proofs.OutsideFacts.{told_appended, told_if}
use Rattle.tink_rewrap.specs.KeysetRanges.{GivesSlice, IsRangeComplete, KeysetRangeMeans, KeysetRangeRefused, LeavesBoth, RangesLoaded, TakesKeysetBytes, TakesKeysetSteps}
use Rattle.tink_rewrap.specs.SetRanges.{LeavesRangeEnds, RangesOf, RangesOfRefused}

-- the steps of a range under the keys of the set that was loaded are those of one under the keyset
pub steps_loaded : (keyset aad : List ℕ) (all : Option (List ℕ)) (whole start len before now : ℕ) (set : TypedPrimitiveSet StreamKind) → GivesLoaded (Ok set) (load keyset)
    → ((l : Loaded) → AreUsable l.keys → HoldsLoaded l set → TakesRangeSteps (opening_keys aad l) all whole start len before now) → TakesKeysetSteps keyset aad all whole start len before now
steps_loaded keyset aad all whole start len before now set loads takes = inr (loads.0, loads.1, takes loads.0 (loaded_usable keyset loads.0 loads.1).0 loads.2)

-- and so is what is read for it
pub bytes_loaded : (keyset aad : List ℕ) (all : Option (List ℕ)) (whole start len before now : ℕ) (set : TypedPrimitiveSet StreamKind) → GivesLoaded (Ok set) (load keyset)
    → ((l : Loaded) → AreUsable l.keys → HoldsLoaded l set → TakesRangeBytes (opening_keys aad l) all whole start len (room_under (opening_keys aad l)) before now) → TakesKeysetBytes keyset aad all whole start len before now
bytes_loaded keyset aad all whole start len before now set loads takes = inr (loads.0, loads.1, takes loads.0 (loaded_usable keyset loads.0 loads.1).0 loads.2)

-- a refusal of loading is no ReadFault, and leaves the object's count of faults
stands_by : (count : ℕ) (kind : Kind) → IsOfLoading kind → RisesByKind count count kind
stands_by count ReadFault is = absurd is
stands_by count _ is = refl

pub stands_unloaded : (keyset : List ℕ) (count : ℕ) (error : TinkError) → GivesLoaded (Err error) (load keyset) → RisesByKind count count error.kind
stands_unloaded keyset count error (inl m) = subst (RisesByKind count count) (sym m) refl
stands_unloaded keyset count error (inr l) = stands_by count error.kind (load_refuses keyset error.kind l)

module _ {A W : Type 0} (got : W → Option (List ℕ)) (faults : W → ℕ) (keyset aad : List ℕ) (whole start len : ℕ) (object object_after : A) where
  unloaded : (e : Moments W) (error : TinkError) (kind : Kind) → LeavesBoth object object_after e → load keyset ≡ Err kind → IsOfLoading kind → KeysetRangeRefused got faults keyset aad whole start len object object_after e error kind
  unloaded e error BadKeyset u l is = record { cause = l; both = u }
  unloaded e error InvalidKeyset u l is = record { cause = l; both = u }
  unloaded e error UnsupportedKeyType u l is = record { cause = l; both = u }
  unloaded e error InvalidKey u l is = record { cause = l; both = u }
  unloaded e error NoPrimary u l is = record { cause = l; both = u }
  unloaded e error WrongPrimitive u l is = record { cause = l; both = u }
  unloaded e error _ u l is = absurd is

  -- what a range answers where the keyset does not load, or there is no memory for it
  pub not_loaded : (e : Moments W) (error : TinkError) → LeavesBoth object object_after e → GivesLoaded (Err error) (load keyset) → KeysetRangeMeans got faults keyset aad whole start len object object_after e (Err error)
  not_loaded e error u (inl m) = subst (KeysetRangeRefused got faults keyset aad whole start len object object_after e error) (sym m) u
  not_loaded e error u (inr l) = unloaded e error error.kind u l (load_refuses keyset error.kind l)

  module _ (e : Moments W) where
    under_loaded : (l : Loaded) (answer : Result ℕ TinkError) → load keyset ≡ Ok l → RangesOf got faults (opening_keys aad l) whole start len e answer → LeavesRangeEnds answer object object_after e.old e.new → KeysetRangeMeans got faults keyset aad whole start len object object_after e answer
    under_loaded l (Ok n) loads m early = record { loaded = l; loads = loads; means = m }
    under_loaded l (Err error) loads m early = go error.kind refl m
      where
        read : (kind : Kind) → error.kind ≡ kind → RangesUnderRefused got faults (opening_keys aad l) whole start len e kind → RangesLoaded got faults keyset aad whole start len e (Err error)
        read kind same r = record { loaded = l; loads = loads; means = subst (RangesUnderRefused got faults (opening_keys aad l) whole start len e) (sym same) r }

        go : (kind : Kind) → error.kind ≡ kind → RangesOfRefused got faults (opening_keys aad l) whole start len e kind → KeysetRangeRefused got faults keyset aad whole start len object object_after e error kind
        go OutOfMemory same r = record { unread = (early (subst IsEarly (sym same) tt)).0; unmoved = r }
        go NoMatchingKey same r = read NoMatchingKey same r
        go ReadFault same r = read ReadFault same r
        go WriteFault same r = read WriteFault same r
        go TooManySegments same r = read TooManySegments same r
        go (Truncated n) same r = read (Truncated n) same r
        go (BadSegment n) same r = read (BadSegment n) same r
        go _ same r = absurd r

    -- a range under the keys of the set that was loaded is one under the keyset
    pub loaded : (set : TypedPrimitiveSet StreamKind) (answer : Result ℕ TinkError) → GivesLoaded (Ok set) (load keyset)
        → ((l : Loaded) → AreUsable l.keys → HoldsLoaded l set → RangesOf got faults (opening_keys aad l) whole start len e answer) → LeavesRangeEnds answer object object_after e.old e.new → KeysetRangeMeans got faults keyset aad whole start len object object_after e answer
    loaded set answer loads means = under_loaded loads.0 answer loads.1 (means loads.0 (loaded_usable keyset loads.0 loads.1).0 loads.2)

    module _ (told : IfSome e.all (λ X. length X ≡ whole)) where
      -- of a stream of the chosen key the slice of its text was written
      pub slices : (answer : Result ℕ TinkError) → KeysetRangeMeans got faults keyset aad whole start len object object_after e answer → IfOk answer (λ n. GivesSlice got keyset aad start len e n)
      slices (Ok n) m = λ S G l key texts all before loads chosen stream.
          let same : l ≡ m.loaded = same_loaded keyset l m.loaded loads m.loads in
          let here : IsChosen (opening_keys aad m.loaded) S (Some key) = subst (λ (x : Loaded). IsChosen (opening_keys aad x) S (Some key)) same chosen in
          let gave = gives_slice got faults (opening_keys aad m.loaded) whole start len e S key texts all (told_if (λ X. length X ≡ whole) e.all S all told) here (chosen_lawful keyset aad S m.loaded key m.loads here) stream n m.means in
          record { written = told_appended (got e.old) (got e.new) G (drop start (take (start + len) (joined texts))) before gave.0; count = gave.1 }
      slices (Err error) m = tt

      -- a range of such a stream is given, or there is no memory
      pub complete : (answer : Result ℕ TinkError) → KeysetRangeMeans got faults keyset aad whole start len object object_after e answer → IsRangeComplete faults keyset aad e answer
      complete (Ok n) m = λ S all reads writes can. tt
      complete (Err error) m = λ S all reads writes can. go S all reads writes can error.kind refl m
        where
          go : (S : List ℕ) → e.all ≡ Some S → (Rose e.reads_before e.reads_after → ⊥) → (Rose (faults e.old) (faults e.new) → ⊥) → CanOpen keyset aad S
              → (kind : Kind) → error.kind ≡ kind → KeysetRangeRefused got faults keyset aad whole start len object object_after e error kind → error.kind ≡ OutOfMemory
          go S all reads writes can = by
            where
              loads_not : (kind : Kind) → load keyset ≡ Err kind → ⊥
              loads_not kind l = let f = can.loads in cc

              reads_not : RangesLoaded got faults keyset aad whole start len e (Err error) → ⊥
              reads_not r =
                  let same : can.loaded ≡ r.loaded = same_loaded keyset can.loaded r.loaded can.loads r.loads in
                  let here : IsChosen (opening_keys aad r.loaded) S (Some can.key) = subst (λ (x : Loaded). IsChosen (opening_keys aad x) S (Some can.key)) same can.chosen in
                  under_not_refused got faults (opening_keys aad r.loaded) whole start len e S can.key can.texts all (told_if (λ X. length X ≡ whole) e.all S all told) here
                  (chosen_lawful keyset aad S r.loaded can.key r.loads here) can.stream reads writes error.kind r.means

              by : (kind : Kind) → error.kind ≡ kind → KeysetRangeRefused got faults keyset aad whole start len object object_after e error kind → error.kind ≡ OutOfMemory
              by OutOfMemory same r = same
              by BadKeyset same r = absurd (loads_not BadKeyset r.cause)
              by InvalidKeyset same r = absurd (loads_not InvalidKeyset r.cause)
              by UnsupportedKeyType same r = absurd (loads_not UnsupportedKeyType r.cause)
              by InvalidKey same r = absurd (loads_not InvalidKey r.cause)
              by NoPrimary same r = absurd (loads_not NoPrimary r.cause)
              by WrongPrimitive same r = absurd (loads_not WrongPrimitive r.cause)
              by NoMatchingKey same r = absurd (reads_not r)
              by ReadFault same r = absurd (reads_not r)
              by WriteFault same r = absurd (reads_not r)
              by TooManySegments same r = absurd (reads_not r)
              by (Truncated n) same r = absurd (reads_not r)
              by (BadSegment n) same r = absurd (reads_not r)
              by _ same r = absurd r
