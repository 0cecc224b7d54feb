-- From what is told under the keys that were loaded to a keyset, and to what is promised of known bytes.
use Rattle.std.proofs.Common.{◌≡◌, inl, inr, ◌≤◌, ◌+◌, ℕ, List, length, refl, sym, ap, subst, ◌∙◌, Some, IfSome}
use Rattle.std.specs.Prelude.{Result, Ok, Err}
use Rattle.std.specs.declared.option.Option.{Option}
use Rattle.tink_io.specs.Faults.{Rose}
use Rattle.tink_io.specs.declared.error.Kind.{Kind}
use Rattle.tink_io.specs.declared.error.Kind.TheVariants.{BadKeyset, BadSegment, InvalidKey, InvalidKeyset, NoMatchingKey, NoPrimary, OutOfMemory, ReadFault, TooManySegments, Truncated, UnsupportedKeyType, WrongPrimitive}
use Rattle.tink_io.specs.declared.error.TinkError.{TinkError}
use Rattle.stream_model.specs.Opening.{IsChosen}
use Rattle.loading_model.specs.Loading.{AreUsable, Loaded, opening_keys}
use Rattle.loading_model.proofs.UsableKeys.{IsOfLoading}
use Rattle.tink_sets.specs.declared.typed_set.TypedPrimitiveSet.{TypedPrimitiveSet}
use Rattle.tink_streaming_keys.specs.declared.stream_kind.StreamKind.{StreamKind}
use Rattle.tink_range.specs.Objects.{RisesByKind}
use Rattle.tink_range.specs.StreamSizes.{SizesRefused}
use Rattle.tink_range.proofs.StreamRanges.{sizes_not_refused, sizes_of_stream}
use Rattle.tink_run.specs.AllKeys.{load}
use Rattle.tink_run.specs.HeldKeys.{GivesLoaded, HoldsLoaded}
use Rattle.tink_run.specs.Run.{CanOpen, IsEarly}
use Rattle.tink_run.proofs.OpenLemmas.{chosen_lawful, same_loaded}
use Rattle.tink_run.proofs.LoadedFacts.{load_refuses, loaded_usable}
use Rattle.tink_io.proofs.OutsideFacts.{told_if}
use Rattle.tink_rewrap.specs.StreamInfos.{InfoLoaded, InfoMeans, InfoRefused, IsInfoComplete, KeysetInfoMeans, KeysetInfoRefused, IsIdOfKey, LeavesEarly, TakesInfoSteps, TellsStream}
use Rattle.tink_rewrap.specs.declared.info.of_set.StreamInfo.{StreamInfo}

-- the steps under the keys of the set that was loaded are those under the keyset
pub steps_loaded : (keyset : List ℕ) (before now count : ℕ) (set : TypedPrimitiveSet StreamKind) (loads : GivesLoaded (Ok set) (load keyset)) → now ≤ before + count + 1 → count ≡ length loads.0.keys → TakesInfoSteps keyset before now
steps_loaded keyset before now count set loads few same = inr (loads.0, loads.1, subst (λ (n : ℕ). now ≤ before + n + 1) same few)

module _ {A : Type 0} (keyset aad : List ℕ) (all : Option (List ℕ)) (whole before after : ℕ) (object object_after : A) where
  unloaded : (error : TinkError) (kind : Kind) → object_after ≡ object → load keyset ≡ Err kind → IsOfLoading kind → KeysetInfoRefused keyset aad all whole before after object object_after error kind
  unloaded error BadKeyset u l is = record { cause = l; unread = u }
  unloaded error InvalidKeyset u l is = record { cause = l; unread = u }
  unloaded error UnsupportedKeyType u l is = record { cause = l; unread = u }
  unloaded error InvalidKey u l is = record { cause = l; unread = u }
  unloaded error NoPrimary u l is = record { cause = l; unread = u }
  unloaded error WrongPrimitive u l is = record { cause = l; unread = u }
  unloaded error _ u l is = absurd is

  -- what is answered where the keyset does not load, or there is no memory for it
  pub not_loaded : (error : TinkError) → object_after ≡ object → GivesLoaded (Err error) (load keyset) → KeysetInfoMeans keyset aad all whole before after object object_after (Err error)
  not_loaded error u (inl m) = subst (KeysetInfoRefused keyset aad all whole before after object object_after error) (sym m) u
  not_loaded error u (inr l) = unloaded error error.kind u l (load_refuses keyset error.kind l)

  -- what is told under the keys that were loaded is told under the keyset
  under_loaded : (l : Loaded) (answer : Result StreamInfo TinkError) → load keyset ≡ Ok l → InfoMeans (opening_keys aad l) (IsIdOfKey aad l.keys) all whole before after answer → LeavesEarly answer object object_after
      → KeysetInfoMeans keyset aad all whole before after object object_after answer
  under_loaded l (Ok i) loads m early = record { loaded = l; loads = loads; means = m }
  under_loaded l (Err error) loads m early = go error.kind refl m
    where
      read : (kind : Kind) → error.kind ≡ kind → InfoRefused (opening_keys aad l) all whole before after kind → InfoLoaded keyset aad all whole before after object object_after (Err error)
      read kind same r = record { loaded = l; loads = loads; means = subst (λ (x : Kind). InfoRefused (opening_keys aad l) all whole before after x) (sym same) r }

      go : (kind : Kind) → error.kind ≡ kind → InfoRefused (opening_keys aad l) all whole before after kind → KeysetInfoRefused keyset aad all whole before after object object_after error kind
      go OutOfMemory same r = early (subst IsEarly (sym same) tt)
      go NoMatchingKey same r = read NoMatchingKey same r
      go ReadFault same r = read ReadFault same r
      go TooManySegments same r = read TooManySegments same r
      go (Truncated n) same r = read (Truncated n) same r
      go (BadSegment n) same r = read (BadSegment n) same r
      go _ same r = absurd r

  pub loaded : (set : TypedPrimitiveSet StreamKind) (answer : Result StreamInfo TinkError) → GivesLoaded (Ok set) (load keyset)
      → ((l : Loaded) → AreUsable l.keys → HoldsLoaded l set → InfoMeans (opening_keys aad l) (IsIdOfKey aad l.keys) all whole before after answer) → LeavesEarly answer object object_after
      → KeysetInfoMeans keyset aad all whole before after object object_after answer
  loaded set answer loads means = under_loaded loads.0 answer loads.1 (means loads.0 (loaded_usable keyset loads.0 loads.1).0 loads.2)

  module _ (long : IfSome all (λ X. length X ≡ whole)) where
    -- of a stream of the chosen key there are as many segments and bytes as its texts have
    pub tells : (answer : Result StreamInfo TinkError) → KeysetInfoMeans keyset aad all whole before after object object_after answer → TellsStream keyset aad all answer
    tells (Ok i) m = λ S l key texts told loads chosen stream.
        let same : l ≡ m.loaded = same_loaded keyset l m.loaded loads m.loads in
        let here : IsChosen (opening_keys aad m.loaded) S (Some key) = subst (λ (x : Loaded). IsChosen (opening_keys aad x) S (Some key)) same chosen in
        let r = m.means in
        let of = sizes_of_stream (opening_keys aad m.loaded) all whole before after S key texts told (told_if (λ X. length X ≡ whole) all S told long) here (chosen_lawful keyset aad S m.loaded key m.loads here) stream
        r.cutting r.behind i.segments i.plaintext_len (told_if _ all S told r.found) r.whole_is r.then.measures in
        (of.0, of.1, r.then.segment ∙ of.2)
    tells (Err error) m = tt

    -- and they are told, or there is no memory
    pub complete : (answer : Result StreamInfo TinkError) → KeysetInfoMeans keyset aad all whole before after object object_after answer → IsInfoComplete keyset aad all before after answer
    complete (Ok i) m = λ S told reads can. tt
    complete (Err error) m = λ S told reads can. go S told reads can error.kind refl m
      where
        go : (S : List ℕ) → all ≡ Some S → (Rose before after → ⊥) → CanOpen keyset aad S
            → (kind : Kind) → error.kind ≡ kind → KeysetInfoRefused keyset aad all whole before after object object_after error kind → error.kind ≡ OutOfMemory
        go S told reads can = by
          where
            loads_not : (kind : Kind) → load keyset ≡ Err kind → ⊥
            loads_not kind l = let f = can.loads in cc

            kept : (l : Loaded) (kind : Kind) → InfoRefused (opening_keys aad l) all whole before after kind → (kind ≡ OutOfMemory → ⊥) → SizesRefused (opening_keys aad l) all whole before after kind
            kept l OutOfMemory r not = absurd (not refl)
            kept l _ r not = r

            reads_not : InfoLoaded keyset aad all whole before after object object_after (Err error) → (error.kind ≡ OutOfMemory → ⊥) → ⊥
            reads_not r not =
                let same : can.loaded ≡ r.loaded = same_loaded keyset can.loaded r.loaded can.loads r.loads in
                let here : IsChosen (opening_keys aad r.loaded) S (Some can.key) = subst (λ (x : Loaded). IsChosen (opening_keys aad x) S (Some can.key)) same can.chosen in
                sizes_not_refused (opening_keys aad r.loaded) all whole before after S can.key can.texts told (told_if (λ X. length X ≡ whole) all S told long) here
                (chosen_lawful keyset aad S r.loaded can.key r.loads here) can.stream reads error.kind (kept r.loaded error.kind r.means not)

            by : (kind : Kind) → error.kind ≡ kind → KeysetInfoRefused keyset aad all whole before after object object_after error kind → error.kind ≡ OutOfMemory
            by OutOfMemory same r = same
            by BadKeyset same r = absurd (loads_not BadKeyset r.cause)
            by InvalidKeyset same r = absurd (loads_not InvalidKeyset r.cause)
            by UnsupportedKeyType same r = absurd (loads_not UnsupportedKeyType r.cause)
            by InvalidKey same r = absurd (loads_not InvalidKey r.cause)
            by NoPrimary same r = absurd (loads_not NoPrimary r.cause)
            by WrongPrimitive same r = absurd (loads_not WrongPrimitive r.cause)
            by NoMatchingKey same r = absurd (reads_not r (λ e. cc))
            by ReadFault same r = absurd (reads_not r (λ e. cc))
            by TooManySegments same r = absurd (reads_not r (λ e. cc))
            by (Truncated n) same r = absurd (reads_not r (λ e. cc))
            by (BadSegment n) same r = absurd (reads_not r (λ e. cc))
            by _ same r = absurd r
