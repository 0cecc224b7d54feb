-- From the answers of loading, preparing and passing on to what a rewrap answers.
use Rattle.std.proofs.Common.{◌≡◌, ◌∙◌, inl, inr, ℕ, Bool, List, [], map, refl, sym, subst, Some}
use Rattle.std.specs.Prelude.{Result, Ok, Err}
use Rattle.tink_io.specs.declared.error.Kind.{Kind}
use Rattle.tink_io.specs.declared.error.Kind.TheVariants.{OutOfMemory, ReadFault, WriteFault, RandomFault, BadKeyset, InvalidKeyset, UnsupportedKeyType, InvalidKey, NoPrimary, WrongPrimitive, UnknownHash, UnsupportedHash, TooManySegments, NoMatchingKey, BadSegment, Truncated}
use Rattle.tink_io.specs.declared.error.TinkError.{TinkError}
use Rattle.stream_model.specs.Key.{StreamKey, first_room, front, segment_at}
use Rattle.stream_model.specs.Opening.{OpeningKey, opening_key}
use Rattle.stream_model.specs.Sealing.{nonce_prefix_of, salt_of}
use Rattle.tink_sets.specs.declared.typed_set.TypedPrimitiveSet.{TypedPrimitiveSet}
use Rattle.tink_streaming_io.specs.declared.writing.Mode.{Mode}
use Rattle.tink_streaming_keys.specs.declared.stream_kind.StreamKind.{StreamKind}
use Rattle.tink_streaming_keys.specs.NewStreams.{IsPrepared, NotPrepared}
use Rattle.tink_streaming_aead.specs.Wrapped.{KeepsOrder, all_entries, key_in, keys_in}
use Rattle.loading_model.specs.Loading.{opening_keys}
use Rattle.loading_model.proofs.UsableKeys.{IsOfLoading}
use Rattle.tink_run.specs.AllKeys.{load}
use Rattle.tink_run.specs.HeldKeys.{GivesLoaded}
use Rattle.tink_run.specs.declared.report.Report.{Report}
use Rattle.tink_run.specs.OpenReads.{room_under}
use Rattle.tink_io.specs.Outside.{Outside}
use Rattle.tink_run.specs.SealSteps.{kind_not_begun}
use Rattle.tink_run.proofs.LoadedFacts.{load_refuses}
use Rattle.tink_run.proofs.SealSteps.{longest_is, no_keys, part_is, stream_is}
use Rattle.tink_rewrap.specs.Passing.{LeadsUnder, OpensWithin, PassMeans, PassRefused, bytes_by, bytes_under, into}
use Rattle.tink_rewrap.specs.Rewrapping.{HasKey, IsPassing, IsUnloaded, LeavesOrBegins, LeavesOrBeginsOf, RewrapEnds, RewrapMeans, RewrapRefused, RewrapsLoaded, RewrapsUnder, RewrapsUnderRefused, Sides}
use Rattle.tink_rewrap.proofs.KeySteps.{MakeTheSame, pass_by}
use Rattle.tink_rewrap.proofs.OpenedLater.{has_key, stays_opened}
use Rattle.tink_rewrap.proofs.PassEndings.{rewraps_ended}

-- ---- to a key

-- a text that is passed on is passed on whatever is answered
pub passes : (keys : List OpeningKey) (k : StreamKey) (aad draws left_draws : List ℕ) (old new : Outside) (answer : Result Report TinkError) → IsPassing keys k aad draws left_draws old new answer → RewrapsUnder keys k aad draws left_draws old new answer
passes keys k aad draws left_draws old new (Ok report) p = p
passes keys k aad draws left_draws old new (Err e) p = go e.kind p.means
  where
    go : (kind : Kind) → PassRefused (OpensWithin (room_under keys) keys) (LeadsUnder (room_under keys) keys) (HasKey keys) (bytes_under k aad draws) old new kind → RewrapsUnderRefused keys k aad draws left_draws old new e kind
    go NoMatchingKey m = p
    go TooManySegments m = p
    go (Truncated n) m = p
    go (BadSegment n) m = p
    go ReadFault m = p
    go WriteFault m = p
    go _ m = absurd m

-- a stream that was prepared
module _ (k : StreamKey) (aad draws left_draws bytes : List ℕ) (seg : ℕ → Bool → List ℕ → List ℕ) (a b : ℕ) (mode : Mode) (number : ℕ) (held : List ℕ) (p : IsPrepared k aad draws left_draws bytes seg a b mode number held) where
  abbrev salt : List ℕ
  salt = salt_of k draws

  abbrev prefix : List ℕ
  prefix = nonce_prefix_of k draws

  -- is of the key
  made_under : MakeTheSame (bytes_by bytes seg a b) (bytes_under k aad draws)
  made_under =
      subst (λ (f : List ℕ). MakeTheSame (bytes_by f seg a b) (bytes_under k aad draws)) (sym p.front_is)
      (subst (λ (s : ℕ → Bool → List ℕ → List ℕ). MakeTheSame (bytes_by (front k salt prefix) s a b) (bytes_under k aad draws)) (sym p.segments)
      (subst (λ (x : ℕ). MakeTheSame (bytes_by (front k salt prefix) (segment_at k p.keys prefix) x b) (bytes_under k aad draws)) (sym p.first_is)
      (subst (λ (y : ℕ). MakeTheSame (bytes_by (front k salt prefix) (segment_at k p.keys prefix) (first_room k) y) (bytes_under k aad draws)) (sym p.later_is)
      (record {
        whole = stream_is k aad salt prefix p.keys p.keys_are;
        part = part_is k aad salt prefix p.keys p.keys_are;
        longest = longest_is k aad salt prefix p.keys p.keys_are;
        count = λ text. refl;
      }))))

  -- and the text is passed on to it
  pub passes_prepared : (room : ℕ) (keys : List OpeningKey) (old new : Outside) (answer : Result Report TinkError) → room ≡ room_under keys
      → PassMeans (OpensWithin room keys) (LeadsUnder room keys) (HasKey keys) (bytes_by bytes seg a b) old new answer → RewrapsUnder keys k aad draws left_draws old new answer
  passes_prepared room keys old new answer same m = passes keys k aad draws left_draws old new answer (record {
    enough = p.drew.enough;
    rest = p.drew.rest;
    derives = λ none. let some = p.keys_are in cc;
    means = pass_by (OpensWithin room keys) (OpensWithin (room_under keys) keys) (LeadsUnder room keys) (LeadsUnder (room_under keys) keys) (HasKey keys) (HasKey keys) (bytes_by bytes seg a b) (bytes_under k aad draws) old old new refl
        (λ text answer x. subst (λ (n : ℕ). OpensWithin n keys (into [] old) (into text new) answer) same x) (λ text x. subst (λ (n : ℕ). LeadsUnder n keys (into [] old) (into text new)) same x) (λ x. x) made_under answer m;
  })

-- no stream was prepared
pub not_prepared : (keys : List OpeningKey) (k : StreamKey) (aad draws left_draws : List ℕ) (m : Outside) (kind : Kind) (e : TinkError) → e ≡ record { kind = kind_not_begun kind } → NotPrepared k draws left_draws kind
    → RewrapsUnder keys k aad draws left_draws m m (Err e)
not_prepared keys k aad draws left_draws m kind e same r = subst (λ (x : TinkError). RewrapsUnder keys k aad draws left_draws m m (Err x)) (sym same) (go kind r)
  where
    go : (kind : Kind) → NotPrepared k draws left_draws kind → RewrapsUnder keys k aad draws left_draws m m (Err (record { kind = kind_not_begun kind }))
    go OutOfMemory r = record { untouched = refl; undrawn = r }
    go RandomFault r = record { few = r.few; untouched = refl; undrawn = r.undrawn }
    go UnknownHash r = no_keys k aad draws left_draws m m UnknownHash r.drew r.hash refl
    go UnsupportedHash r = no_keys k aad draws left_draws m m UnsupportedHash r.drew r.hash refl
    go _ r = absurd r

-- ---- from keysets

-- a rewrap between loaded keys is one between keysets
under_keysets : (s : Sides) (draws left_draws : List ℕ) (old new : Outside) (answer : Result Report TinkError) → RewrapsLoaded s draws left_draws old new answer → RewrapMeans s draws left_draws old new answer
under_keysets s draws left_draws old new (Ok report) r = r
under_keysets s draws left_draws old new (Err e) r = go e.kind r.means
  where
    go : (kind : Kind) → RewrapsUnderRefused (opening_keys s.from_aad r.from_loaded) r.to_loaded.primary s.to_aad draws left_draws old new e kind → RewrapRefused s draws left_draws old new e kind
    go OutOfMemory m = m
    go RandomFault m = r
    go UnsupportedHash m = r
    go NoMatchingKey m = r
    go TooManySegments m = r
    go (Truncated n) m = r
    go (BadSegment n) m = r
    go ReadFault m = r
    go WriteFault m = r
    go _ m = absurd m

-- a rewrap from all keys of one set to the primary key of another is one between the keysets
pub rewraps_keysets : (s : Sides) (draws left_draws : List ℕ) (set others : TypedPrimitiveSet StreamKind) (key : StreamKey) (old new : Outside) (answer : Result Report TinkError)
    → GivesLoaded (Ok set) (load s.from) → GivesLoaded (Ok others) (load s.to) → key_in others.primary ≡ Some key → KeepsOrder set.entries
    → RewrapEnds (map (opening_key s.from_aad) (keys_in (all_entries set.entries))) key s.to_aad draws left_draws old new answer → RewrapMeans s draws left_draws old new answer
rewraps_keysets s draws left_draws set others key old new answer from to primary order r =
    let keys : List OpeningKey = map (opening_key s.from_aad) (keys_in (all_entries set.entries)) in
    let one : Some key ≡ Some to.0.primary = sym primary ∙ to.2.primary in
    let same : key ≡ to.0.primary = cc in
    under_keysets s draws left_draws old new answer (record {
      from_loaded = from.0;
      from_loads = from.1;
      to_loaded = to.0;
      to_loads = to.1;
      means = rewraps_ended keys (opening_keys s.from_aad from.0) to.0.primary s.to_aad draws left_draws old new answer (stays_opened s.from s.from_aad set from order old new)
          (subst (λ (k : StreamKey). RewrapEnds keys k s.to_aad draws left_draws old new answer) same r);
    })

-- a key of a set that was loaded is one of its keyset
pub begun_keyset : {K : Type 0} (s : Sides) (set : TypedPrimitiveSet StreamKind) (old : Outside) (answer : Result Report TinkError) (k l : K) → GivesLoaded (Ok set) (load s.from) → KeepsOrder set.entries
    → LeavesOrBegins (map (opening_key s.from_aad) (keys_in (all_entries set.entries))) old answer k l → LeavesOrBeginsOf s old answer k l
begun_keyset s set old (Ok report) k l loads order begun = tt
begun_keyset s set old (Err e) k l loads order (inl itself) = inl itself
begun_keyset s set old (Err e) k l loads order (inr has) = inr (loads.0, loads.1, has_key s.from s.from_aad set loads order old.left has)

-- a sink that is as it was is left so by every answer
pub sink_left : {K : Type 0} (s : Sides) (old : Outside) (answer : Result Report TinkError) (k : K) → LeavesOrBeginsOf s old answer k k
sink_left s old (Ok report) k = tt
sink_left s old (Err e) k = inl refl

unloaded : (s : Sides) (draws : List ℕ) (m : Outside) (e : TinkError) (kind : Kind) → IsOfLoading kind → IsUnloaded s kind draws draws m m → RewrapRefused s draws draws m m e kind
unloaded s draws m e BadKeyset is u = u
unloaded s draws m e InvalidKeyset is u = u
unloaded s draws m e UnsupportedKeyType is u = u
unloaded s draws m e InvalidKey is u = u
unloaded s draws m e NoPrimary is u = u
unloaded s draws m e WrongPrimitive is u = u
unloaded s draws m e _ is u = absurd is

pub wants_memory : (s : Sides) (draws : List ℕ) (m : Outside) (e : TinkError) → e.kind ≡ OutOfMemory → RewrapMeans s draws draws m m (Err e)
wants_memory s draws m e same = subst (RewrapRefused s draws draws m m e) (sym same) (record { untouched = refl; undrawn = refl })

-- the first keyset was refused, or there was no memory for it
pub from_not_loaded : (s : Sides) (draws : List ℕ) (m : Outside) (e : TinkError) → GivesLoaded (Err e) (load s.from) → RewrapMeans s draws draws m m (Err e)
from_not_loaded s draws m e (inl want) = wants_memory s draws m e want
from_not_loaded s draws m e (inr l) = unloaded s draws m e e.kind (load_refuses s.from e.kind l) (record { cause = inl l; untouched = refl; undrawn = refl })

-- the second one
pub to_not_loaded : (s : Sides) (draws : List ℕ) (set : TypedPrimitiveSet StreamKind) (m : Outside) (e : TinkError) → GivesLoaded (Ok set) (load s.from) → GivesLoaded (Err e) (load s.to) → RewrapMeans s draws draws m m (Err e)
to_not_loaded s draws set m e from (inl want) = wants_memory s draws m e want
to_not_loaded s draws set m e from (inr l) = unloaded s draws m e e.kind (load_refuses s.to e.kind l) (record {
  cause = inr (record { from_loaded = from.0; from_loads = from.1; cause = l });
  untouched = refl;
  undrawn = refl;
})
