-- From the answers of loading, sealing and opening to what a run answers.
use Rattle.std.proofs.Common.{◌≡◌, ◌∙◌, inl, inr, ℕ, List, [], ◌∷◌, All, refl, sym, ap, subst, Some}
use Rattle.std.proofs.lemmas.Simd.{map-map}
use Rattle.std.specs.Prelude.{Result, Ok, Err, map}
use Rattle.std.proofs.lemmas.List.Elements.{All-cons, All-nil}
use Rattle.std.specs.declared.option.Option.{Option}
use Rattle.tink_io.specs.declared.error.Kind.{Kind}
use Rattle.tink_io.specs.declared.error.Kind.TheVariants.{OutOfMemory, BadKeyset, InvalidKeyset, UnsupportedKeyType, InvalidKey, NoPrimary, WrongPrimitive, NoMatchingKey}
use Rattle.tink_io.specs.declared.error.TinkError.{TinkError}
use Rattle.stream_model.specs.Key.{StreamKey}
use Rattle.stream_model.specs.Opening.{IsChosen, OpeningKey, opening_key}
use Rattle.stream_model.specs.Order.{HaveSameOrder, IsOfKeyset}
use Rattle.stream_model.proofs.OrderFacts.{choose_the_same}
use Rattle.tink_sets.specs.declared.typed_set.TypedPrimitiveSet.{TypedPrimitiveSet}
use Rattle.tink_streaming_keys.specs.declared.stream_kind.StreamKind.{StreamKind}
use Rattle.tink_streaming_aead.specs.Wrapped.{KeepsOrder, all_entries, key_in, keys_in}
use Rattle.tink_streaming_aead.proofs.WrappedFacts.{same_keys}
use Rattle.loading_model.specs.Loading.{AreUsable, Loaded, LoadedKey, opening_keys}
use Rattle.tink_run.specs.AllKeys.{load}
use Rattle.tink_run.specs.HeldKeys.{GivesLoaded, HoldsLoaded}
use Rattle.tink_run.specs.declared.report.Command.{Command}
use Rattle.tink_run.specs.declared.report.Command.TheVariants.{Seal, Open}
use Rattle.tink_run.specs.declared.report.Report.{Report}
use Rattle.tink_run.specs.OpenAnswers.{OpenRefused, OpeningRefused}
use Rattle.tink_run.specs.OpenReads.{OpensReading}
use Rattle.tink_run.specs.OpenSteps.{OpensUnder, OpensUnderRefused}
use Rattle.tink_run.proofs.OpenSteps as opening
use Rattle.tink_run.proofs.SealSteps as sealing
use Rattle.tink_run.proofs.LoadedFacts.{load_refuses, loaded_usable}
use Rattle.tink_run.proofs.OneKeyFacts.{means_by}
use Rattle.tink_run.proofs.EndingSteps.{ends_mapped, opens_ended}
use Rattle.tink_run.proofs.OpenLemmas.{chosen_lawful}
use Rattle.tink_run.specs.Endings.{EndsAs}
use Rattle.loading_model.proofs.UsableKeys.{IsOfLoading}
use Rattle.tink_io.specs.Outside.{Outside, IsUntouched}
use Rattle.tink_run.specs.Run.{AnswerMeans, IsEarly, LeavesEnds, LeavesSinkItself, WritesNothing}
use Rattle.tink_run.specs.SealAnswers.{SealRefused}
use Rattle.tink_run.specs.SealSteps.{SealsUnder, SealsUnderRefused}

seal_unloaded : (keyset aad draws : List ℕ) (old new : Outside) (e : TinkError) (kind : Kind) → IsUntouched old new → load keyset ≡ Err kind → IsOfLoading kind → SealRefused keyset aad draws draws old new e kind
seal_unloaded keyset aad draws old new e BadKeyset u l is = record { cause = l; untouched = u; undrawn = refl }
seal_unloaded keyset aad draws old new e InvalidKeyset u l is = record { cause = l; untouched = u; undrawn = refl }
seal_unloaded keyset aad draws old new e UnsupportedKeyType u l is = record { cause = l; untouched = u; undrawn = refl }
seal_unloaded keyset aad draws old new e InvalidKey u l is = record { cause = l; untouched = u; undrawn = refl }
seal_unloaded keyset aad draws old new e NoPrimary u l is = record { cause = l; untouched = u; undrawn = refl }
seal_unloaded keyset aad draws old new e WrongPrimitive u l is = record { cause = l; untouched = u; undrawn = refl }
seal_unloaded keyset aad draws old new e _ u l is = absurd is

open_unloaded : (keyset aad draws : List ℕ) (old new : Outside) (e : TinkError) (kind : Kind) → IsUntouched old new → load keyset ≡ Err kind → IsOfLoading kind → OpenRefused keyset aad draws draws old new e kind
open_unloaded keyset aad draws old new e BadKeyset u l is = record { cause = l; untouched = u; undrawn = refl }
open_unloaded keyset aad draws old new e InvalidKeyset u l is = record { cause = l; untouched = u; undrawn = refl }
open_unloaded keyset aad draws old new e UnsupportedKeyType u l is = record { cause = l; untouched = u; undrawn = refl }
open_unloaded keyset aad draws old new e InvalidKey u l is = record { cause = l; untouched = u; undrawn = refl }
open_unloaded keyset aad draws old new e NoPrimary u l is = record { cause = l; untouched = u; undrawn = refl }
open_unloaded keyset aad draws old new e WrongPrimitive u l is = record { cause = l; untouched = u; undrawn = refl }
open_unloaded keyset aad draws old new e _ u l is = absurd is

-- what a run answers where the keyset does not load
unloaded : (command : Command) (keyset aad draws : List ℕ) (old new : Outside) (e : TinkError) → IsUntouched old new → load keyset ≡ Err e.kind → AnswerMeans command keyset aad draws draws old new (Err e)
unloaded Seal keyset aad draws old new e u l = seal_unloaded keyset aad draws old new e e.kind u l (load_refuses keyset e.kind l)
unloaded Open keyset aad draws old new e u l = (open_unloaded keyset aad draws old new e e.kind u l (load_refuses keyset e.kind l), refl)

-- what a run answers where the keyset does not load, or there is no memory for it
pub not_loaded : (command : Command) (keyset aad draws : List ℕ) (old new : Outside) (e : TinkError) → IsUntouched old new → GivesLoaded (Err e) (load keyset) → AnswerMeans command keyset aad draws draws old new (Err e)
not_loaded Seal keyset aad draws old new e u (inl m) = subst (SealRefused keyset aad draws draws old new e) (sym m) (record { untouched = u; undrawn = refl })
not_loaded Open keyset aad draws old new e u (inl m) = (subst (OpenRefused keyset aad draws draws old new e) (sym m) (record { untouched = u; undrawn = refl }), refl)
not_loaded command keyset aad draws old new e u (inr l) = unloaded command keyset aad draws old new e u l

-- what a run answers where there is no memory for what its sink gets together
pub no_room : (command : Command) (keyset aad draws : List ℕ) (m : Outside) (e : TinkError) → e ≡ record { kind = OutOfMemory } → AnswerMeans command keyset aad draws draws m m (Err e)
no_room Seal keyset aad draws m e is = subst (SealRefused keyset aad draws draws m m e) (sym (ap (λ x. x.kind) is)) (record { untouched = refl; undrawn = refl })
no_room Open keyset aad draws m e is = (subst (OpenRefused keyset aad draws draws m m e) (sym (ap (λ x. x.kind) is)) (record { untouched = refl; undrawn = refl }), refl)

pub untouched : (m : Outside) → IsUntouched m m
untouched m = refl

-- ends that stay as they were are left so by every answer
pub leaves_same : {S K : Type 0} (answer : Result Report TinkError) (source : S) (sink : K) → LeavesEnds answer source source sink sink
leaves_same (Ok report) source sink = tt
leaves_same (Err e) source sink = λ early. (refl, refl)

-- and so is a sink
pub leaves_sink_same : {K : Type 0} (answer : Result Report TinkError) (sink : K) → LeavesSinkItself answer sink sink
leaves_sink_same (Ok report) sink = tt
leaves_sink_same (Err e) sink = λ unwritten. refl

-- a seal finds no key wanting, so that it leaves the sink where it is refused early
pub seal_unwritten : {S K : Type 0} (k : StreamKey) (aad draws left_draws : List ℕ) (old new : Outside) (answer : Result Report TinkError) (s t : S) (i j : K)
    → SealsUnder k aad draws left_draws old new answer → LeavesEnds answer s t i j → LeavesSinkItself answer i j
seal_unwritten k aad draws left_draws old new (Ok report) s t i j m early = tt
seal_unwritten k aad draws left_draws old new (Err e) s t i j m early = go e.kind m early
  where
    go : (kind : Kind) → SealsUnderRefused k aad draws left_draws old new e kind → (IsEarly kind → (t ≡ s) × (j ≡ i)) → WritesNothing kind → j ≡ i
    go NoMatchingKey m early unwritten = absurd m
    go _ m early unwritten = (early unwritten).1

-- a seal under the primary key is a seal under the keyset
pub seals_keyset : (keyset aad draws left_draws : List ℕ) (set : TypedPrimitiveSet StreamKind) (key : StreamKey) (old new : Outside) (answer : Result Report TinkError) → GivesLoaded (Ok set) (load keyset) → key_in set.primary ≡ Some key
    → SealsUnder key aad draws left_draws old new answer → AnswerMeans Seal keyset aad draws left_draws old new answer
seals_keyset keyset aad draws left_draws set key old new answer loads primary r =
    let one : Some key ≡ Some loads.0.primary = sym primary ∙ loads.2.primary in
    let same : key ≡ loads.0.primary = cc in
    sealing.under_keyset keyset aad draws left_draws loads.0 old new answer loads.1 (subst (λ k. SealsUnder k aad draws left_draws old new answer) same r)

-- each loaded key is one of a keyset
pub are_of_keyset : (ks : List LoadedKey) → AreUsable ks → All IsOfKeyset (map (λ k. k.key) ks)
are_of_keyset [] u = All-nil IsOfKeyset
are_of_keyset (k ∷ ks) u = All-cons IsOfKeyset k.key (map (λ l. l.key) ks) u.0 (are_of_keyset ks u.1)

-- what an open says under keys, it says under others of which the same is chosen
pub opens_same : (ks js : List OpeningKey) (old new : Outside) → ((S : List ℕ) (c : Option OpeningKey) → IsChosen ks S c → IsChosen js S c) → (answer : Result Report TinkError)
    → OpensUnder ks old new answer → OpensUnder js old new answer
opens_same ks js old new same (Ok report) r = means_by ks js old new (λ S e. same S) (Ok report) r
opens_same ks js old new same (Err e) r = go e.kind refl r
  where
    go : (kind : Kind) → e.kind ≡ kind → OpensUnderRefused ks old new kind → OpensUnderRefused js old new kind
    go OutOfMemory is r = r
    go _ is r = subst (OpeningRefused js old new) is (means_by ks js old new (λ S e. same S) (Err e) (subst (OpeningRefused ks old new) (sym is) r))

-- the keys of a set are those that were loaded into it, those of one prefix in their order
pub ordered_keys : (l : Loaded) (set : TypedPrimitiveSet StreamKind) → HoldsLoaded l set → KeepsOrder set.entries → HaveSameOrder (keys_in (all_entries set.entries)) (map (λ k. k.key) l.keys)
ordered_keys l set holds order =
    subst (HaveSameOrder (keys_in (all_entries set.entries))) holds.keys (same_keys (all_entries set.entries) holds.entries (order holds.entries holds.groups))

-- an open under all keys of the set is an open under the keyset
pub opens_keyset : (keyset aad draws : List ℕ) (set : TypedPrimitiveSet StreamKind) (old new : Outside) (answer : Result Report TinkError) → GivesLoaded (Ok set) (load keyset) → KeepsOrder set.entries
    → EndsAs (OpensReading (map (opening_key aad) (keys_in (all_entries set.entries))) old) old new answer → AnswerMeans Open keyset aad draws draws old new answer
opens_keyset keyset aad draws set old new answer loads order r =
    let l : Loaded = loads.0 in
    let own : List StreamKey = map (λ k. k.key) l.keys in
    let ordered = ordered_keys l set loads.2 order in
    let given : List OpeningKey = map (opening_key aad) (keys_in (all_entries set.entries)) in
    let held : List OpeningKey = map (opening_key aad) own in
    let under : EndsAs (OpensUnder held old) old new answer =
    ends_mapped (OpensReading given old) (OpensUnder held old) old new answer
    (λ m a h. opens_same given held old m (λ S c. (choose_the_same aad S (keys_in (all_entries set.entries)) own c (are_of_keyset l.keys (loaded_usable keyset l loads.1).0) ordered).0) a h.0) r
    in
    let loaded : EndsAs (OpensUnder (opening_keys aad l) old) old new answer = subst (λ (ks : List OpeningKey). EndsAs (OpensUnder ks old) old new answer) (map-map (opening_key aad) (λ k. k.key) l.keys) under in
    (opening.under_keyset keyset aad draws l old new answer loads.1 (opens_ended (opening_keys aad l) (λ S k. chosen_lawful keyset aad S l k loads.1) old new answer loaded), refl)
