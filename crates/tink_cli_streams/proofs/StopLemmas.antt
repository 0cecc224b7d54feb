-- A task that can be done ends by no error but for want of memory or by a fault of writing.
use Rattle.std.proofs.Common.{◌≡◌, ◌⊎◌, ◌≤◌, arith, drop, inl, inr, ℕ, List, [], length, refl, sym, ◌∙◌, subst, ap}
use Rattle.std.specs.Prelude.{Some, None, Ok, Err}
use Rattle.tink_io.specs.Faults.{Rose}
use Rattle.tink_io.specs.Outside.{HasNoFault, Outside, AreKnown}
use Rattle.tink_io.specs.declared.error.Kind.{Kind}
use Rattle.tink_io.specs.declared.error.Kind.TheVariants.{OutOfMemory, ReadFault, WriteFault, RandomFault, BadKeyset, InvalidKeyset, UnsupportedKeyType, InvalidKey, NoPrimary, WrongPrimitive, UnsupportedHash, TooManySegments, NoMatchingKey, BadSegment, Truncated, InputTooLong}
use Rattle.tink_io.specs.declared.error.TinkError.{TinkError}
use Rattle.stream_model.specs.Agree.{joined}
use Rattle.stream_model.specs.Key.{StreamKey, keys_of}
use Rattle.stream_model.specs.Sealing.{drawn, longest_part, nonce_prefix_of, salt_of}
use Rattle.loading_model.specs.Loading.{Loaded, opening_keys}
use Rattle.tink_run.specs.AllKeys.{load}
use Rattle.tink_run.specs.OpenAnswers.{OpenMeans, OpenRefused, OpeningRefused}
use Rattle.tink_run.specs.OpenReads.{room_under}
use Rattle.tink_run.specs.Run.{CanOpen, CanSeal}
use Rattle.tink_run.specs.SealAnswers.{IsTooLong, SealMeans, SealRefused, SealingRefused}
use Rattle.tink_run.specs.declared.report.Command.TheVariants.{Open, Seal}
use Rattle.tink_run.proofs.OpenLemmas.{same_loaded, stream_complete}
use Rattle.tink_run.proofs.RunLemmas.{sealing_complete}
use Rattle.tink_rewrap.specs.Passing.{LeadsUnder, OpensWithin, Outgrows, PassRefused, bytes_under, into}
use Rattle.tink_rewrap.specs.RewrapPromises.{CanRewrap}
use Rattle.tink_rewrap.specs.Rewrapping.{HasKey, IsUnloaded, RewrapRefused, RewrapsLoaded, RewrapsUnderRefused, Sides, sides}
use Rattle.tink_rewrap.proofs.PromiseSteps.{complete}
use Rattle.tink_tokens.specs.Inputs.{IsOfInput, LeavesSink}
use Rattle.tink_tokens.specs.Tokens.{CanAnswer, Macs, RefusesSigning, RefusesVerifying, SignsTo, TokenRefused, VerifiesTo, macs_of}
use Rattle.tink_tokens.proofs.CompleteFacts.{verify_apart}
use Rattle.tink_tokens.proofs.ToldLemmas.{long_told, never_loaded, of_loaded}
use Rattle.tink_cli_files.specs.Tasks.{CanDo, TaskMeans}
use Rattle.tink_cli_files.specs.declared.tasks.Task.{Task}
use Rattle.tink_cli_files.specs.declared.tasks.Task.TheVariants.{Rewrap, Run, Sign, Verify}
use Rattle.tink_system.specs.Statuses.{refusal_status}
use Rattle.tink_cli_streams.specs.Causes.{EndsBy, IsEnded}
use Rattle.tink_cli_streams.specs.Fitting.{CanMake}

abbrev Stops : Kind → Type 0
Stops kind = (kind ≡ OutOfMemory) ⊎ (kind ≡ WriteFault)

-- the same moment, of a sink that has got a text, where no end has failed
abbrev seen : Outside → List ℕ → Outside
seen m text = record { left = m.left; read_faults = 0; got = Some text; write_faults = 0 }

unfaulty : (a b : Outside) (x y : List ℕ) → HasNoFault (seen a x) (seen b y)
unfaulty a b x y = record { reads = λ rose. omega (arith, rose); writes = λ rose. omega (arith, rose) }

-- ---- a stream that is opened

opening : (keyset aad S : List ℕ) (l : Loaded) (old new : Outside) (kind : Kind) → load keyset ≡ Ok l → old.left ≡ Some S → (Rose old.read_faults new.read_faults → ⊥)
    → CanOpen keyset aad S → OpeningRefused (opening_keys aad l) old new kind → kind ≡ WriteFault
opening keyset aad S l old new NoMatchingKey loads left sure can r =
    absurd (stream_complete keyset aad S [] l (seen old []) (seen new []) NoMatchingKey loads (record { left = left; got = refl }) (unfaulty old new [] []) can
    (record { none = r.none; written = refl }))
opening keyset aad S l old new (Truncated i) loads left sure can r =
    absurd (stream_complete keyset aad S [] l (seen old []) (seen new (joined r.texts)) (Truncated i) loads (record { left = left; got = refl }) (unfaulty old new [] (joined r.texts)) can
    (record { texts = r.texts; number = r.number; some = r.some; stream = r.stream; written = refl }))
opening keyset aad S l old new (BadSegment i) loads left sure can r =
    absurd (stream_complete keyset aad S [] l (seen old []) (seen new (joined r.texts)) (BadSegment i) loads (record { left = left; got = refl }) (unfaulty old new [] (joined r.texts)) can
    (record { texts = r.texts; number = r.number; some = r.some; stream = r.stream; written = refl }))
opening keyset aad S l old new TooManySegments loads left sure can r =
    absurd (stream_complete keyset aad S [] l (seen old []) (seen new (joined r.texts)) TooManySegments loads (record { left = left; got = refl }) (unfaulty old new [] (joined r.texts)) can
    (record { texts = r.texts; number = r.number; stream = r.stream; written = refl }))
opening keyset aad S l old new ReadFault loads left sure can r = absurd (sure r.1)
opening keyset aad S l old new WriteFault loads left sure can r = refl
opening keyset aad S l old new _ loads left sure can r = absurd r

open_stops : (keyset aad draws left_draws S : List ℕ) (old new : Outside) (e : TinkError) → OpenMeans keyset aad draws left_draws old new (Err e) → old.left ≡ Some S
    → (Rose old.read_faults new.read_faults → ⊥) → CanOpen keyset aad S → Stops e.kind
open_stops keyset aad draws left_draws S old new e m left sure can = go e.kind refl m
  where
    loads_not : (kind : Kind) → load keyset ≡ Err kind → ⊥
    loads_not kind e = let f = can.loads in cc

    go : (kind : Kind) → e.kind ≡ kind → OpenRefused keyset aad draws left_draws old new e kind → Stops e.kind
    go OutOfMemory same r = inl same
    go BadKeyset same r = absurd (loads_not BadKeyset r.cause)
    go InvalidKeyset same r = absurd (loads_not InvalidKeyset r.cause)
    go UnsupportedKeyType same r = absurd (loads_not UnsupportedKeyType r.cause)
    go InvalidKey same r = absurd (loads_not InvalidKey r.cause)
    go NoPrimary same r = absurd (loads_not NoPrimary r.cause)
    go WrongPrimitive same r = absurd (loads_not WrongPrimitive r.cause)
    go ReadFault same r = inr (opening keyset aad S r.loaded old new e.kind r.loads left sure can r.means)
    go WriteFault same r = inr same
    go TooManySegments same r = inr (opening keyset aad S r.loaded old new e.kind r.loads left sure can r.means)
    go NoMatchingKey same r = inr (opening keyset aad S r.loaded old new e.kind r.loads left sure can r.means)
    go (BadSegment i) same r = inr (opening keyset aad S r.loaded old new e.kind r.loads left sure can r.means)
    go (Truncated i) same r = inr (opening keyset aad S r.loaded old new e.kind r.loads left sure can r.means)
    go _ same r = absurd r

-- ---- a stream that is sealed

seal_stops : (keyset aad draws left_draws T : List ℕ) (old new : Outside) (e : TinkError) → SealMeans keyset aad draws left_draws old new (Err e) → old.left ≡ Some T
    → (Rose old.read_faults new.read_faults → ⊥) → CanSeal keyset aad draws T → Stops e.kind
seal_stops keyset aad draws left_draws T old new e m left sure can = go e.kind refl m
  where
    loads_not : (kind : Kind) → load keyset ≡ Err kind → ⊥
    loads_not kind e = let f = can.loads in cc

    go : (kind : Kind) → e.kind ≡ kind → SealRefused keyset aad draws left_draws old new e kind → Stops e.kind
    go OutOfMemory same r = inl same
    go BadKeyset same r = absurd (loads_not BadKeyset r.cause)
    go InvalidKeyset same r = absurd (loads_not InvalidKeyset r.cause)
    go UnsupportedKeyType same r = absurd (loads_not UnsupportedKeyType r.cause)
    go InvalidKey same r = absurd (loads_not InvalidKey r.cause)
    go NoPrimary same r = absurd (loads_not NoPrimary r.cause)
    go WrongPrimitive same r = absurd (loads_not WrongPrimitive r.cause)
    go RandomFault same r =
        let one : r.loaded ≡ can.loaded = same_loaded keyset r.loaded can.loaded r.loads can.loads in
        absurd (omega (arith, r.few, subst (λ (l : Loaded). drawn l.primary ≤ length draws) (sym one) can.enough))
    go UnsupportedHash same r =
        let one : r.loaded ≡ can.loaded = same_loaded keyset r.loaded can.loaded r.loads can.loads in
        absurd (can.derives (subst (λ (l : Loaded). keys_of l.primary aad (salt_of l.primary draws) ≡ None) one r.none))
    go ReadFault same r =
        absurd (sure (subst (SealingRefused r.loaded.primary aad (salt_of r.loaded.primary draws) (nonce_prefix_of r.loaded.primary draws) old new) same r.means).rose)
    go WriteFault same r = inr same
    go TooManySegments same r =
        let k : StreamKey = r.loaded.primary in
        let x : IsTooLong k aad (salt_of k draws) (nonce_prefix_of k draws) old new = subst (SealingRefused k aad (salt_of k draws) (nonce_prefix_of k draws) old new) same r.means in
        let all = longest_part k aad (salt_of k draws) (nonce_prefix_of k draws) x.text in
        absurd (sealing_complete keyset aad draws left_draws T [] (seen old []) (seen new all) (record { kind = TooManySegments }) TooManySegments refl (record {
          loaded = r.loaded;
          loads = r.loads;
          enough = r.enough;
          rest = r.rest;
          derives = r.derives;
          means = record { text = x.text; read = x.read; many = x.many; written = refl };
        }) (record { left = left; got = refl }) (unfaulty old new [] all) can)
    go _ same r = absurd r

-- ---- a stream that is moved

module _ (s : Sides) (draws left_draws S : List ℕ) (old new : Outside) (left : old.left ≡ Some S) (sure : Rose old.read_faults new.read_faults → ⊥) (can : CanRewrap s draws S) where
  opens : CanOpen s.from s.from_aad S
  opens = record { loaded = can.from_loaded; loads = can.from_loads; key = can.key; chosen = can.chosen; texts = can.texts; stream = can.stream }

  -- its text does not have too many chunks
  outgrows_not : (l m : Loaded) → load s.from ≡ Ok l → load s.to ≡ Ok m → drawn m.primary ≤ length draws → (keys_of m.primary s.to_aad (salt_of m.primary draws) ≡ None → ⊥)
      → left_draws ≡ drop (drawn m.primary) draws
      → Outgrows (OpensWithin (room_under (opening_keys s.from_aad l)) (opening_keys s.from_aad l)) (LeadsUnder (room_under (opening_keys s.from_aad l)) (opening_keys s.from_aad l))
      (HasKey (opening_keys s.from_aad l)) (bytes_under m.primary s.to_aad draws) old new → ⊥
  outgrows_not l m from to enough derives rest x =
      let all = longest_part m.primary s.to_aad (salt_of m.primary draws) (nonce_prefix_of m.primary draws) x.text in
      let want = complete s draws left_draws (seen old []) (seen new all) (Err (record { kind = TooManySegments })) (record {
        from_loaded = l;
        from_loads = from;
        to_loaded = m;
        to_loads = to;
        means = record {
          enough = enough;
          rest = rest;
          derives = derives;
          means = inl (record {
            text = x.text;
            opened = record { texts = x.opened.texts; lead = x.opened.lead; read = x.opened.read; written = x.opened.written };
            many = x.many;
            written = refl;
          });
        };
      }) S [] (record { left = left; got = refl }) (unfaulty old new [] all) can in
      cc want

  passing : (l m : Loaded) → load s.from ≡ Ok l → load s.to ≡ Ok m → drawn m.primary ≤ length draws → (keys_of m.primary s.to_aad (salt_of m.primary draws) ≡ None → ⊥)
      → left_draws ≡ drop (drawn m.primary) draws → (kind : Kind)
      → PassRefused (OpensWithin (room_under (opening_keys s.from_aad l)) (opening_keys s.from_aad l)) (LeadsUnder (room_under (opening_keys s.from_aad l)) (opening_keys s.from_aad l))
      (HasKey (opening_keys s.from_aad l)) (bytes_under m.primary s.to_aad draws) old new kind → kind ≡ WriteFault
  passing l m from to enough derives rest NoMatchingKey x = opening s.from s.from_aad S l (into [] old) (into [] new) NoMatchingKey from left sure opens x.opened.0
  passing l m from to enough derives rest TooManySegments (inl x) = absurd (outgrows_not l m from to enough derives rest x)
  passing l m from to enough derives rest TooManySegments (inr x) = opening s.from s.from_aad S l (into [] old) (into x.text new) TooManySegments from left sure opens x.opened.0
  passing l m from to enough derives rest (Truncated i) x = opening s.from s.from_aad S l (into [] old) (into x.text new) (Truncated i) from left sure opens x.opened.0
  passing l m from to enough derives rest (BadSegment i) x = opening s.from s.from_aad S l (into [] old) (into x.text new) (BadSegment i) from left sure opens x.opened.0
  passing l m from to enough derives rest ReadFault x = opening s.from s.from_aad S l (into [] old) (into x.text new) ReadFault from left sure opens x.opened.0
  passing l m from to enough derives rest WriteFault x = refl
  passing l m from to enough derives rest _ x = absurd x

  under : (e : TinkError) (l m : Loaded) → load s.from ≡ Ok l → load s.to ≡ Ok m → (kind : Kind) → e.kind ≡ kind
      → RewrapsUnderRefused (opening_keys s.from_aad l) m.primary s.to_aad draws left_draws old new e kind → Stops e.kind
  under e l m from to OutOfMemory same x = inl same
  under e l m from to RandomFault same x =
      absurd (omega (arith, x.few, subst (λ (y : Loaded). drawn y.primary ≤ length draws) (same_loaded s.to can.to_loaded m can.to_loads to) can.enough))
  under e l m from to UnsupportedHash same x =
      absurd (can.derives (subst (λ (y : Loaded). keys_of y.primary s.to_aad (salt_of y.primary draws) ≡ None) (same_loaded s.to m can.to_loaded to can.to_loads) x.none))
  under e l m from to NoMatchingKey same x = inr (passing l m from to x.enough x.derives x.rest e.kind x.means)
  under e l m from to TooManySegments same x = inr (passing l m from to x.enough x.derives x.rest e.kind x.means)
  under e l m from to (Truncated i) same x = inr (passing l m from to x.enough x.derives x.rest e.kind x.means)
  under e l m from to (BadSegment i) same x = inr (passing l m from to x.enough x.derives x.rest e.kind x.means)
  under e l m from to ReadFault same x = inr (passing l m from to x.enough x.derives x.rest e.kind x.means)
  under e l m from to WriteFault same x = inr same
  under e l m from to _ same x = absurd x

  loads_not : (kind : Kind) → IsUnloaded s kind draws left_draws old new → ⊥
  loads_not kind x = elim x.cause [ inl e ↦ (let f = can.from_loads in cc) | inr e ↦ (let g = e.cause in let f = can.to_loads in cc) ]

  loaded : (e : TinkError) → RewrapsLoaded s draws left_draws old new (Err e) → Stops e.kind
  loaded e x = under e x.from_loaded x.to_loaded x.from_loads x.to_loads e.kind refl x.means

  refused : (e : TinkError) (kind : Kind) → e.kind ≡ kind → RewrapRefused s draws left_draws old new e kind → Stops e.kind
  refused e OutOfMemory same x = inl same
  refused e BadKeyset same x = absurd (loads_not BadKeyset x)
  refused e InvalidKeyset same x = absurd (loads_not InvalidKeyset x)
  refused e UnsupportedKeyType same x = absurd (loads_not UnsupportedKeyType x)
  refused e InvalidKey same x = absurd (loads_not InvalidKey x)
  refused e NoPrimary same x = absurd (loads_not NoPrimary x)
  refused e WrongPrimitive same x = absurd (loads_not WrongPrimitive x)
  refused e RandomFault same x = loaded e x
  refused e UnsupportedHash same x = loaded e x
  refused e NoMatchingKey same x = loaded e x
  refused e TooManySegments same x = loaded e x
  refused e (Truncated i) same x = loaded e x
  refused e (BadSegment i) same x = loaded e x
  refused e ReadFault same x = loaded e x
  refused e WriteFault same x = loaded e x
  refused e _ same x = absurd x

-- ---- a token

module _ (Gives : Macs → List ℕ → List ℕ → Type 0) (Refuses : Macs → List ℕ → Kind → Type 0)
    (apart : (macs : Macs) (input output : List ℕ) (kind : Kind) → Gives macs input output → Refuses macs input kind → ⊥)
    (keyset T : List ℕ) (old new : Outside) (left : old.left ≡ Some T) (sure : Rose old.read_faults new.read_faults → ⊥) (can : CanAnswer Gives Refuses keyset T) where
  told : AreKnown (seen old []) T []
  told = record { left = left; got = refl }

  accepted : (kind : Kind) → IsOfInput (macs_of keyset) old new (λ macs input. Refuses macs input kind × LeavesSink old new) → ⊥
  accepted kind m = apart can.macs T can.output kind can.gives
      (of_loaded (macs_of keyset) (λ macs input. Refuses macs input kind) (seen old []) (seen new []) T [] can.macs told can.loads
      (record { loaded = m.loaded; loads = m.loads; input = m.input; has = m.has; then = m.then.0 }))

  token_stops : (kind : Kind) → TokenRefused Gives Refuses keyset old new kind → Stops kind
  token_stops OutOfMemory m = inl refl
  token_stops BadKeyset m = absurd (never_loaded (macs_of keyset) BadKeyset can.macs m.cause can.loads)
  token_stops InvalidKeyset m = absurd (never_loaded (macs_of keyset) InvalidKeyset can.macs m.cause can.loads)
  token_stops UnsupportedKeyType m = absurd (never_loaded (macs_of keyset) UnsupportedKeyType can.macs m.cause can.loads)
  token_stops InvalidKey m = absurd (never_loaded (macs_of keyset) InvalidKey can.macs m.cause can.loads)
  token_stops NoPrimary m = absurd (never_loaded (macs_of keyset) NoPrimary can.macs m.cause can.loads)
  token_stops WrongPrimitive m = absurd (never_loaded (macs_of keyset) WrongPrimitive can.macs m.cause can.loads)
  token_stops ReadFault m = absurd (sure m.2)
  token_stops InputTooLong m = long_told (seen old []) T [] told m.2 can.fits
  token_stops WriteFault m = inr refl
  token_stops _ m = absurd (accepted _ m)

-- ---- each task

task_stops : (task : Task) (keyset aad drawn rest text : List ℕ) (old new : Outside) (e : TinkError) → TaskMeans task keyset aad drawn rest old new (Err e) → old.left ≡ Some text
    → (Rose old.read_faults new.read_faults → ⊥) → CanDo task keyset aad drawn text → Stops e.kind
task_stops (Run Seal) keyset aad drawn rest text old new e means left sure can = seal_stops keyset aad drawn rest text old new e means.0 left sure can
task_stops (Run Open) keyset aad drawn rest text old new e means left sure can = open_stops keyset aad drawn rest text old new e means.0.0 left sure can
task_stops (Rewrap to to_aad) keyset aad drawn rest text old new e means left sure can =
    refused (sides keyset aad to.now to_aad.now) drawn rest text old new left sure can e e.kind refl means.0
task_stops Sign keyset aad drawn rest text old new e means left sure can =
    token_stops SignsTo RefusesSigning (λ macs input output kind gives refuses. refuses) keyset text old new left sure can e.kind means.means
task_stops Verify keyset aad drawn rest text old new e means left sure can =
    token_stops VerifiesTo RefusesVerifying verify_apart keyset text old new left sure can e.kind means.means

-- by its status
by_kind : (task : Task) (keyset aad drawn text : List ℕ) (status : ℕ) → EndsBy task keyset aad drawn text status → CanDo task keyset aad drawn text
    → (status ≡ 10) ⊎ (status ≡ 12)
by_kind task keyset aad drawn text status ends can =
    by (task_stops task keyset aad drawn ends.rest text ends.old ends.new ends.e ends.means ends.reads ends.sure can)
  where
    by : Stops ends.e.kind → (status ≡ 10) ⊎ (status ≡ 12)
    by (inl want) = inl (ends.status_is ∙ ap (λ (k : Kind). refusal_status k) want)
    by (inr unwritten) = inr (ends.status_is ∙ ap (λ (k : Kind). refusal_status k) unwritten)

pub ends_stop : (task : Task) (keyset aad drawn text : List ℕ) (status : ℕ) → IsEnded task keyset aad drawn text status → CanMake task keyset aad drawn text
    → (status ≡ 10) ⊎ (status ≡ 12)
ends_stop task keyset aad drawn text status (inl ends) can = by_kind task keyset aad drawn text status ends can.0
ends_stop task keyset aad drawn text status (inr long) can = absurd (can.1 long.1)
