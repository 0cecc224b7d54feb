-- What an open into a list says while the sink of a rewrap gathers, it says once all was handed on, and under the keyset that
-- its keys are of.
use Rattle.std.proofs.Common.{inl, inr, ◌≤◌, ◌+◌, ℕ, List, [], map, refl, subst, arith, Some, None, IfSome}
use Rattle.std.proofs.lemmas.List.{append-nil}
use Rattle.std.proofs.lemmas.Simd.{map-map}
use Rattle.std.specs.declared.option.Option.{Option}
use Rattle.std.specs.Prelude.{Result, Ok, Err}
use Rattle.tink_io.specs.Faults.{Rose}
use Rattle.tink_io.specs.declared.error.Kind.TheVariants.{WriteFault}
use Rattle.tink_io.specs.declared.error.TinkError.{TinkError}
use Rattle.stream_model.specs.Key.{StreamKey}
use Rattle.stream_model.specs.Opening.{IsChosen, OpeningKey, opening_key}
use Rattle.stream_model.proofs.OrderFacts.{choose_the_same}
use Rattle.tink_sets.specs.declared.typed_set.TypedPrimitiveSet.{TypedPrimitiveSet}
use Rattle.tink_streaming_keys.specs.declared.stream_kind.StreamKind.{StreamKind}
use Rattle.tink_streaming_aead.specs.Wrapped.{KeepsOrder, all_entries, keys_in}
use Rattle.loading_model.specs.Loading.{Loaded, opening_keys}
use Rattle.tink_run.specs.AllKeys.{load}
use Rattle.tink_run.specs.Endings.{IsRefusedEarly}
use Rattle.tink_run.specs.HeldKeys.{GivesLoaded}
use Rattle.tink_run.specs.declared.report.Report.{Report}
use Rattle.tink_run.specs.OpenAnswers.{OpeningMeans}
use Rattle.tink_run.specs.OpenReads.{ReadsWithin, room_under}
use Rattle.tink_io.specs.Outside.{Outside}
use Rattle.tink_run.proofs.EndingSteps.{opening_cut, opening_kept}
use Rattle.tink_run.proofs.LoadedFacts.{loaded_usable}
use Rattle.tink_run.proofs.OneKeyFacts.{means_by}
use Rattle.tink_run.proofs.OpenLemmas.{chosen_lawful}
use Rattle.tink_run.proofs.OpenSteps.{leaves_under, opens_under}
use Rattle.tink_run.proofs.ReadEndings.{reads_keyset}
use Rattle.tink_run.proofs.RunSteps.{are_of_keyset, ordered_keys}
use Rattle.tink_rewrap.specs.Passing.{LeadsUnder, OpensWithin, into}
use Rattle.tink_rewrap.specs.Rewrapping.{HasKey}

-- What is said of some keys at one moment is said of others at a later one: what an open says, that a text leads, what an open
-- says whose sink fails then, and that a key is chosen.
pub record StaysOpened (ks js : List OpeningKey) (old first new : Outside) : Type 0 where
  pub kept : (text : List ℕ) (answer : Result Report TinkError) → OpensWithin (room_under ks) ks (into [] old) (into text first) answer → OpensWithin (room_under js) js (into [] old) (into text new) answer
  pub led : (text : List ℕ) → LeadsUnder (room_under ks) ks (into [] old) (into text first) → LeadsUnder (room_under js) js (into [] old) (into text new)
  pub cut : Rose old.write_faults new.write_faults → (text : List ℕ) (answer : Result Report TinkError) → OpensWithin (room_under ks) ks (into [] old) (into text first) answer
      → OpensWithin (room_under js) js (into [] old) (into text new) (Err (record { kind = WriteFault }))
  pub begun : HasKey ks old → HasKey js old

-- an open that has begun to read is refused by no early kind
never_early : (keys : List OpeningKey) (old new : Outside) (answer : Result Report TinkError) → OpeningMeans keys old new answer → IsRefusedEarly answer → ⊥
never_early keys old new (Ok report) o early = early
never_early keys old new (Err e) o early = absurd (omega (arith, (leaves_under {S = ℕ} {K = ℕ} keys old new (Err e) 0 1 0 0 o early).0))

-- a keyset that was loaded as a set
module _ (keyset aad : List ℕ) (set : TypedPrimitiveSet StreamKind) (loads : GivesLoaded (Ok set) (load keyset)) (order : KeepsOrder set.entries) where
  abbrev given : List OpeningKey
  given = map (opening_key aad) (keys_in (all_entries set.entries))

  abbrev held : List OpeningKey
  held = opening_keys aad loads.0

  -- the same is chosen of its keys as of all of the set
  same_choice : (S : List ℕ) (c : Option OpeningKey) → IsChosen given S c → IsChosen held S c
  same_choice S c p =
      let l : Loaded = loads.0 in
      let own : List StreamKey = map (λ k. k.key) l.keys in
      let all : List StreamKey = keys_in (all_entries set.entries) in
      let ordered = ordered_keys l set loads.2 order in
      subst (λ (ks : List OpeningKey). IsChosen ks S c) (map-map (opening_key aad) (λ k. k.key) l.keys)
      ((choose_the_same aad S all own c (are_of_keyset l.keys (loaded_usable keyset l loads.1).0) ordered).0 p)

  pub has_key : (left : Option (List ℕ)) → IfSome left (λ S. (key : OpeningKey) × IsChosen given S (Some key)) → IfSome left (λ S. (key : OpeningKey) × IsChosen held S (Some key))
  has_key None x = tt
  has_key (Some S) x = (x.0, same_choice S (Some x.0) x.1)

  module _ (old new : Outside) (faults : ℕ) (earlier : old.write_faults ≤ faults) where
    abbrev first : Outside
    first = record new { write_faults = faults }

    -- how far was read, once all was handed on
    reads_kept : faults ≤ new.write_faults → (text : List ℕ) (answer : Result Report TinkError) → OpensWithin (room_under given) given (into [] old) (into text first) answer → ReadsWithin (room_under held) held (into [] old) (into text new) answer
    reads_kept later text answer o =
        reads_keyset keyset aad set (into [] old) (into text new) answer loads order (record {
          told = Some text;
          faults = faults;
          answer = answer;
          meant = (opens_under given (into [] old) (into text first) answer o.0, o.1);
          ends = inl (record { is = refl; kept = refl });
          grows = (text, refl);
          earlier = earlier;
          later = later;
          early = λ early. absurd (never_early given (into [] old) (into text first) answer o.0 early);
        }) loads.0 loads.1

    -- and where the sink failed then
    reads_cut : (text : List ℕ) (answer : Result Report TinkError) → OpensWithin (room_under given) given (into [] old) (into text first) answer → LeadsUnder (room_under held) held (into [] old) (into text new)
    reads_cut text answer o =
        let failed : Outside = record new { write_faults = faults + 1 } in
        let r = reads_keyset keyset aad set (into [] old) (into text failed) (Err (record { kind = WriteFault })) loads order (record {
          told = Some text;
          faults = faults;
          answer = answer;
          meant = (opens_under given (into [] old) (into text first) answer o.0, o.1);
          ends = inr (record { is = refl; short = ([], append-nil text); cause = inl (omega arith) });
          grows = (text, refl);
          earlier = earlier;
          later = omega arith;
          early = λ early. absurd (never_early given (into [] old) (into text first) answer o.0 early);
        }) loads.0 loads.1
        in
        record { texts = r.texts; lead = r.lead; read = r.read; written = r.written }

  -- a text leads as if the sink of an open had failed in it
  led : (old new : Outside) (faults : ℕ) (text : List ℕ) → LeadsUnder (room_under given) given (into [] old) (into text (record new { write_faults = faults })) → LeadsUnder (room_under held) held (into [] old) (into text new)
  led old new faults text x =
      let r = reads_kept (record old { write_faults = 0 }) (record new { write_faults = 1 }) 1 (omega arith) (omega arith) text (Err (record { kind = WriteFault }))
      ((record { texts = x.texts; lead = x.lead; written = x.written }, omega arith), record { texts = x.texts; lead = x.lead; read = x.read; written = x.written })
      in
      record { texts = r.texts; lead = r.lead; read = r.read; written = r.written }

  pub stays_opened : (old new : Outside) (told : Option (List ℕ)) (faults : ℕ) → old.write_faults ≤ faults → faults ≤ new.write_faults → StaysOpened given held old (record new { got = told; write_faults = faults }) new
  stays_opened old new told faults earlier later = record {
    kept = λ text answer o. (
      means_by given held (into [] old) (into text new) (λ S e. same_choice S) answer (opening_kept (into [] old) new.left new.read_faults (Some text) (Some text) faults new.write_faults refl later given answer o.0),
      reads_kept old new faults earlier later text answer o,
    );
    led = λ text x. led old new faults text x;
    cut = λ rose text answer o. (
      means_by given held (into [] old) (into text new) (λ S e. same_choice S) (Err (record { kind = WriteFault }))
          (opening_cut (into [] old) new.left new.read_faults (Some text) (Some text) faults new.write_faults (text, refl) ([], append-nil text) rose given
          (λ S k p. chosen_lawful keyset aad S loads.0 k loads.1 (same_choice S (Some k) p)) answer o.0),
      reads_cut old new faults earlier text answer o,
    );
    begun = λ x. has_key old.left x;
  }
