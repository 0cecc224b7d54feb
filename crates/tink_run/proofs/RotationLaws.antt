-- What a keyset opens is what `run` opens under its encoding.
use Rattle.std.proofs.Common.{◌≡◌, ◌∙◌, ◌++◌, ℕ, List, Some, refl, sym, ap, subst}
use Rattle.std.specs.Prelude.{Ok, IsTrue}
use Rattle.tink_proto.specs.declared.messages.keys.Keyset.{Keyset}
use Rattle.tink_proto.specs.Messages.{keyset}
use Rattle.wire_format.specs.Message.{encoded}
use Rattle.wire_format.proofs.ReadingLaws.{written_again}
use Rattle.keyset_model.specs.Operations.{after_all}
use Rattle.stream_model.specs.Agree.{joined}
use Rattle.stream_model.specs.Opening.{IsStream}
use Rattle.stream_model.proofs.OpeningFacts.{IsChosen-unique}
use Rattle.loading_model.specs.Loading.{Loaded, load_decoded, load_keyset, opening_keys}
use Rattle.loading_model.specs.Rotation.{OpensTo}
use Rattle.loading_model.proofs.RotationFacts.{streams_outlive, streams_outlive_by_id, streams_stay}
use Rattle.tink_streaming_aead.proofs.SealedFacts.{one_list}
use Rattle.tink.specs.LoadingRows.{rows}
use Rattle.tink_run.specs.AllKeys.{load}
use Rattle.tink_io.specs.Outside.{Outside}
use Rattle.tink_run.specs.Rotation.{Opens, OpensAs, RunOpensAfterAdding, RunOpensAfterAll, RunOpensById, RunOpensEdited, RunsTo}
use Rattle.tink_run.specs.Run.{CanOpen, IsWholeText}
use Rattle.tink_run.specs.declared.report.Report.{Report}
use Rattle.tink_run.proofs.OpenLemmas.{chosen_lawful}

encoded_loads : (ks : Keyset) → IsTrue (keyset.fits ks) → load (encoded keyset.write ks) ≡ load_keyset rows ks
unfolding load
encoded_loads ks fits = ap (load_decoded rows) (written_again keyset ks fits)

module _ (ks : Keyset) (aad S : List ℕ) (fits : IsTrue (keyset.fits ks)) where
  from_run : CanOpen (encoded keyset.write ks) aad S → (text : List ℕ) × Opens ks aad S text
  from_run c =
      let opens : OpensTo c.loaded aad S (joined c.texts) =
      record { key = c.key; chosen = c.chosen; texts = c.texts; stream = c.stream; whole = refl } in
      (joined c.texts, (c.loaded, sym (encoded_loads ks fits) ∙ c.loads, opens))

  to_run : (text : List ℕ) → Opens ks aad S text → CanOpen (encoded keyset.write ks) aad S
  to_run text o = record {
    loaded = o.0;
    loads = encoded_loads ks fits ∙ o.1;
    key = o.2.key;
    chosen = o.2.chosen;
    texts = o.2.texts;
    stream = o.2.stream;
  }

  -- the loaded keys open a stream to one text
  one_of : (l : Loaded) (text other : List ℕ) → load_keyset rows ks ≡ Ok l → OpensTo l aad S text
      → OpensTo l aad S other → other ≡ text
  one_of l text other loads o p =
      let both : Some p.key ≡ Some o.key =
      IsChosen-unique (opening_keys aad l) S (Some p.key) (Some o.key) p.chosen o.chosen in
      let same : p.key ≡ o.key = cc in
      let lawful = chosen_lawful (encoded keyset.write ks) aad S l o.key (encoded_loads ks fits ∙ loads) o.chosen in
      let texts = one_list o.key S o.texts p.texts lawful o.stream (subst (λ k. IsStream k S p.texts) same p.stream) in
      p.whole ∙ ap joined texts ∙ sym o.whole

  same_loaded : (l m : Loaded) → load_keyset rows ks ≡ Ok l → load_keyset rows ks ≡ Ok m → m ≡ l
  same_loaded l m p q = cc

  one_text : (text other : List ℕ) → Opens ks aad S text → Opens ks aad S other → other ≡ text
  one_text text other o p =
      one_of o.0 text other o.1 o.2 (subst (λ l. OpensTo l aad S other) (same_loaded o.0 p.0 o.1 p.1) p.2)

  writes_text : (text G : List ℕ) (new : Outside) (report : Report) → Opens ks aad S text
      → IsWholeText (encoded keyset.write ks) aad S G new report → new.got ≡ Some (G ++ text)
  writes_text text G new report o w =
      let opens : OpensTo w.loaded aad S (joined w.texts) =
      record { key = w.key; chosen = w.chosen; texts = w.texts; stream = w.stream; whole = refl } in
      let told : Opens ks aad S (joined w.texts) = (w.loaded, sym (encoded_loads ks fits) ∙ w.loads, opens) in
      w.written ∙ ap (λ t. Some (G ++ t)) (one_text text (joined w.texts) o told)

  opens_as : OpensAs ks aad S
  opens_as = record {
    loads = encoded_loads ks fits;
    can = (from_run, λ h. to_run h.0 h.1);
    one = one_text;
    writes = writes_text;
  }

  runs_to : (text : List ℕ) → Opens ks aad S text → RunsTo ks aad S text
  runs_to text o = record { can = to_run text o; writes = λ G new report w. writes_text text G new report o w }

pub run_opens_edited : RunOpensEdited
run_opens_edited makes m cs aad S fits = opens_as (after_all makes m cs).keyset aad S fits

pub run_opens_after_adding : RunOpensAfterAdding
run_opens_after_adding makes m cs aad S text adds used o =
    let later = streams_stay rows makes m cs o.0 used.loaded aad S text adds o.1 used.loads o.2 in
    runs_to (after_all makes m cs).keyset aad S used.fits text (used.loaded, used.loads, later)

pub run_opens_after_all : RunOpensAfterAll
run_opens_after_all makes m cs aad S text place id key at leave used o =
    let same = streams_outlive rows makes m cs o.0 used.loaded aad S place id key at leave o.1 used.loads text in
    runs_to (after_all makes m cs).keyset aad S used.fits text (used.loaded, used.loads, same.0 o.2)

pub run_opens_by_id : RunOpensById
run_opens_by_id makes m cs aad S text place id key at spared used o =
    let same = streams_outlive_by_id rows makes m cs o.0 used.loaded aad S place id key at spared o.1 used.loads text in
    runs_to (after_all makes m cs).keyset aad S used.fits text (used.loaded, used.loads, same.0 o.2)
