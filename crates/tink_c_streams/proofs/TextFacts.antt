-- The text that a reader gave is that of the whole stream.
use Rattle.std.proofs.Common.{◌≡◌, inl, inr, ◌<◌, ℕ, Bool, List, [], ◌∷◌, length, drop, Some, Ok, ap, refl, sym, subst, ◌∙◌, arith}
use Rattle.tink_io.specs.Outside.{Outside}
use Rattle.tink_io.specs.declared.error.Kind.{Kind}
use Rattle.tink_io.specs.declared.error.Kind.TheVariants.{BadSegment, NoMatchingKey, TooManySegments, Truncated}
use Rattle.stream_model.specs.Agree.{Agree, Leads, joined}
use Rattle.stream_model.specs.Cut.{cut}
use Rattle.stream_model.specs.Opening.{IsChosen, IsStream, OpeningKey, header_of}
use Rattle.stream_model.proofs.AgreeFacts.{Agree-empty}
use Rattle.stream_model.proofs.OpeningFacts.{IsChosen-unique}
use Rattle.loading_model.specs.Loading.{Loaded, opening_keys}
use Rattle.tink_keyset_io.specs.Files.{wire_of}
use Rattle.tink_streaming_io.specs.Choosing.{Found}
use Rattle.tink_streaming_io.proofs.ChosenFacts.{stream_opened}
use Rattle.tink_streaming_aead.proofs.SealedFacts.{one_list}
use Rattle.tink_run.specs.AllKeys.{load}
use Rattle.tink_run.specs.Run.{IsWholeText}
use Rattle.tink_run.specs.declared.report.Command.TheVariants.{Open}
use Rattle.tink_run.specs.declared.report.Report.{Report}
use Rattle.tink_run.proofs.OpenLemmas.{chosen_lawful, same_loaded}
use Rattle.tink_c_bytes.specs.Statuses.{c_status, ok}
use Rattle.tink_c_streams.specs.Readers.{ChoosingEndCause, EndCause, EndMeans, EndRefused, HasText, IsReading}
use Rattle.tink_c_streams.specs.Streams.{Ran, Runs, Writes}
use Rattle.tink_c_streams.specs.declared.readers.PieceReader.{PieceReader}
use Rattle.tink_c_streams.specs.declared.readers.PieceReader.TheVariants.{Choosing, Ending, Going, Spent}
use Rattle.tink_c_streams.proofs.ReaderSteps.{first_opens}
use Rattle.tink_c_streams.proofs.StreamSteps.{some_is}

module _ (keys : List OpeningKey) (came given : List ℕ) where
  no_end_choosing : (kind : Kind) → ChoosingEndCause keys came kind → c_status kind ≡ ok → ⊥
  no_end_choosing NoMatchingKey c e = omega (arith, e)
  no_end_choosing _ c e = absurd c

  no_end : (kind : Kind) → EndCause keys came given kind → c_status kind ≡ ok → ⊥
  no_end (BadSegment n) c e = omega (arith, e)
  no_end (Truncated n) c e = omega (arith, e)
  no_end TooManySegments c e = omega (arith, e)
  no_end _ c e = absurd c

  -- a refusal does not answer 0
  not_ok : (old : PieceReader) (kind : Kind) → IsReading keys came given old → EndRefused old kind → c_status kind ≡ ok → ⊥
  not_ok (Choosing c) kind r refused e = no_end_choosing kind (refused keys came given r) e
  not_ok (Going t) kind r refused e = no_end kind (refused keys came given r) e
  not_ok (Ending t) kind r refused e = no_end kind (refused keys came given r) e
  not_ok Spent kind r refused e = absurd r

  pub ended : (old new : PieceReader) → IsReading keys came given old → EndMeans old new ok → HasText keys came given
  ended old new r (inl m) = (m.3.ends keys came given r).whole m.2
  ended old new r (inr (inl m)) = absurd (omega (arith, m.0))
  ended old new r (inr (inr (inl m))) = absurd (omega (arith, m.0))
  ended old new r (inr (inr (inr m))) = absurd (not_ok old m.1.kind r m.1.cause (sym m.1.status_is))

-- a stream of a chosen key has a segment
some_texts : (keys : List OpeningKey) (S : List ℕ) (seg : ℕ → Bool → List ℕ → List ℕ) (front first size over : ℕ) (texts : List (List ℕ)) → Found keys S seg front first size over
    → Leads seg 0 (cut first size (drop front S)) texts [] → 0 < length texts
some_texts keys S seg front first size over [] f leads = absurd (first_opens keys S seg front first size over f (subst (λ cs. Agree seg 0 cs []) leads (Agree-empty seg 0)))
some_texts keys S seg front first size over (t ∷ ts) f leads = omega arith

module _ (wire aad random came given : List ℕ) (l : Loaded) (loads : load wire ≡ Ok l) where
  -- the text that a reader has given, whole, is what opening writes
  pub opened : HasText (opening_keys aad l) came given → Writes (Ran Open wire aad random came) given
  opened h =
      let w = h.whole in
      let f = w.found in
      let lawful = chosen_lawful wire aad came l f.key loads f.chosen in
      let map = lawful.lawful (header_of f.key came) h.seg f.opener.map in
      let texts : List (List ℕ) = w.read.texts in
      let stream : IsStream f.key came texts =
      stream_opened (opening_keys aad l) came h.seg w.front h.first h.size h.overhead texts f (λ i last t. omega (arith, map.longer i last t, f.opener.overhead_is))
      (omega (arith, lawful.room, f.opener.overhead_is, f.opener.first_is)) (some_texts (opening_keys aad l) came h.seg w.front h.first h.size h.overhead texts f w.read.leads) w.read.leads in
      record {
        left_random = random;
        end = record { left = Some []; read_faults = 0; got = Some given; write_faults = 0 };
        report = record { segments = length texts; bytes = length (joined texts) };
        got = refl;
        whole = record {
          loaded = l;
          loads = loads;
          key = f.key;
          chosen = f.chosen;
          texts = texts;
          stream = stream;
          written = ap (λ (x : List ℕ). Some x) (sym w.read.text_is);
          at_end = refl;
          segments = refl;
          bytes = refl;
        };
      }

-- opening writes one text
one_text : (wire aad S : List ℕ) (e f : Outside) (r s : Report) (p : IsWholeText wire aad S [] e r) (q : IsWholeText wire aad S [] f s) → joined q.texts ≡ joined p.texts
one_text wire aad S e f r s p q =
    let same : q.loaded ≡ p.loaded = same_loaded wire q.loaded p.loaded q.loads p.loads in
    let chosen : IsChosen (opening_keys aad p.loaded) S (Some q.key) = subst (λ (l : Loaded). IsChosen (opening_keys aad l) S (Some q.key)) same q.chosen in
    let both : Some q.key ≡ Some p.key = IsChosen-unique (opening_keys aad p.loaded) S (Some q.key) (Some p.key) chosen p.chosen in
    let key : q.key ≡ p.key = cc in
    ap joined (one_list p.key S p.texts q.texts (chosen_lawful wire aad S p.loaded p.key p.loads p.chosen) p.stream (subst (λ (k : OpeningKey). IsStream k S q.texts) key q.stream))

written_once : (wire aad random others S given text : List ℕ) → Writes (Ran Open wire aad random S) given → Writes (Ran Open wire aad others S) text → text ≡ given
written_once wire aad random others S given text a b =
    some_is (sym b.got ∙ b.whole.written) ∙ one_text wire aad S a.end b.end a.report b.report a.whole b.whole ∙ some_is (sym a.whole.written ∙ a.got)

same_wire : (file x y : List ℕ) → wire_of file ≡ Ok x → wire_of file ≡ Ok y → y ≡ x
same_wire file x y p q = cc

pub runs_once : (file aad random others S given text : List ℕ) → Runs Open file aad random S given → Runs Open file aad others S text → text ≡ given
runs_once file aad random others S given text a b =
    written_once a.wire aad random others S given text a.holds
    (subst (λ (w : List ℕ). Writes (Ran Open w aad others S) text) (same_wire file a.wire b.wire a.reads b.reads) b.holds)
