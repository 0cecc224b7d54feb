-- From what a reader under the chosen key finds to what an open answers.
use Rattle.std.proofs.Common.{◌≡◌, ◌≤◌, ◌<◌, ◌+◌, ◌^◌, ℕ, zero, suc, Bool, List, [], ◌∷◌, length, take, drop, refl, sym, subst, arith, Some, None, IfSome}
use Rattle.std.specs.declared.option.Option.{Option}
use Rattle.std.specs.Prelude.{Result, Ok, Err, IsSome}
use Rattle.std.specs.Io.KnownBytes.{Appends, Keeps, prepend_known}
use Rattle.std.proofs.KnownBytes.{prepend_known-nil}
use Rattle.tink_io.proofs.FaultLemmas.{Rose-earlier}
use Rattle.tink_io.specs.Written.{AppendsPrefix}
use Rattle.tink_io.specs.declared.error.Kind.{Kind}
use Rattle.tink_io.specs.declared.error.Kind.TheVariants.{OutOfMemory, ReadFault, WriteFault, TooManySegments, NoMatchingKey, BadSegment, Truncated}
use Rattle.tink_io.specs.declared.error.TinkError.{TinkError}
use Rattle.stream_model.specs.Cut.{cut}
use Rattle.stream_model.specs.Agree.{AreTexts, Agree, Leads, joined}
use Rattle.stream_model.specs.Opening.{OpeningKey, FirstAgrees, IsChosen, chunks_of}
use Rattle.tink_streaming_io.specs.Choosing.{Found, Started, StartRefused}
use Rattle.tink_streaming_io.proofs.ChosenFacts.{chosen_begins, chunks_are, stream_opened, stream_agreed}
use Rattle.loading_model.specs.Loading.{Loaded, opening_keys}
use Rattle.tink_run.specs.AllKeys.{load}
use Rattle.tink_run.specs.declared.report.Report.{Report}
use Rattle.tink_io.specs.Outside.{Outside}
use Rattle.tink_run.specs.Run.{IsEarly, LeavesEnds}
use Rattle.tink_run.specs.OpenAnswers.{IsOfChosen, AgreesUntil, Lead, AreTextsBy, chunk_of, IsOpenedWhole, IsBroken, IsCutOff, OpeningRefused, OpeningMeans, OpensLoaded, OpenMeans, OpenRefused}
use Rattle.tink_run.specs.OpenSteps.{IsReadOut, Breaks, CutsOff, HasShort, HasLong, HasMore, ReaderRefused, ReaderMeans, OpensUnderRefused, OpensUnder}
use Rattle.tink_run.proofs.OpenLemmas.{kept_nothing}

-- nothing is held before the first read
pub unread : (n : ℕ) (xs : List ℕ) (left : Option (List ℕ)) → n ≡ 0 → prepend_known (take n xs) left ≡ left
unread zero xs left e = prepend_known-nil left
unread (suc n) xs left e = absurd (omega (arith, e))

any_told : (all : Option (List ℕ)) → IfSome all (λ X. Unit {0})
any_told None = tt
any_told (Some X) = tt

-- a reader for the key that was chosen
module _ (keys : List OpeningKey) (seg : ℕ → Bool → List ℕ → List ℕ) (first size overhead : ℕ) where
  abbrev Begun : Option (List ℕ) → List ℕ → Type 0
  Begun left X = Started keys X left seg first size overhead

  abbrev Chosen : ℕ → List ℕ → Type 0
  Chosen header X = Found keys X seg header first size overhead

  abbrev chunks : ℕ → List ℕ → List (List ℕ)
  chunks header X = cut first size (drop header X)

  -- what is told of what is behind the front
  pub behind : (old mid : Option (List ℕ)) (P Q : List ℕ → Type 0) → ((X : List ℕ) (s : Begun mid X) → P (drop s.front X) → Q X) → IfSome old (Begun mid) → IfSome mid P → IfSome old Q
  behind None mid P Q f s h = tt
  behind (Some X) mid P Q f s h = f X s (subst (λ (o : Option (List ℕ)). IfSome o P) s.rest h)

  pub leads_under : (header : ℕ) (X : List ℕ) (texts : List (List ℕ)) → Chosen header X → AreTexts seg 0 (chunks header X) texts → Lead keys X texts
  leads_under header X [] f p = tt
  leads_under header X (t ∷ ts) f p =
      let k : OpeningKey = f.key in (
        k,
        f.chosen,
        subst (λ (s : Option (ℕ → Bool → List ℕ → List ℕ)). AreTextsBy s (chunks_of k X) (t ∷ ts)) (sym f.opener.map)
            (subst (λ (cs : List (List ℕ)). AreTexts seg 0 cs (t ∷ ts)) (chunks_are k X seg header first size overhead f.opener) p),
      )

  -- the stream begins under the chosen key, so some text agrees
  pub some_agrees : (header : ℕ) (X : List ℕ) → Chosen header X → Agree seg 0 (chunks header X) [] → ⊥
  some_agrees header X f p =
      let k : OpeningKey = f.key in
      let begins = subst (λ (s : Option (ℕ → Bool → List ℕ → List ℕ)). FirstAgrees s (chunks_of k X)) f.opener.map (chosen_begins keys X k f.chosen).first in
      let one : AreTexts seg 0 (chunks header X) (begins.0 ∷ []) = subst (λ (cs : List (List ℕ)). AreTexts seg 0 cs (begins.0 ∷ [])) (sym (chunks_are k X seg header first size overhead f.opener)) begins.1 in
      omega (arith, p.longest (begins.0 ∷ []) one)

  -- a stop under the chosen key
  agrees_under : (header : ℕ) (X : List ℕ) (texts : List (List ℕ)) (P : List (List ℕ) → Type 0) (Q : OpeningKey → Type 0) (f : Chosen header X) → (P (chunks_of f.key X) → Q f.key)
      → Agree seg 0 (chunks header X) texts × P (chunks header X) → AgreesUntil keys X texts Q
  agrees_under header X texts P Q f g p = record {
    key = f.key;
    chosen = f.chosen;
    agreed = stream_agreed keys X seg header first size overhead texts f p.0;
    then = g (subst P (chunks_are f.key X seg header first size overhead f.opener) p.1);
  }

  pub breaks_under : (old mid new : Outside) → mid.got ≡ old.got → IfSome old.left (Begun mid.left) → Breaks seg first size mid new → IsBroken keys old new
  breaks_under old mid new got started b = record {
    texts = b.texts;
    lead = behind old.left mid.left (λ Y. AreTexts seg 0 (cut first size Y) b.texts) (λ X. Lead keys X b.texts) (λ X s p. leads_under s.front X b.texts s.found p) started b.lead;
    written = subst (λ (o : Option (List ℕ)). AppendsPrefix o new.got (joined b.texts)) got b.written;
  }

  cut_under : (old mid new : Outside) → mid.got ≡ old.got → IfSome old.left (Begun mid.left) → CutsOff seg first size mid new → IsCutOff keys old new
  cut_under old mid new got started b = record {
    texts = b.texts;
    lead = behind old.left mid.left (λ Y. AreTexts seg 0 (cut first size Y) b.texts) (λ X. Lead keys X b.texts) (λ X s p. leads_under s.front X b.texts s.found p) started b.lead;
    written = subst (λ (o : Option (List ℕ)). Appends o new.got (joined b.texts)) got b.written;
  }

  refused_under : (old mid new : Outside) (kind : Kind) → mid.got ≡ old.got → old.read_faults ≤ mid.read_faults → old.write_faults ≤ mid.write_faults → IfSome old.left (Begun mid.left)
      → ReaderRefused seg first size overhead mid new kind → OpeningRefused keys old new kind
  refused_under old mid new NoMatchingKey got reads writes started x = record {
    none = behind old.left mid.left (λ Y. Agree seg 0 (cut first size Y) []) (λ X. IsChosen keys X None) (λ X s p. absurd (some_agrees s.front X s.found p)) started x.nothing;
    written = subst (λ (o : Option (List ℕ)). Keeps o new.got) got x.written;
  }
  refused_under old mid new (Truncated n) got reads writes started x = record {
    texts = x.texts;
    number = x.number;
    some = x.some;
    stream = behind old.left mid.left (λ Y. Agree seg 0 (cut first size Y) x.texts × HasShort n overhead (cut first size Y))
        (λ X. AgreesUntil keys X x.texts (λ k. (0 < length (chunk_of k X n)) × (length (chunk_of k X n) < k.overhead)))
        (λ X s h. agrees_under s.front X x.texts (HasShort n overhead) (λ k. (0 < length (chunk_of k X n)) × (length (chunk_of k X n) < k.overhead)) s.found (λ p. (p.0, omega (arith, p.1, s.found.opener.overhead_is))) h) started x.agree;
    written = subst (λ (o : Option (List ℕ)). Appends o new.got (joined x.texts)) got x.written;
  }
  refused_under old mid new (BadSegment n) got reads writes started x = record {
    texts = x.texts;
    number = x.number;
    some = x.some;
    stream = behind old.left mid.left (λ Y. Agree seg 0 (cut first size Y) x.texts × HasLong n overhead (cut first size Y))
        (λ X. AgreesUntil keys X x.texts (λ k. k.overhead ≤ length (chunk_of k X n)))
        (λ X s h. agrees_under s.front X x.texts (HasLong n overhead) (λ k. k.overhead ≤ length (chunk_of k X n)) s.found (λ p. omega (arith, p, s.found.opener.overhead_is)) h) started x.agree;
    written = subst (λ (o : Option (List ℕ)). Appends o new.got (joined x.texts)) got x.written;
  }
  refused_under old mid new TooManySegments got reads writes started x = record {
    texts = x.texts;
    number = sym x.number;
    stream = behind old.left mid.left (λ Y. Agree seg 0 (cut first size Y) x.texts × HasMore (2 ^ 32) (cut first size Y))
        (λ X. AgreesUntil keys X x.texts (λ k. 2 ^ 32 < length (chunks_of k X)))
        (λ X s h. agrees_under s.front X x.texts (HasMore (2 ^ 32)) (λ k. 2 ^ 32 < length (chunks_of k X)) s.found (λ p. p) h) started x.agree;
    written = subst (λ (o : Option (List ℕ)). Appends o new.got (joined x.texts)) got x.written;
  }
  refused_under old mid new ReadFault got reads writes started x = (cut_under old mid new got started x.0, Rose-earlier old.read_faults mid.read_faults new.read_faults reads x.1)
  refused_under old mid new WriteFault got reads writes started x = (breaks_under old mid new got started x.0, Rose-earlier old.write_faults mid.write_faults new.write_faults writes x.1)
  refused_under old mid new _ got reads writes started x = absurd x

  opened_under : (old mid new : Outside) (report : Report) → overhead < first → ((i : ℕ) (last : Bool) (t : List ℕ) → length (seg i last t) ≡ length t + overhead) → mid.got ≡ old.got → IfSome old.left (Begun mid.left)
      → IsReadOut seg first size mid new report → IsOpenedWhole keys old new report
  opened_under old mid new report fits longer got started x = record {
    texts = x.texts;
    stream = behind old.left mid.left (λ Y. Leads seg 0 (cut first size Y) x.texts []) (λ X. IsOfChosen keys X x.texts)
        (λ X s p. record { key = s.found.key; chosen = s.found.chosen; stream = stream_opened keys X seg s.front first size overhead x.texts s.found longer fits x.some p }) started x.leads;
    stays_told = behind old.left mid.left (λ _. IsSome new.left) (λ _. IsSome new.left) (λ X s p. p) started x.stays_told;
    at_end = x.at_end;
    written = subst (λ (o : Option (List ℕ)). Appends o new.got (joined x.texts)) got x.written;
    segments = x.segments;
    bytes = x.bytes;
  }

  -- what the chosen key's reader finds is what an open answers
  pub means_under : (old mid new : Outside) (answer : Result Report TinkError) → overhead < first → ((i : ℕ) (last : Bool) (t : List ℕ) → length (seg i last t) ≡ length t + overhead) → mid.got ≡ old.got → old.read_faults ≤ mid.read_faults → old.write_faults ≤ mid.write_faults
      → IfSome old.left (Begun mid.left) → ReaderMeans seg first size overhead mid new answer → OpeningMeans keys old new answer
  means_under old mid new (Ok report) fits longer got reads writes started x = opened_under old mid new report fits longer got started x
  means_under old mid new (Err e) fits longer got reads writes started x = refused_under old mid new e.kind got reads writes started x

-- no reader was started
pub start_refused : (keys : List OpeningKey) (old new : Outside) (kind : Kind) → Keeps old.got new.got → StartRefused keys old.left old.read_faults new.read_faults kind → OpeningRefused keys old new kind
start_refused keys old new NoMatchingKey w x = record { none = x; written = w }
start_refused keys old new ReadFault w x = (record { texts = []; lead = any_told old.left; written = kept_nothing old.got new.got w }, x)
start_refused keys old new _ w x = absurd x

-- an open under all keys is an open under the keyset
pub under_keyset : (keyset aad draws : List ℕ) (l : Loaded) (old new : Outside) (answer : Result Report TinkError) → load keyset ≡ Ok l → OpensUnder (opening_keys aad l) old new answer → OpenMeans keyset aad draws draws old new answer
under_keyset keyset aad draws l old new (Ok report) e u = record { loaded = l; loads = e; means = u }
under_keyset keyset aad draws l old new (Err err) e u = go err.kind refl u
  where
    opened : (kind : Kind) → err.kind ≡ kind → OpeningRefused (opening_keys aad l) old new kind → OpensLoaded keyset aad old new (Err err)
    opened kind same r = record { loaded = l; loads = e; means = subst (OpeningRefused (opening_keys aad l) old new) (sym same) r }

    go : (kind : Kind) → err.kind ≡ kind → OpensUnderRefused (opening_keys aad l) old new kind → OpenRefused keyset aad draws draws old new err kind
    go OutOfMemory same r = record { untouched = r; undrawn = refl }
    go ReadFault same r = opened ReadFault same r
    go WriteFault same r = opened WriteFault same r
    go TooManySegments same r = opened TooManySegments same r
    go NoMatchingKey same r = opened NoMatchingKey same r
    go (BadSegment n) same r = opened (BadSegment n) same r
    go (Truncated n) same r = opened (Truncated n) same r
    go _ same r = absurd r

-- an open that has begun to read is not refused early
pub leaves_under : {S K : Type 0} (keys : List OpeningKey) (old new : Outside) (answer : Result Report TinkError) (s t : S) (k l : K) → OpeningMeans keys old new answer → LeavesEnds answer s t k l
leaves_under keys old new (Ok report) s t k l m = tt
leaves_under keys old new (Err e) s t k l m = go e.kind m
  where
    go : (kind : Kind) → OpeningRefused keys old new kind → IsEarly kind → (t ≡ s) × (l ≡ k)
    go NoMatchingKey m early = absurd early
    go (Truncated n) m early = absurd early
    go (BadSegment n) m early = absurd early
    go TooManySegments m early = absurd early
    go ReadFault m early = absurd early
    go WriteFault m early = absurd early
    go _ m early = absurd m

-- what opening under keys says besides `OutOfMemory`
pub opens_under : (ks : List OpeningKey) (old new : Outside) (r : Result Report TinkError) → OpeningMeans ks old new r → OpensUnder ks old new r
opens_under ks old new (Ok report) m = m
opens_under ks old new (Err e) m = go e.kind m
  where
    go : (kind : Kind) → OpeningRefused ks old new kind → OpensUnderRefused ks old new kind
    go OutOfMemory r = absurd r
    go _ r = r
