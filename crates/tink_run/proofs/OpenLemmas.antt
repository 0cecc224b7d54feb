-- From the table of an open's answers to its promises.
use Rattle.std.proofs.Common.{◌≡◌, inl, inr, ◌≤◌, ◌<◌, ◌+◌, ◌-◌, ℕ, zero, suc, Bool, List, [], ◌∷◌, ◌++◌, length, take, map, refl, sym, ap, subst, ◌∙◌, arith, Some, None, length-append}
use Rattle.std.specs.declared.option.Option.{Option}
use Rattle.std.specs.Prelude.{Result, Ok, Err, IsSome, slice_index_or}
use Rattle.std.proofs.KnownBytes.{Keeps-refl}
use Rattle.std.specs.Io.KnownBytes.{Appends, Keeps, IsAtEnd}
use Rattle.tink_io.specs.declared.error.Kind.{Kind}
use Rattle.tink_io.specs.declared.error.Kind.TheVariants.{OutOfMemory, ReadFault, WriteFault, BadKeyset, InvalidKeyset, UnsupportedKeyType, InvalidKey, NoPrimary, WrongPrimitive, TooManySegments, NoMatchingKey, BadSegment, Truncated}
use Rattle.tink_io.specs.declared.error.TinkError.{TinkError}
use Rattle.tink_io.specs.Written.{AppendsPrefix}
use Rattle.tink_io.proofs.WrittenLemmas.{prefix_of_more}
use Rattle.std.proofs.lemmas.List.{append-nil}
use Rattle.std.proofs.Math.Seq.{take-length}
use Rattle.stream_model.specs.Cut.{cut}
use Rattle.stream_model.specs.Agree.{AreTexts, joined}
use Rattle.stream_model.specs.Opening.{OpeningKey, opening_key, IsChosen, IsAgreed, IsStream, AgreeBy, AreSegmentsBy, behind_front, chunks_of, header_of}
use Rattle.stream_model.proofs.AgreeFacts.{joined-append}
use Rattle.stream_model.proofs.KeyFacts.{CanOpen as Lawful, IsLawful, opening_key_lawful}
use Rattle.stream_model.proofs.OpeningFacts.{IsChosen-unique, goes_on, Agree-unique, all_agree}
use Rattle.loading_model.specs.Loading.{Loaded, LoadedKey, AreUsable, opening_keys}
use Rattle.tink_run.specs.AllKeys.{load}
use Rattle.tink_run.proofs.LoadedFacts.{loaded_usable}
use Rattle.tink_run.specs.declared.report.Report.{Report}
use Rattle.tink_io.specs.Outside.{Outside, IsUntouched, HasNoFault, AreKnown}
use Rattle.tink_run.specs.OpenAnswers.{OpensLoaded, OpeningRefused, OpenMeans, OpenRefused, IsOfChosen, AgreesUntil, Lead, AreTextsBy}
use Rattle.tink_run.specs.Run.{IsWholeText, IsOfAgreeing, CanOpen, IsOkOrWant}
use Rattle.tink_io.proofs.OutsideFacts.{told_appended, told_if}

take_none : (n : ℕ) → take {A = ℕ} n [] ≡ []
take_none zero = refl
take_none (suc n) = refl

-- the chosen key is one of the loaded ones
chosen_of : (aad : List ℕ) (ks : List LoadedKey) (S : List ℕ) (k : OpeningKey) → AreUsable ks → IsChosen (map (λ e. opening_key aad e.key) ks) S (Some k) → Lawful k
chosen_of aad [] S k u h = absurd (cc)
chosen_of aad (e ∷ ks) S k u (inl h) = let same : opening_key aad e.key ≡ k = cc in subst Lawful same (opening_key_lawful aad e.key u.0.usable)
chosen_of aad (e ∷ ks) S k u (inr h) = chosen_of aad ks S k u.1 h.1

pub chosen_lawful : (keyset aad S : List ℕ) (l : Loaded) (k : OpeningKey) → load keyset ≡ Ok l → IsChosen (opening_keys aad l) S (Some k) → Lawful k
chosen_lawful keyset aad S l k e h = chosen_of aad l.keys S k (loaded_usable keyset l e).0 h

-- the whole known stream was opened
pub open_succeeds : (keyset aad S G : List ℕ) (old new : Outside) (report : Report) → OpensLoaded keyset aad old new (Ok report) → AreKnown old S G → IsWholeText keyset aad S G new report
open_succeeds keyset aad S G old new report o t =
    let stream = told_if (λ X. IsOfChosen (opening_keys aad o.loaded) X o.means.texts) old.left S t.left o.means.stream in
    let told = told_if (λ X. IsSome new.left) old.left S t.left o.means.stays_told in
    record {
      loaded = o.loaded;
      loads = o.loads;
      key = stream.key;
      chosen = stream.chosen;
      texts = o.means.texts;
      stream = stream.stream;
      written = told_appended old.got new.got G (joined o.means.texts) t.got o.means.written;
      at_end = ended new.left told o.means.at_end;
      segments = o.means.segments;
      bytes = o.means.bytes;
    }
  where
    ended : (b : Option (List ℕ)) → IsSome b → IsAtEnd b → b ≡ Some []
    ended None s h = absurd (cc)
    ended (Some xs) s h = ap Some h

-- the texts of leading segments begin the texts that agree
begins_agreed : (o : Option (ℕ → Bool → List ℕ → List ℕ)) (cs ts all : List (List ℕ)) (n : ℕ) → ((seg : ℕ → Bool → List ℕ → List ℕ) → o ≡ Some seg → IsLawful n seg)
    → AreTextsBy o cs ts → AgreeBy o cs all → (more : List (List ℕ)) × (all ≡ ts ++ more)
begins_agreed None cs ts all n law p q = absurd p
begins_agreed (Some seg) cs ts all n law p q = goes_on seg 0 cs ts all (law seg refl).one_text p q

same_agreed : (o : Option (ℕ → Bool → List ℕ → List ℕ)) (cs ts all : List (List ℕ)) (n : ℕ) → ((seg : ℕ → Bool → List ℕ → List ℕ) → o ≡ Some seg → IsLawful n seg)
    → AgreeBy o cs ts → AgreeBy o cs all → all ≡ ts
same_agreed None cs ts all n law p q = q ∙ sym p
same_agreed (Some seg) cs ts all n law p q = Agree-unique seg 0 cs ts all (law seg refl).one_text p q

-- a stream's texts are those of all its chunks, and agree
whole_agrees : (o : Option (ℕ → Bool → List ℕ → List ℕ)) (first size over : ℕ) (X : List ℕ) (ts : List (List ℕ)) → ((seg : ℕ → Bool → List ℕ → List ℕ) → o ≡ Some seg → IsLawful over seg)
    → over < first → first ≤ size → 0 < over → AreSegmentsBy o (first - over) (size - over) X ts → AreTextsBy o (cut first size X) ts × (length (cut first size X) ≡ length ts)
whole_agrees None first size over X ts law room fits some p = absurd p
whole_agrees (Some seg) first size over X ts law room fits some p =
    let a : first - over + over ≡ first = omega arith in
    let b : size - over + over ≡ size = omega arith in
    let P : ℕ → ℕ → Type 0 = λ m n. AreTexts seg 0 (cut m n X) ts × (length (cut m n X) ≡ length ts) in
    subst (λ (n : ℕ). P first n) b (subst (λ (m : ℕ). P m (size - over + over)) a (all_agree seg over 0 (first - over) (size - over) ts X (law seg refl).longer (omega arith) (omega arith) some p))

pub stream_agrees : (k : OpeningKey) (S : List ℕ) (ts : List (List ℕ)) → Lawful k → IsStream k S ts → AreTextsBy (k.seg (header_of k S)) (chunks_of k S) ts × (length (chunks_of k S) ≡ length ts)
stream_agrees k S ts law s = whole_agrees (k.seg (header_of k S)) k.first k.size k.overhead (behind_front k S) ts (law.lawful (header_of k S)) law.room (omega (arith, law.fits)) law.some s.segments

-- a prefix of texts that lead is a prefix of texts that agree
front_of_agreed : (k : OpeningKey) (S : List ℕ) (ts all : List (List ℕ)) (a b : Option (List ℕ)) → Lawful k → AreTextsBy (k.seg (header_of k S)) (chunks_of k S) ts → IsAgreed k S all
    → AppendsPrefix a b (joined ts) → AppendsPrefix a b (joined all)
front_of_agreed k S ts all a b law p q w =
    let begins = begins_agreed (k.seg (header_of k S)) (chunks_of k S) ts all k.overhead (law.lawful (header_of k S)) p q in
    subst (AppendsPrefix a b) (sym (ap joined begins.1 ∙ joined-append ts begins.0)) (prefix_of_more a b (joined ts) (joined begins.0) w)

pub whole_prefix : (a b : Option (List ℕ)) (xs : List ℕ) → Appends a b xs → AppendsPrefix a b xs
whole_prefix a b xs w = (length xs, omega arith, subst (Appends a b) (sym (take-length xs)) w)

pub kept_nothing : (a b : Option (List ℕ)) → Keeps a b → Appends a b []
kept_nothing None b w = tt
kept_nothing (Some xs) None w = absurd w
kept_nothing (Some xs) (Some ys) w = w ∙ sym (append-nil xs)

pub kept_prefix : (a b : Option (List ℕ)) (xs : List ℕ) → Keeps a b → AppendsPrefix a b xs
kept_prefix a b xs w = (0, omega arith, kept_nothing a b w)

pub same_loaded : (keyset : List ℕ) (l m : Loaded) → load keyset ≡ Ok l → load keyset ≡ Ok m → l ≡ m
same_loaded keyset l m p q = cc

-- what stands by a prefix of leading texts
written_lead : (keyset aad S : List ℕ) (l : Loaded) (ts : List (List ℕ)) (old new : Outside) → load keyset ≡ Ok l → Lead (opening_keys aad l) S ts → AppendsPrefix old.got new.got (joined ts) → IsOfAgreeing keyset aad S old new
written_lead keyset aad S l [] old new e lead w = record {
  under_a_key = λ m k all p q r. kept_prefix old.got new.got (joined all) (nothing old.got new.got w);
  under_none = λ m p q. nothing old.got new.got w;
  unloaded = λ kind p. nothing old.got new.got w;
}
  where
    nothing : (a b : Option (List ℕ)) → AppendsPrefix a b [] → Keeps a b
    nothing None b w = tt
    nothing (Some xs) None w = absurd w.2
    nothing (Some xs) (Some ys) w = w.2 ∙ ap (λ z. xs ++ z) (take_none w.0) ∙ append-nil xs
written_lead keyset aad S l (t ∷ ts) old new e lead w = record {
  under_a_key = λ m k all p q r.
      let same : m ≡ l = same_loaded keyset m l p e in
      let chosen : IsChosen (opening_keys aad l) S (Some k) = subst (λ (x : Loaded). IsChosen (opening_keys aad x) S (Some k)) same q in
      let one : Some k ≡ Some lead.0 = IsChosen-unique (opening_keys aad l) S (Some k) (Some lead.0) chosen lead.1 in
      let key : lead.0 ≡ k = cc in
      front_of_agreed k S (t ∷ ts) all old.got new.got (chosen_lawful keyset aad S l k e chosen) (subst (λ (x : OpeningKey). AreTextsBy (x.seg (header_of x S)) (chunks_of x S) (t ∷ ts)) key lead.2) r w;
  under_none = λ m p q.
      let same : m ≡ l = same_loaded keyset m l p e in
      let none : IsChosen (opening_keys aad l) S None = subst (λ (x : Loaded). IsChosen (opening_keys aad x) S None) same q in
      let one : None ≡ Some lead.0 = IsChosen-unique (opening_keys aad l) S None (Some lead.0) none lead.1 in
      absurd (cc);
  unloaded = λ kind p. absurd (cc);
}

-- texts that agree, and are some, lead
pub agreed_leads : (keys : List OpeningKey) (S : List ℕ) (k : OpeningKey) (ts : List (List ℕ)) → IsChosen keys S (Some k) → IsAgreed k S ts → 0 < length ts → Lead keys S ts
agreed_leads keys S k [] c a some = absurd (omega arith)
agreed_leads keys S k (t ∷ ts) c a some = (k, c, go (k.seg (header_of k S)) a)
  where
    go : (o : Option (ℕ → Bool → List ℕ → List ℕ)) → AgreeBy o (chunks_of k S) (t ∷ ts) → AreTextsBy o (chunks_of k S) (t ∷ ts)
    go None h = absurd (cc)
    go (Some seg) h = h.are

kept_agreeing : (keyset aad S : List ℕ) (old new : Outside) → Keeps old.got new.got → IsOfAgreeing keyset aad S old new
kept_agreeing keyset aad S old new u = record {
  under_a_key = λ m k all p q r. kept_prefix old.got new.got (joined all) u;
  under_none = λ m p q. u;
  unloaded = λ kind p. u;
}

untouched_agreeing : (keyset aad S : List ℕ) (old new : Outside) → IsUntouched old new → IsOfAgreeing keyset aad S old new
untouched_agreeing keyset aad S old new u = kept_agreeing keyset aad S old new (subst (λ (m : Outside). Keeps old.got m.got) (sym u) (Keeps-refl old.got))

-- whatever an open answers, it has written only texts that agree
pub stream_agreeing : (keyset aad S G : List ℕ) (l : Loaded) (old new : Outside) (kind : Kind) → load keyset ≡ Ok l → AreKnown old S G → OpeningRefused (opening_keys aad l) old new kind → IsOfAgreeing keyset aad S old new
stream_agreeing keyset aad S G l old new NoMatchingKey e t r = kept_agreeing keyset aad S old new r.written
stream_agreeing keyset aad S G l old new (Truncated n) e t r =
    let a = told_if (λ X. AgreesUntil (opening_keys aad l) X r.texts _) old.left S t.left r.stream in
    written_lead keyset aad S l r.texts old new e (agreed_leads (opening_keys aad l) S a.key r.texts a.chosen a.agreed (omega (arith, r.number, r.some))) (whole_prefix old.got new.got (joined r.texts) r.written)
stream_agreeing keyset aad S G l old new (BadSegment n) e t r =
    let a = told_if (λ X. AgreesUntil (opening_keys aad l) X r.texts _) old.left S t.left r.stream in
    written_lead keyset aad S l r.texts old new e (agreed_leads (opening_keys aad l) S a.key r.texts a.chosen a.agreed (omega (arith, r.number, r.some))) (whole_prefix old.got new.got (joined r.texts) r.written)
stream_agreeing keyset aad S G l old new TooManySegments e t r =
    let a = told_if (λ X. AgreesUntil (opening_keys aad l) X r.texts _) old.left S t.left r.stream in
    written_lead keyset aad S l r.texts old new e (agreed_leads (opening_keys aad l) S a.key r.texts a.chosen a.agreed (omega (arith, r.number))) (whole_prefix old.got new.got (joined r.texts) r.written)
stream_agreeing keyset aad S G l old new ReadFault e t r = written_lead keyset aad S l r.0.texts old new e (told_if (λ X. Lead (opening_keys aad l) X r.0.texts) old.left S t.left r.0.lead) (whole_prefix old.got new.got (joined r.0.texts) r.0.written)
stream_agreeing keyset aad S G l old new WriteFault e t r = written_lead keyset aad S l r.0.texts old new e (told_if (λ X. Lead (opening_keys aad l) X r.0.texts) old.left S t.left r.0.lead) r.0.written
stream_agreeing keyset aad S G l old new _ e t r = absurd r

opened_agreeing : (keyset aad S G : List ℕ) (old new : Outside) (report : Report) → AreKnown old S G → OpensLoaded keyset aad old new (Ok report) → IsOfAgreeing keyset aad S old new
opened_agreeing keyset aad S G old new report t o =
    let w = open_succeeds keyset aad S G old new report o t in
    let law = chosen_lawful keyset aad S w.loaded w.key w.loads w.chosen in
    let lead = stream_leads (opening_keys aad w.loaded) S w.key w.texts law w.chosen w.stream in
    let same : o.loaded ≡ w.loaded = same_loaded keyset o.loaded w.loaded o.loads w.loads in
    written_lead keyset aad S w.loaded w.texts old new w.loads lead (told_front old.got new.got G (joined w.texts) t.got w.written)
  where
    told_front : (a b : Option (List ℕ)) (G xs : List ℕ) → a ≡ Some G → b ≡ Some (G ++ xs) → AppendsPrefix a b xs
    told_front a b G xs p q = rw (p, q) (length xs, omega arith, ap (λ ys. G ++ ys) (sym (take-length xs)))

    stream_leads : (keys : List OpeningKey) (S : List ℕ) (k : OpeningKey) (ts : List (List ℕ)) → Lawful k → IsChosen keys S (Some k) → IsStream k S ts → Lead keys S ts
    stream_leads keys S k [] law c s = tt
    stream_leads keys S k (t ∷ ts) law c s = (k, c, (stream_agrees k S (t ∷ ts) law s).0)

pub open_agreeing : (keyset aad draws left_draws S G : List ℕ) (old new : Outside) (answer : Result Report TinkError) → AreKnown old S G → OpenMeans keyset aad draws left_draws old new answer → IsOfAgreeing keyset aad S old new
open_agreeing keyset aad draws left_draws S G old new (Ok report) t m = opened_agreeing keyset aad S G old new report t m
open_agreeing keyset aad draws left_draws S G old new (Err e) t m = go e.kind refl m
  where
    go : (kind : Kind) → e.kind ≡ kind → OpenRefused keyset aad draws left_draws old new e kind → IsOfAgreeing keyset aad S old new
    go OutOfMemory same r = untouched_agreeing keyset aad S old new r.untouched
    go BadKeyset same r = untouched_agreeing keyset aad S old new r.untouched
    go InvalidKeyset same r = untouched_agreeing keyset aad S old new r.untouched
    go UnsupportedKeyType same r = untouched_agreeing keyset aad S old new r.untouched
    go InvalidKey same r = untouched_agreeing keyset aad S old new r.untouched
    go NoPrimary same r = untouched_agreeing keyset aad S old new r.untouched
    go WrongPrimitive same r = untouched_agreeing keyset aad S old new r.untouched
    go ReadFault same r = stream_agreeing keyset aad S G r.loaded old new e.kind r.loads t r.means
    go WriteFault same r = stream_agreeing keyset aad S G r.loaded old new e.kind r.loads t r.means
    go TooManySegments same r = stream_agreeing keyset aad S G r.loaded old new e.kind r.loads t r.means
    go NoMatchingKey same r = stream_agreeing keyset aad S G r.loaded old new e.kind r.loads t r.means
    go (BadSegment n) same r = stream_agreeing keyset aad S G r.loaded old new e.kind r.loads t r.means
    go (Truncated n) same r = stream_agreeing keyset aad S G r.loaded old new e.kind r.loads t r.means
    go _ same r = absurd r

-- a stream of the chosen key is refused for no other cause than a fault
texts_left : (k : OpeningKey) (S : List ℕ) (all ts : List (List ℕ)) → Lawful k → IsStream k S all → IsAgreed k S ts → length ts ≡ length (chunks_of k S)
texts_left k S all ts law s a =
    let w = stream_agrees k S all law s in
    let g = begins_agreed (k.seg (header_of k S)) (chunks_of k S) all ts k.overhead (law.lawful (header_of k S)) w.0 a in
    omega (arith, w.1, ap length g.1, length-append all g.0, at_most (k.seg (header_of k S)) (chunks_of k S) ts a)
  where
    few : (seg : ℕ → Bool → List ℕ → List ℕ) (i : ℕ) (cs ts : List (List ℕ)) → AreTexts seg i cs ts → length ts ≤ length cs
    few seg i cs [] h = omega arith
    few seg i [] (t ∷ ts) h = absurd h
    few seg i (c ∷ cs) (t ∷ ts) h = omega (arith, few seg (i + 1) cs ts h.2)

    at_most : (o : Option (ℕ → Bool → List ℕ → List ℕ)) (cs ts : List (List ℕ)) → AgreeBy o cs ts → length ts ≤ length cs
    at_most None cs ts h = omega (arith, ap length h)
    at_most (Some seg) cs ts h = few seg 0 cs ts h.are

past_end : (cs : List (List ℕ)) (n : ℕ) → length cs ≤ n → slice_index_or cs n [] ≡ []
past_end [] n h = refl
past_end (c ∷ cs) zero h = absurd (omega arith)
past_end (c ∷ cs) (suc n) h = past_end cs n (omega arith)

-- the keyset that loads, the chosen key and the stream are one
record Whole (keyset aad S : List ℕ) (l : Loaded) : Type 0 where
  key : OpeningKey
  texts : List (List ℕ)
  chosen : IsChosen (opening_keys aad l) S (Some key)
  stream : IsStream key S texts
  lawful : Lawful key

whole_of : (keyset aad S : List ℕ) (l : Loaded) → load keyset ≡ Ok l → CanOpen keyset aad S → Whole keyset aad S l
whole_of keyset aad S l e c =
    let same : c.loaded ≡ l = same_loaded keyset c.loaded l c.loads e in
    let chosen : IsChosen (opening_keys aad l) S (Some c.key) = subst (λ (x : Loaded). IsChosen (opening_keys aad x) S (Some c.key)) same c.chosen in
    record { key = c.key; texts = c.texts; chosen = chosen; stream = c.stream; lawful = chosen_lawful keyset aad S l c.key e chosen }

agreed_all : (keyset aad S : List ℕ) (l : Loaded) (ts : List (List ℕ)) (P : OpeningKey → Type 0) → Whole keyset aad S l → (a : AgreesUntil (opening_keys aad l) S ts P) → length ts ≡ length (chunks_of a.key S)
agreed_all keyset aad S l ts P w a =
    let one : Some a.key ≡ Some w.key = IsChosen-unique (opening_keys aad l) S (Some a.key) (Some w.key) a.chosen w.chosen in
    let key : w.key ≡ a.key = cc in
    texts_left a.key S w.texts ts (subst Lawful key w.lawful) (subst (λ (k : OpeningKey). IsStream k S w.texts) key w.stream) a.agreed

pub stream_complete : (keyset aad S G : List ℕ) (l : Loaded) (old new : Outside) (kind : Kind) → load keyset ≡ Ok l → AreKnown old S G → HasNoFault old new → CanOpen keyset aad S → OpeningRefused (opening_keys aad l) old new kind → ⊥
stream_complete keyset aad S G l old new NoMatchingKey e t n c r =
    let w = whole_of keyset aad S l e c in
    let none = told_if (λ X. IsChosen (opening_keys aad l) X None) old.left S t.left r.none in
    let one : None ≡ Some w.key = IsChosen-unique (opening_keys aad l) S None (Some w.key) none w.chosen in
    cc
stream_complete keyset aad S G l old new (Truncated i) e t n c r =
    let a = told_if (λ X. AgreesUntil (opening_keys aad l) X r.texts _) old.left S t.left r.stream in
    let all = agreed_all keyset aad S l r.texts _ (whole_of keyset aad S l e c) a in
    omega (arith, a.then.0, ap length (past_end (chunks_of a.key S) i (omega (arith, all, r.number))))
stream_complete keyset aad S G l old new (BadSegment i) e t n c r =
    let a = told_if (λ X. AgreesUntil (opening_keys aad l) X r.texts _) old.left S t.left r.stream in
    let all = agreed_all keyset aad S l r.texts _ (whole_of keyset aad S l e c) a in
    let some = (chosen_lawful keyset aad S l a.key e a.chosen).some in
    omega (arith, some, a.then, ap length (past_end (chunks_of a.key S) i (omega (arith, all, r.number))))
stream_complete keyset aad S G l old new TooManySegments e t n c r =
    let a = told_if (λ X. AgreesUntil (opening_keys aad l) X r.texts _) old.left S t.left r.stream in
    let all = agreed_all keyset aad S l r.texts _ (whole_of keyset aad S l e c) a in
    omega (arith, a.then, all, r.number)
stream_complete keyset aad S G l old new ReadFault e t n c r = n.reads r.1
stream_complete keyset aad S G l old new WriteFault e t n c r = n.writes r.1
stream_complete keyset aad S G l old new _ e t n c r = r

-- an open that can succeed does, or there is no memory
pub open_complete : (keyset aad draws left_draws S G : List ℕ) (old new : Outside) (answer : Result Report TinkError) → OpenMeans keyset aad draws left_draws old new answer → AreKnown old S G → HasNoFault old new → CanOpen keyset aad S → IsOkOrWant answer
open_complete keyset aad draws left_draws S G old new (Ok report) m t n c = tt
open_complete keyset aad draws left_draws S G old new (Err e) m t n c = go e.kind refl m
  where
    loads_not : (kind : Kind) → load keyset ≡ Err kind → ⊥
    loads_not kind e = let f = c.loads in cc

    go : (kind : Kind) → e.kind ≡ kind → OpenRefused keyset aad draws left_draws old new e kind → e.kind ≡ OutOfMemory
    go OutOfMemory same r = same
    go BadKeyset same r = absurd (loads_not BadKeyset r.cause)
    go InvalidKeyset same r = absurd (loads_not InvalidKeyset r.cause)
    go UnsupportedKeyType same r = absurd (loads_not UnsupportedKeyType r.cause)
    go InvalidKey same r = absurd (loads_not InvalidKey r.cause)
    go NoPrimary same r = absurd (loads_not NoPrimary r.cause)
    go WrongPrimitive same r = absurd (loads_not WrongPrimitive r.cause)
    go ReadFault same r = absurd (stream_complete keyset aad S G r.loaded old new e.kind r.loads t n c r.means)
    go WriteFault same r = absurd (stream_complete keyset aad S G r.loaded old new e.kind r.loads t n c r.means)
    go TooManySegments same r = absurd (stream_complete keyset aad S G r.loaded old new e.kind r.loads t n c r.means)
    go NoMatchingKey same r = absurd (stream_complete keyset aad S G r.loaded old new e.kind r.loads t n c r.means)
    go (BadSegment i) same r = absurd (stream_complete keyset aad S G r.loaded old new e.kind r.loads t n c r.means)
    go (Truncated i) same r = absurd (stream_complete keyset aad S G r.loaded old new e.kind r.loads t n c r.means)
    go _ same r = absurd r
