-- From what the calls of a reader did to what came to it and what it gave.
use Rattle.std.proofs.Common.{◌≡◌, ◌⊎◌, inl, inr, ◌≤◌, ◌<◌, ◌+◌, ◌^◌, ℕ, Bool, List, [], ◌∷◌, ◌++◌, length, take, drop, map, None, Some, ap, refl, sym, subst, ◌∙◌, arith, length-append, append_assoc}
use Rattle.std.specs.Prelude.{All, IfErr, MatchResult, Result, Ok, Err, min, nat_eq, true, false, ◌-◌}
use Rattle.std.proofs.lemmas.Bool.{cases_lt, eqb-false, eqb-true}
use Rattle.std.proofs.lemmas.List.{append-nil, drop-append-le, length-take-le, take-append-drop}
use Rattle.std.proofs.lemmas.List.Elements.{All-cons, All-head, All-nil, All-tail}
use Rattle.tink_io.specs.declared.error.Kind.{Kind}
use Rattle.tink_io.specs.declared.error.Kind.TheVariants.{BadSegment, NoMatchingKey, TooManySegments, Truncated}
use Rattle.tink_io.specs.declared.error.TinkError.{TinkError}
use Rattle.stream_model.specs.Cut.{cut, room_at}
use Rattle.stream_model.specs.Agree.{Agree, AreTexts, Leads, joined}
use Rattle.stream_model.specs.Key.{header_length, overhead}
use Rattle.stream_model.specs.Opening.{FirstAgrees, IsChosen, OpeningKey, chunks_of, front_length, opening_key}
use Rattle.stream_model.proofs.AgreeFacts.{Agree-used_up, Leads-trans, joined-append}
use Rattle.stream_model.proofs.CutFacts.{cut_none, room_at_next}
use Rattle.tink_sets.specs.declared.entry.TypedEntry.{TypedEntry}
use Rattle.tink_streaming_segment.specs.Keeping.{kept_bytes}
use Rattle.tink_streaming_io.specs.Choosing.{Found, IsOpenerOf}
use Rattle.tink_streaming_io.specs.Reading.{HasNotFailed}
use Rattle.tink_streaming_io.specs.declared.progress.Progress.{Progress}
use Rattle.tink_streaming_io.specs.declared.progress.Progress.TheVariants.{Ended, Failed, Running}
use Rattle.tink_streaming_io.proofs.ChosenFacts.{chosen_begins, chunks_are}
use Rattle.tink_streaming_keys.specs.StreamKinds.{key_in_set}
use Rattle.tink_streaming_keys.specs.declared.stream_kind.StreamKind.{StreamKind}
use Rattle.tink_streaming_aead.specs.Wrapped.{keys_in}
use Rattle.tink_c_pieces.specs.Readings as pieces
use Rattle.tink_c_pieces.specs.Readings.{Feeds, Finishes, HasBeginning, HasRead, PieceReading}
use Rattle.tink_c_pieces.proofs.BeginningFacts.{chosen_for_good, header_bytes, leads_longer}
use Rattle.tink_c_pieces.proofs.ReadingSteps.{feed_more, finish_all, room_some}
use Rattle.tink_c_streams.specs.Choices.{BeginsNoText, BeginsText, keys_of_choice}
use Rattle.tink_c_streams.specs.Readers.{ChooseAs, ChoosingCause, ChoosingEndCause, EndCause, GoingCause, HasText, IsEnding, IsGoing, IsReading, IsStopOf, ReadsBehind, ReadsOn, ReadsWhole, StopsAt, StopsIn}
use Rattle.tink_c_streams.specs.declared.choice.Choice.{Choice}
use Rattle.tink_c_streams.specs.declared.readers.PieceReader.{PieceReader}
use Rattle.tink_c_streams.specs.declared.readers.PieceReader.TheVariants.{Choosing}

-- ---- the key

-- a key whose streams begin in the keys' room has a beginning once this room is full
pub have_beginnings : (aad S : List ℕ) (room : ℕ) (entries : List (TypedEntry StreamKind)) → room ≡ length S → All (λ e. length (key_in_set e).out + (key_in_set e).segment < room) entries
    → All (λ k. header_length k + k.offset + overhead k < k.segment) (keys_in entries) → All (HasBeginning S) (map (λ e. opening_key aad (key_in_set e)) entries)
have_beginnings aad S room [] full rooms firsts = All-nil (HasBeginning S)
have_beginnings aad S room (e ∷ es) full rooms firsts =
    let k = key_in_set e in
    let fits = All-head (λ (x : TypedEntry StreamKind). length (key_in_set x).out + (key_in_set x).segment < room) e es rooms in
    let first = All-head (λ j. header_length j + j.offset + overhead j < j.segment) k (keys_in es) firsts in
    All-cons (HasBeginning S) (opening_key aad k) (map (λ x. opening_key aad (key_in_set x)) es)
    (record { header = omega arith; first = omega (arith, first); size = omega (arith, first); more = omega (arith, fits, first, full) })
    (have_beginnings aad S room es full (All-tail (λ (x : TypedEntry StreamKind). length (key_in_set x).out + (key_in_set x).segment < room) e es rooms)
    (All-tail (λ j. header_length j + j.offset + overhead j < j.segment) k (keys_in es) firsts))

-- the first segment of a chosen key is that of a text
pub first_opens : (ks : List OpeningKey) (S : List ℕ) (seg : ℕ → Bool → List ℕ → List ℕ) (front first size over : ℕ) → Found ks S seg front first size over
    → Agree seg 0 (cut first size (drop front S)) [] → ⊥
first_opens ks S seg front first size over f none =
    let k : OpeningKey = f.key in
    let by : FirstAgrees (Some seg) (chunks_of k S) = subst (λ o. FirstAgrees o (chunks_of k S)) f.opener.map (chosen_begins ks S k f.chosen).first in
    let one : AreTexts seg 0 (cut first size (drop front S)) (by.0 ∷ []) = subst (λ cs. AreTexts seg 0 cs (by.0 ∷ [])) (sym (chunks_are k S seg front first size over f.opener)) by.1 in
    let most : 1 ≤ 0 = none.longest (by.0 ∷ []) one in
    omega (arith, most)

-- the bytes have the front of the chosen key
front_within : (ks : List OpeningKey) (S : List ℕ) (seg : ℕ → Bool → List ℕ → List ℕ) (front first size over : ℕ) → Found ks S seg front first size over → front ≤ length S
front_within ks S seg front first size over f = omega (arith, f.opener.front_is, (chosen_begins ks S f.key f.chosen).front.long)

-- longer bytes have the same header
opener_longer : (k : OpeningKey) (S more : List ℕ) (seg : ℕ → Bool → List ℕ → List ℕ) (front first size over : ℕ) → front_length k ≤ length S → IsOpenerOf k S seg front first size over
    → IsOpenerOf k (S ++ more) seg front first size over
opener_longer k S more seg front first size over long o = record {
  map = ap k.seg (header_bytes k S more long) ∙ o.map;
  front_is = o.front_is;
  first_is = o.first_is;
  size_is = o.size_is;
  overhead_is = o.overhead_is;
  fits = o.fits;
}

module _ (ks keys : List OpeningKey) (alike : ChooseAs ks keys) (came given : List ℕ) (seg : ℕ → Bool → List ℕ → List ℕ) (first size over : ℕ) (m : PieceReading) (nothing : given ≡ []) where
  -- a reader that has opened nothing
  read_nothing : (b : BeginsText ks came seg first size over m) → HasRead seg first size (drop b.front came) given m
  read_nothing b = record {
    texts = [];
    number = b.number;
    leads = λ more. ap (λ i. cut (room_at first size i) size (m.held ++ more)) b.number ∙ ap (λ x. cut first size (x ++ more)) b.held;
    given_is = sym (ap (λ x. x ++ m.pending) nothing ∙ b.pending);
  }

  -- behind what came nothing follows
  pub chose_at_end : BeginsText ks came seg first size over m → ReadsBehind keys came given seg first size over m
  chose_at_end b = record {
    front = b.front;
    found = record { key = b.found.key; chosen = alike came (Some b.found.key) b.found.chosen; opener = b.found.opener };
    read = read_nothing b;
  }

  -- more may follow
  pub chose_for_good : All (HasBeginning came) ks → BeginsText ks came seg first size over m → ReadsOn keys came given seg first size over m
  chose_for_good all b =
      let k : OpeningKey = b.found.key in
      record {
        front = b.front;
        found = λ more. record {
          key = k;
          chosen = alike (came ++ more) (Some k) (chosen_for_good ks came more (Some k) all b.found.chosen);
          opener = opener_longer k came more seg b.front first size over (chosen_begins ks came k b.found.chosen).front.long b.found.opener;
        };
        read = read_nothing b;
      }

-- a piece after which no key begins the stream
pub chose_none : (ks keys : List OpeningKey) (came S piece : List ℕ) (n : ℕ) (kind : Kind) → ChooseAs ks keys → S ≡ came ++ take n piece → All (HasBeginning S) ks → BeginsNoText ks S kind
    → ChoosingCause keys came piece kind
chose_none ks keys came S piece n NoMatchingKey alike is all none = λ more.
    subst (λ x. IsChosen keys x None)
    (ap (λ x. x ++ (drop n piece ++ more)) is ∙ append_assoc came (take n piece) (drop n piece ++ more)
    ∙ ap (λ x. came ++ x) (sym (append_assoc (take n piece) (drop n piece) more)) ∙ ap (λ x. came ++ (x ++ more)) (take-append-drop n piece))
    (alike (S ++ (drop n piece ++ more)) None (chosen_for_good ks S (drop n piece ++ more) None all none))
chose_none ks keys came S piece n _ alike is all none = absurd none

pub ends_with_none : (ks keys : List OpeningKey) (came : List ℕ) (kind : Kind) → ChooseAs ks keys → BeginsNoText ks came kind → ChoosingEndCause keys came kind
ends_with_none ks keys came NoMatchingKey alike none = alike came None none
ends_with_none ks keys came _ alike none = absurd none

-- ---- a piece

module _ (keys : List OpeningKey) (came given : List ℕ) (seg : ℕ → Bool → List ℕ → List ℕ) (first size over : ℕ) where
  -- what was read while more may follow was read
  pub no_more : (m : PieceReading) → ReadsOn keys came given seg first size over m → ReadsBehind keys came given seg first size over m
  no_more m r = record { front = r.front; found = subst (λ x. Found keys x seg r.front first size over) (append-nil came) (r.found []); read = r.read }

  -- bytes of a piece were taken
  pub goes_on : (old new : PieceReading) (piece : List ℕ) (n : ℕ) → old.pending ≡ [] → Feeds seg first size old new piece n → ReadsOn keys came given seg first size over old
      → ReadsOn keys (came ++ take n piece) given seg first size over new
  goes_on old new piece n none f r =
      let here : Found keys came seg r.front first size over = subst (λ x. Found keys x seg r.front first size over) (append-nil came) (r.found []) in
      record {
        front = r.front;
        found = λ more. subst (λ x. Found keys x seg r.front first size over) (sym (append_assoc came (take n piece) more)) (r.found (take n piece ++ more));
        read = subst (λ x. HasRead seg first size x given new) (sym (drop-append-le r.front came (take n piece) (front_within keys came seg r.front first size over here)))
            (feed_more seg first size (drop r.front came) given old new piece n none r.read f);
      }

  -- the whole piece was taken, or a segment was opened
  moves_by : (i j n all : ℕ) (texts : List (List ℕ)) → (texts ≡ [] → n ≡ all) → j ≡ i + length texts → (n ≡ all) ⊎ (i + 1 < j + 1)
  moves_by i j n all [] whole count = inl (whole refl)
  moves_by i j n all (t ∷ ts) whole count = inr (omega (arith, count))

  pub moves_on : (old new : PieceReading) (piece : List ℕ) (n : ℕ) → Feeds seg first size old new piece n → (n ≡ length piece) ⊎ (old.number + 1 < new.number + 1)
  moves_on old new piece n f = moves_by old.number new.number n (length piece) f.texts f.all f.number

  -- the next segment does not open
  module _ (old : PieceReading) (piece : List ℕ) (none : old.pending ≡ []) (r : ReadsOn keys came given seg first size over old) (next : room_at first size old.number < length (old.held ++ piece))
      (nothing : (more : List ℕ) → Agree seg old.number (cut (room_at first size old.number) size (old.held ++ (piece ++ more))) []) where
    -- it is not the first one
    not_first : (i : ℕ) → i ≡ old.number → (texts : List (List ℕ)) → old.number ≡ length texts
        → Leads seg 0 (cut first size (drop r.front came ++ (piece ++ []))) texts (cut (room_at first size old.number) size (old.held ++ (piece ++ []))) → 0 < i
    not_first i is [] count leads =
        let zero_is : old.number ≡ 0 = count in
        let within : r.front ≤ length came = front_within keys came seg r.front first size over (subst (λ x. Found keys x seg r.front first size over) (append-nil came) (r.found [])) in
        let none_here : Agree seg 0 (cut (room_at first size old.number) size (old.held ++ (piece ++ []))) [] =
        subst (λ i. Agree seg i (cut (room_at first size old.number) size (old.held ++ (piece ++ []))) []) zero_is (nothing []) in
        absurd (first_opens keys (came ++ (piece ++ [])) seg r.front first size over (r.found (piece ++ []))
        (subst (λ x. Agree seg 0 (cut first size x) []) (sym (drop-append-le r.front came (piece ++ []) within))
        (subst (λ cs. Agree seg 0 cs []) leads none_here)))
    not_first i is (t ∷ ts) count leads = omega (arith, is, count)

    -- so it stops the reader
    pub stops : (n : ℕ) → n ≡ old.number → StopsIn keys came given piece n
    stops n is = record {
      seg = seg;
      first = first;
      size = size;
      overhead = over;
      front = r.front;
      found = r.found;
      texts = r.read.texts;
      number = is ∙ r.read.number;
      some = not_first n is r.read.texts r.read.number (r.read.leads (piece ++ []));
      given_is = r.read.given_is ∙ ap (λ x. given ++ x) none ∙ append-nil given;
      held = old.held;
      leads = λ more. subst (λ i. Leads seg 0 (cut first size (drop r.front came ++ more)) r.read.texts (cut (room_at first size i) size (old.held ++ more))) (sym is) (r.read.leads more);
      next = subst (λ i. room_at first size i < length (old.held ++ piece)) (sym is) next;
      nothing = λ more. subst (λ i. Agree seg i (cut (room_at first size i) size (old.held ++ (piece ++ more))) []) (sym is) (nothing more);
    }

  pub refuses : (old : PieceReading) (piece : List ℕ) (kind : Kind) → old.pending ≡ [] → ReadsOn keys came given seg first size over old → pieces.FeedRefused seg first size old piece kind
      → GoingCause keys came given piece kind
  refuses old piece (BadSegment n) none r b = stops old piece none r b.next b.nothing n b.number
  refuses old piece TooManySegments none r b =
      stops old piece none r b.1 (λ more. Agree-used_up seg old.number (cut (room_at first size old.number) size (old.held ++ (piece ++ more))) (omega (arith, b.0))) (2 ^ 32) (sym b.0)
  refuses old piece _ none r b = absurd b

  -- ---- the end

  -- the segments that were opened lead to what is held
  leads_held : (m : PieceReading) (X : List ℕ) (h : HasRead seg first size X given m) → Leads seg 0 (cut first size X) h.texts (cut (room_at first size m.number) size m.held)
  leads_held m X h =
      subst (λ x. Leads seg 0 (cut first size x) h.texts (cut (room_at first size m.number) size m.held)) (append-nil X)
      (subst (λ x. Leads seg 0 (cut first size (X ++ [])) h.texts (cut (room_at first size m.number) size x)) (append-nil m.held) (h.leads []))

  -- the next segment of what is held does not open
  module _ (m : PieceReading) (none : m.pending ≡ []) (b : ReadsBehind keys came given seg first size over m) (nothing : Agree seg m.number (cut (room_at first size m.number) size m.held) [])
      (carried : 0 < m.number → 0 < length m.held) where
    last_not_first : (texts : List (List ℕ)) → m.number ≡ length texts → Leads seg 0 (cut first size (drop b.front came)) texts (cut (room_at first size m.number) size m.held) → 0 < m.number
    last_not_first [] count leads =
        let none_here : Agree seg 0 (cut (room_at first size m.number) size m.held) [] = subst (λ i. Agree seg i (cut (room_at first size m.number) size m.held) []) count nothing in
        absurd (first_opens keys came seg b.front first size over b.found (subst (λ cs. Agree seg 0 cs []) leads none_here))
    last_not_first (t ∷ ts) count leads = omega (arith, count)

    later : 0 < m.number
    later = last_not_first b.read.texts b.read.number (leads_held m (drop b.front came) b.read)

    pub stops_at : (n : ℕ) (P : ℕ → ℕ → Type 0) → n ≡ m.number → P over (length (take (room_at first size m.number) m.held)) → StopsAt keys came given n P
    stops_at n P is next = record {
      seg = seg;
      first = first;
      size = size;
      overhead = over;
      front = b.front;
      found = b.found;
      texts = b.read.texts;
      number = is ∙ b.read.number;
      some = omega (arith, is, later);
      given_is = b.read.given_is ∙ ap (λ x. given ++ x) none ∙ append-nil given;
      rest = m.held;
      leads = subst (λ i. Leads seg 0 (cut first size (drop b.front came)) b.read.texts (cut (room_at first size i) size m.held)) (sym is) (leads_held m (drop b.front came) b.read);
      there = carried later;
      nothing = subst (λ i. Agree seg i (cut (room_at first size i) size m.held) []) (sym is) nothing;
      next = subst (λ i. P over (length (take (room_at first size i) m.held))) (sym is) next;
    }

    pub cut_short : (n : ℕ) → n ≡ m.number → (length (take (room_at first size m.number) m.held) < over) ⊎ (m.held ≡ []) → StopsAt keys came given n (λ overhead l. l < overhead)
    cut_short n is (inl few) = stops_at n (λ overhead l. l < overhead) is few
    cut_short n is (inr empty) = absurd (omega (arith, carried later, ap length empty))

  pub ends_not : (m : PieceReading) (kind : Kind) → m.pending ≡ [] → (0 < m.number → 0 < length m.held) → ReadsBehind keys came given seg first size over m → pieces.FinishRefused seg first size over m kind
      → EndCause keys came given kind
  ends_not m (BadSegment n) none carried b r = stops_at m none b r.1 carried n (λ overhead l. overhead ≤ l) r.0 r.2
  ends_not m (Truncated n) none carried b r = cut_short m none b r.1 carried n r.0 r.2
  ends_not m TooManySegments none carried b r =
      stops_at m none b (Agree-used_up seg m.number (cut (room_at first size m.number) size m.held) (omega (arith, r.0))) carried (2 ^ 32) (λ overhead l. Unit {0}) (sym r.0) tt
  ends_not m _ none carried b r = absurd r

  -- all text was given where none waits
  text_given : (text pending : List ℕ) → pending ≡ [] → ReadsWhole keys came (text ++ pending) seg first size over → HasText keys came text
  text_given text pending none w = record {
    seg = seg;
    first = first;
    size = size;
    overhead = over;
    whole = subst (λ x. ReadsWhole keys came x seg first size over) (ap (λ x. text ++ x) none ∙ append-nil text) w;
  }

  pub whole_given : (m : PieceReading) → (m.progress ≡ Running → 0 < length m.pending) → IsEnding keys came given seg first size over m → m.pending ≡ [] → HasText keys came given
  whole_given m some (inl b) none = absurd (omega (arith, some b.0, ap length none))
  whole_given m some (inr w) none = text_given given m.pending none w.1

  -- a chunk that a segment leads from has bytes
  some_held : (i a b : ℕ) (Y t : List ℕ) (ts rest : List (List ℕ)) → Leads seg i (cut a b Y) (t ∷ ts) rest → 0 < length Y
  some_held i a b [] t ts rest leads = absurd (subst (λ cs. Leads seg i cs (t ∷ ts) rest) (cut_none a b) leads)
  some_held i a b (y ∷ Y) t ts rest leads = omega arith

  -- one more segment was opened, and others follow
  finish_more : (X : List ℕ) (old new : PieceReading) → 0 < first → first ≤ size → old.pending ≡ [] → 0 < length new.held → HasRead seg first size X given old → Finishes seg first size old new
      → HasRead seg first size X given new
  finish_more X old new some fits none held h f = record {
    texts = h.texts ++ new.pending ∷ [];
    number = f.number ∙ omega (arith, h.number, length-append h.texts (new.pending ∷ []));
    leads = λ more.
        let a : ℕ = room_at first size old.number in
        let later : room_at first size new.number ≡ size = ap (room_at first size) f.number ∙ room_at_next first size old.number in
        let one : Leads seg old.number (cut a size old.held) (new.pending ∷ []) (cut size size new.held) =
        subst (λ r. Leads seg old.number (cut a size old.held) (new.pending ∷ []) (cut r size new.held)) later f.leads in
        let longer = leads_longer seg old.number a size old.held new.held new.pending more (room_some first size old.number some fits) (omega (arith, some, fits))
        (some_held old.number a size old.held new.pending [] (cut size size new.held) one) held one in
        let back : Leads seg old.number (cut a size (old.held ++ more)) (new.pending ∷ []) (cut (room_at first size new.number) size (new.held ++ more)) =
        subst (λ r. Leads seg old.number (cut a size (old.held ++ more)) (new.pending ∷ []) (cut r size (new.held ++ more))) (sym later) longer in
        let next : Leads seg (0 + length h.texts) (cut a size (old.held ++ more)) (new.pending ∷ []) (cut (room_at first size new.number) size (new.held ++ more)) =
        subst (λ i. Leads seg i (cut a size (old.held ++ more)) (new.pending ∷ []) (cut (room_at first size new.number) size (new.held ++ more)))
        (let e : old.number ≡ 0 + length h.texts = omega (arith, h.number) in e) back in
        Leads-trans seg 0 _ h.texts _ (new.pending ∷ []) _ (h.leads more) next;
    given_is = joined-append h.texts (new.pending ∷ []) ∙ ap (λ x. x ++ joined (new.pending ∷ [])) (h.given_is ∙ ap (λ x. given ++ x) none ∙ append-nil given)
        ∙ ap (λ x. given ++ x) (append-nil new.pending);
  }

  module _ (old new : PieceReading) (some : 0 < first) (fits : first ≤ size) (none : old.pending ≡ []) (carried : new.progress ≡ Running → 0 < length new.held) (f : Finishes seg first size old new)
      (b : ReadsBehind keys came given seg first size over old) where
    ends_by : (p : Progress) → new.progress ≡ p → HasNotFailed p → IsEnding keys came given seg first size over new
    ends_by Running is lives = inl (is, record { front = b.front; found = b.found; read = finish_more (drop b.front came) old new some fits none (carried is) b.read f })
    ends_by Ended is lives = inr (is, record { front = b.front; found = b.found; read = finish_all seg first size (drop b.front came) given old new none is b.read f })
    ends_by (Failed c) is lives = absurd lives

    -- the next segment of what is held was opened
    pub ends : IsEnding keys came given seg first size over new
    ends = ends_by new.progress refl f.lives

  -- a reader that goes on, or is at its end, reads from what came
  pub runs_behind : (m : PieceReading) → m.progress ≡ Running → IsEnding keys came given seg first size over m → ReadsBehind keys came given seg first size over m
  runs_behind m runs (inl b) = b.1
  runs_behind m runs (inr w) = let e : Running ≡ Ended = sym runs ∙ w.0 in absurd (cc)

pub stops_there : (seg : ℕ → Bool → List ℕ → List ℕ) (first size over : ℕ) (m : PieceReading) (kind : Kind) → pieces.FinishRefused seg first size over m kind → IsStopOf m.number kind
stops_there seg first size over m (BadSegment n) r = r.0
stops_there seg first size over m (Truncated n) r = r.0
stops_there seg first size over m TooManySegments r = sym r.0
stops_there seg first size over m _ r = absurd r

-- nothing stops at the first segment
pub stops_later : (keys : List OpeningKey) (came given : List ℕ) (kind : Kind) → IsStopOf 0 kind → EndCause keys came given kind → ChoosingEndCause keys came kind
stops_later keys came given (BadSegment n) is c = absurd (omega (arith, is, c.some))
stops_later keys came given (Truncated n) is c = absurd (omega (arith, is, c.some))
stops_later keys came given TooManySegments is c = absurd (omega (arith, is))
stops_later keys came given _ is c = absurd is

-- ---- text

module _ (keys : List OpeningKey) (came given : List ℕ) (seg : ℕ → Bool → List ℕ → List ℕ) (first size over : ℕ) (old new : PieceReading) (out : List ℕ) (n : ℕ)
    (progress : new.progress ≡ old.progress) (number : new.number ≡ old.number) (held : new.held ≡ old.held) (was : out ≡ take n old.pending) (waits : new.pending ≡ drop n old.pending) where
  -- what was given, and what waits
  parts : given ++ old.pending ≡ (given ++ out) ++ new.pending
  parts =
      ap (λ x. given ++ x) (sym (take-append-drop n old.pending) ∙ ap (λ x. x ++ drop n old.pending) (sym was) ∙ ap (λ x. out ++ x) (sym waits))
      ∙ sym (append_assoc given out new.pending)

  read_given : (X : List ℕ) → HasRead seg first size X given old → HasRead seg first size X (given ++ out) new
  read_given X h = record {
    texts = h.texts;
    number = number ∙ h.number;
    leads = λ more.
        subst (λ i. Leads seg 0 (cut first size (X ++ more)) h.texts (cut (room_at first size i) size (new.held ++ more))) (sym number)
        (subst (λ x. Leads seg 0 (cut first size (X ++ more)) h.texts (cut (room_at first size old.number) size (x ++ more))) (sym held) (h.leads more));
    given_is = h.given_is ∙ parts;
  }

  pub gives_going : IsGoing keys came given seg first size over old → IsGoing keys came (given ++ out) seg first size over new
  gives_going g = (progress ∙ g.0, record { front = g.1.front; found = g.1.found; read = read_given (drop g.1.front came) g.1.read })

  pub gives_ending : IsEnding keys came given seg first size over old → IsEnding keys came (given ++ out) seg first size over new
  gives_ending (inl b) = inl (progress ∙ b.0, record { front = b.1.front; found = b.1.found; read = read_given (drop b.1.front came) b.1.read })
  gives_ending (inr w) = inr (progress ∙ w.0, subst (λ x. ReadsWhole keys came x seg first size over) parts w.1)

-- ---- a choice

-- a choice that holds more bytes
pub held_on : (old new : Choice) (piece : List ℕ) (n : ℕ) → new.keys ≡ old.keys → new.data ≡ old.data → kept_bytes new.trial.kept ≡ kept_bytes old.trial.kept ++ take n piece
    → (keys : List OpeningKey) (came given : List ℕ) → IsReading keys came given (Choosing old) → IsReading keys (came ++ take n piece) given (Choosing new)
held_on old new piece n ks own kept keys came given r =
    let same : keys_of_choice new ≡ keys_of_choice old = λ i. map (λ k. opening_key (own i).items (key_in_set k)) (ks i).items in
    (λ S chosen h. r.0 S chosen (subst (λ xs. IsChosen xs S chosen) same h), kept ∙ ap (λ x. x ++ take n piece) r.1, r.2)

-- all of a piece is held if there is room for more
pub held_all : (room filled n len room' filled' : ℕ) → n ≡ min (room - filled) len → filled ≤ room → room' ≡ room → filled' ≡ filled + n → nat_eq room' filled' ≡ false → n ≡ len
held_all room filled n len room' filled' count within rooms fills more =
    let not : room' ≡ filled' → ⊥ = eqb-false room' filled' more in
    by n count (λ e. not (rooms ∙ e ∙ sym fills))
  where
    by : (k : ℕ) → k ≡ min (room - filled) len → (room ≡ filled + k → ⊥) → k ≡ len
    by k is lacks = elim (cases_lt (room - filled) len) [
      | inl over ↦ absurd (lacks (omega (arith, is, over, within)))
      | inr fits ↦ omega (arith, is, fits)
    ]

-- the keys of a choice whose room is full have a beginning
pub choice_begins : (c : Choice) (room : ℕ) → nat_eq room c.trial.kept.filled ≡ true → room ≡ length c.trial.kept.buffer.items → All (λ e. length (key_in_set e).out + (key_in_set e).segment < room) c.keys.items
    → All (λ k. header_length k + k.offset + overhead k < k.segment) (keys_in c.keys.items) → All (HasBeginning (kept_bytes c.trial.kept)) (keys_of_choice c)
choice_begins c room full long rooms firsts =
    let all : room ≡ c.trial.kept.filled = eqb-true room c.trial.kept.filled full in
    have_beginnings c.data.items (kept_bytes c.trial.kept) room c.keys.items
    (all ∙ sym (length-take-le c.trial.kept.filled c.trial.kept.buffer.items (omega (arith, all, long)))) rooms firsts

-- what follows of each reader and of each error follows of the answer
pub lifted : (result : Result PieceReader TinkError) (P Q : PieceReader → Type 0) (R S : Kind → Type 0) → ((r : PieceReader) → P r → Q r) → ((kind : Kind) → R kind → S kind)
    → MatchResult result P (λ e. R e.kind) → MatchResult result Q (λ e. S e.kind)
lifted (Ok r) P Q R S each stop m = each r m
lifted (Err e) P Q R S each stop m = stop e.kind m

pub lifted_by : (result : Result PieceReader TinkError) (P Q : PieceReader → Type 0) (R S N : Kind → Type 0) → ((r : PieceReader) → P r → Q r) → ((kind : Kind) → N kind → R kind → S kind)
    → MatchResult result P (λ e. R e.kind) → IfErr result (λ e. N e.kind) → MatchResult result Q (λ e. S e.kind)
lifted_by (Ok r) P Q R S N each stop m is = each r m
lifted_by (Err e) P Q R S N each stop m is = stop e.kind is m
