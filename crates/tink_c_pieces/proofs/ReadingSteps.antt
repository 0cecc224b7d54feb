-- From a segment that a reader opened, or did not, to what a piece gave.
use Rattle.std.proofs.Common.{◌≡◌, inl, inr, ◌≤◌, ◌<◌, ◌+◌, ◌^◌, ℕ, zero, suc, Bool, List, [], ◌∷◌, ◌++◌, length, take, drop, Some, ap, refl, sym, ◌∙◌, subst, arith, length-append, length-drop, append_assoc}
use Rattle.std.proofs.lemmas.Bool.{cases_lt}
use Rattle.std.proofs.lemmas.List.{append-nil, length-take, length-take-le, take-append-drop, take-append-le, take_all}
use Rattle.tink_io.specs.declared.error.Kind.{Kind}
use Rattle.tink_io.specs.declared.error.Kind.TheVariants.{BadSegment, ReadFault, TooManySegments, Truncated}
use Rattle.stream_model.specs.Cut.{cut, room_at}
use Rattle.stream_model.specs.Agree.{Agree, AreTexts, Leads, joined}
use Rattle.stream_model.proofs.CutFacts.{cut_more, cut_none, cut_some, room_at_next}
use Rattle.stream_model.proofs.AgreeFacts.{Agree-none_more, Agree-used_up, Leads-trans, joined-append}
use Rattle.tink_streaming_io.specs.declared.progress.Progress.{Progress}
use Rattle.tink_streaming_io.specs.declared.progress.Progress.TheVariants.{Running, Ended, Failed}
use Rattle.tink_streaming_io.specs.Reading.{HasNotFailed, OpenNextRefused, ReaderMoment}
use Rattle.tink_streaming_segment.specs.declared.segment_traits.SegmentDecrypter.{Ghosts}
use Rattle.tink_streaming_io.specs.Openers.{held_bytes}
use Rattle.tink_streaming_io.specs.declared.reading.SegmentReader.{SegmentReader}
use Rattle.tink_c_pieces.specs.Readings.{FeedRefused, Feeds, Finishes, HasRead, HasReadAll, PieceReading}
use Rattle.tink_c_pieces.proofs.BeginningFacts.{leads_longer, rest_is}

-- a reader that has not failed and has not ended goes on
pub goes_on : (p : Progress) → HasNotFailed p → (p ≡ Ended → ⊥) → p ≡ Running
goes_on Running lives not = refl
goes_on Ended lives not = absurd (not refl)
goes_on (Failed c) lives not = absurd lives

pub room_some : (first size i : ℕ) → 0 < first → first ≤ size → 0 < room_at first size i
room_some first size zero p q = p
room_some first size (suc i) p q = omega arith

pub over_fits : (over first size i : ℕ) → over < first → first ≤ size → over < room_at first size i
over_fits over first size zero p q = p
over_fits over first size (suc i) p q = omega arith

-- nothing agrees with what came, and so nothing with what may come
none_longer : (seg : ℕ → Bool → List ℕ → List ℕ) (i a b : ℕ) (Y more : List ℕ) → 0 < a → 0 < b → a < length Y → Agree seg i (cut a b Y) [] → Agree seg i (cut a b (Y ++ more)) []
none_longer seg i a b Y more p q long none = elim (cases_lt i (2 ^ 32)) [
  | inr many ↦ Agree-used_up seg i (cut a b (Y ++ more)) many
  | inl few ↦
      let X : List ℕ = drop a Y in
      let others = cut_some b b X (omega (arith, long, length-drop a Y)) in
      let chunks : cut a b Y ≡ take a Y ∷ others.0 ∷ others.1 = cut_more a b Y long p q ∙ ap (λ cs. take a Y ∷ cs) others.2 in
      let front : take a (Y ++ more) ≡ take a Y = take-append-le a Y more (omega (arith, long)) in
      Agree-none_more seg i a b (Y ++ more) p q (omega (arith, long, length-append Y more))
      (λ t e. let one : AreTexts seg i (take a Y ∷ others.0 ∷ others.1) (t ∷ []) = (few, e ∙ front, tt) in
      let most : 1 ≤ 0 = none.longest (t ∷ []) (subst (λ cs. AreTexts seg i cs (t ∷ [])) (sym chunks) one) in
      omega (arith, most))
]

module _ (seg : ℕ → Bool → List ℕ → List ℕ) (first size : ℕ) (some : 0 < first) (fits : first ≤ size) where
  -- the whole piece is held
  pub feeds_held : (old new : PieceReading) (piece : List ℕ) → new.progress ≡ Running → new.number ≡ old.number → new.pending ≡ [] → new.held ≡ old.held ++ piece
      → Feeds seg first size old new piece (length piece)
  feeds_held old new piece runs number none held = record {
    running = runs;
    within = omega arith;
    texts = [];
    one = omega arith;
    all = λ e. refl;
    number = number ∙ omega arith;
    pending = none;
    leads = λ more.
        ap (λ i. cut (room_at first size i) size (new.held ++ more)) number
        ∙ ap (cut (room_at first size old.number) size)
        (ap (λ x. x ++ more) held ∙ append_assoc old.held piece more ∙ ap (λ x. old.held ++ (x ++ more)) (sym (take_all (length piece) piece (omega arith))));
  }

  -- a segment was opened
  pub feeds_opened : (old new : PieceReading) (piece part t : List ℕ) (n : ℕ) → part ≡ take n piece → n ≤ length piece → room_at first size old.number < length (old.held ++ part)
      → Leads seg old.number (cut (room_at first size old.number) size (old.held ++ part)) (t ∷ []) (cut size size new.held)
      → 0 < length new.held → new.number ≡ old.number + 1 → new.pending ≡ t → new.progress ≡ Running → Feeds seg first size old new piece n
  feeds_opened old new piece part t n is within long leads rest number pending runs = record {
    running = runs;
    within = within;
    texts = t ∷ [];
    one = omega arith;
    all = λ e. absurd (omega (arith, ap length e));
    number = number ∙ omega arith;
    pending = pending ∙ sym (append-nil t);
    leads = λ more.
        let a : ℕ = room_at first size old.number in
        let longer = leads_longer seg old.number a size (old.held ++ part) new.held t more (room_some first size old.number some fits) (omega (arith, some, fits)) (omega (arith, long)) rest leads in
        let room : size ≡ room_at first size new.number = sym (ap (room_at first size) number ∙ room_at_next first size old.number) in
        subst (λ r. Leads seg old.number (cut a size (old.held ++ (take n piece ++ more))) (t ∷ []) (cut r size (new.held ++ more))) room
        (subst (λ x. Leads seg old.number (cut a size x) (t ∷ []) (cut size size (new.held ++ more)))
        (append_assoc old.held part more ∙ ap (λ x. old.held ++ (x ++ more)) is) longer);
  }

  -- what is left of what came is held
  pub rest_held : (i : ℕ) (Y t held left : List ℕ) → room_at first size i < length Y → Leads seg i (cut (room_at first size i) size Y) (t ∷ []) (cut size size (held ++ left))
      → (held ++ left ≡ drop (room_at first size i) Y)
  rest_held i Y t held left long leads = rest_is seg i (room_at first size i) size Y (held ++ left) t (room_some first size i some fits) (omega (arith, some, fits)) long leads

  -- each refusal of a segment that is there
  module _ (overhead : ℕ) (old : PieceReading) (piece part opened : List ℕ) (l : ℕ) (n : ReaderMoment) (over : overhead < first) (is : part ≡ take l piece)
      (long : room_at first size old.number < length (old.held ++ part)) (still : n.faults ≡ 0) where
    -- the whole piece has at least the bytes that were taken
    next : room_at first size old.number < length (old.held ++ piece)
    next = omega (arith, long, ap length is, length-append old.held part, length-append old.held piece, length-take l piece)

    -- what may come behind the bytes that were taken is the rest of the piece, and what may come behind it
    behind : (more : List ℕ) → ((old.held ++ part) ++ (drop l piece ++ more) ≡ old.held ++ (piece ++ more))
    behind more =
        append_assoc old.held part (drop l piece ++ more) ∙ ap (λ x. old.held ++ (x ++ (drop l piece ++ more))) is
        ∙ ap (λ x. old.held ++ x) (sym (append_assoc (take l piece) (drop l piece) more)) ∙ ap (λ x. old.held ++ (x ++ more)) (take-append-drop l piece)

    pub refused : (kind : Kind) → OpenNextRefused seg first size overhead (record { progress = old.progress; number = old.number; opened = opened; rest = Some (old.held ++ part); faults = 0 }) n kind
        → FeedRefused seg first size old piece kind
    refused ReadFault r = absurd (omega (arith, r.rose, still))
    refused TooManySegments r = (r.number, next)
    refused (BadSegment k) r = record {
      number = r.number;
      next = next;
      nothing = λ more.
          let a : ℕ = room_at first size old.number in
          subst (λ x. Agree seg old.number (cut a size x) []) (behind more)
          (none_longer seg old.number a size (old.held ++ part) (drop l piece ++ more) (room_some first size old.number some fits) (omega (arith, some, fits)) long r.nothing);
    }
    refused (Truncated k) r =
        let a : ℕ = room_at first size old.number in
        let whole : length (take a (old.held ++ part)) ≡ a = length-take-le a (old.held ++ part) (omega (arith, long)) in
        elim r.short.0 [
          | inl few ↦ absurd (omega (arith, few, whole, over_fits overhead first size old.number over fits))
          | inr none ↦ absurd (omega (arith, ap length none, long))
        ]
    refused _ r = absurd r

pub none_left : (xs : List ℕ) → length xs ≡ 0 → xs ≡ []
none_left [] e = refl
none_left (x ∷ xs) e = absurd (omega (arith, e))

-- a reader holds as many bytes as are filled
pub held_length : {D : Type 0} {g : Ghosts D} (r : SegmentReader D g) → length (held_bytes r) ≡ r.filled
held_length r = length-take-le r.filled r.buffer.items (omega (arith, r.filled_in, r.buffer.ok.0))

module _ (seg : ℕ → Bool → List ℕ → List ℕ) (first size : ℕ) where
  pub feed_more : (came given : List ℕ) (old new : PieceReading) (piece : List ℕ) (n : ℕ) → old.pending ≡ [] → HasRead seg first size came given old → Feeds seg first size old new piece n
      → HasRead seg first size (came ++ take n piece) given new
  feed_more came given old new piece n none h f = record {
    texts = h.texts ++ f.texts;
    number = f.number ∙ omega (arith, h.number, length-append h.texts f.texts);
    leads = λ more.
        let part : List ℕ = take n piece in
        let whole = h.leads (part ++ more) in
        let next : Leads seg (0 + length h.texts) (cut (room_at first size old.number) size (old.held ++ (part ++ more))) f.texts (cut (room_at first size new.number) size (new.held ++ more)) =
        subst (λ i. Leads seg i (cut (room_at first size old.number) size (old.held ++ (part ++ more))) f.texts (cut (room_at first size new.number) size (new.held ++ more)))
        (let e : old.number ≡ 0 + length h.texts = omega (arith, h.number) in e) (f.leads more) in
        subst (λ x. Leads seg 0 (cut first size x) (h.texts ++ f.texts) (cut (room_at first size new.number) size (new.held ++ more))) (sym (append_assoc came part more))
        (Leads-trans seg 0 _ h.texts _ f.texts _ whole next);
    given_is = joined-append h.texts f.texts ∙ ap (λ x. x ++ joined f.texts) (h.given_is ∙ ap (λ x. given ++ x) none ∙ append-nil given) ∙ ap (λ x. given ++ x) (sym f.pending);
  }

  pub finish_all : (came given : List ℕ) (old new : PieceReading) → old.pending ≡ [] → new.progress ≡ Ended → HasRead seg first size came given old → Finishes seg first size old new
      → HasReadAll seg first size came (given ++ new.pending)
  finish_all came given old new none ended h f = record {
    texts = h.texts ++ new.pending ∷ [];
    leads =
        let whole : Leads seg 0 (cut first size came) h.texts (cut (room_at first size old.number) size old.held) =
        subst (λ x. Leads seg 0 (cut first size x) h.texts (cut (room_at first size old.number) size old.held)) (append-nil came)
        (subst (λ x. Leads seg 0 (cut first size (came ++ [])) h.texts (cut (room_at first size old.number) size x)) (append-nil old.held) (h.leads [])) in
        let next : Leads seg (0 + length h.texts) (cut (room_at first size old.number) size old.held) (new.pending ∷ []) [] =
        subst (λ i. Leads seg i (cut (room_at first size old.number) size old.held) (new.pending ∷ []) []) (let e : old.number ≡ 0 + length h.texts = omega (arith, h.number) in e)
        (subst (λ cs. Leads seg old.number (cut (room_at first size old.number) size old.held) (new.pending ∷ []) cs)
        (ap (cut (room_at first size new.number) size) (f.ends ended) ∙ cut_none (room_at first size new.number) size) f.leads) in
        Leads-trans seg 0 _ h.texts _ (new.pending ∷ []) [] whole next;
    text_is = joined-append h.texts (new.pending ∷ []) ∙ ap (λ x. x ++ joined (new.pending ∷ [])) (h.given_is ∙ ap (λ x. given ++ x) none ∙ append-nil given)
        ∙ ap (λ x. given ++ x) (append-nil new.pending);
  }
