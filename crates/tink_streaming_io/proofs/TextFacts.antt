-- Reads of a text, step by step.
use Rattle.std.proofs.Common.{◌≡◌, ◌<◌, ◌≤◌, ℕ, zero, suc, Bool, false, List, [], ◌∷◌, ◌++◌, length, take, drop, min, Some, None, refl, sym, ap, ◌∙◌, arith, length-drop, add-zero}
use Rattle.std.specs.Option.{ForSome}
use Rattle.std.specs.Prelude.{nat_eq}
use Rattle.std.proofs.lemmas.Bool.{false≢true}
use Rattle.std.proofs.lemmas.List.{append-nil, take-append-drop}
use Rattle.std.proofs.Math.ListN.{drop_of_length-le}
use Rattle.std.specs.declared.option.Option.{Option}
use Rattle.std.specs.Io.KnownBytes.{IsAtEnd}
use Rattle.tink_io.specs.declared.error.Cause.{Cause}
use Rattle.tink_io.specs.declared.error.Kind.{Kind}
use Rattle.tink_io.specs.declared.error.Kind.TheVariants.{ReadFault, TooManySegments, BadSegment, Truncated}
use Rattle.tink_streaming_io.specs.declared.progress.Progress.{Progress}
use Rattle.tink_streaming_io.specs.declared.progress.Progress.TheVariants.{Running, Ended, Failed}
use Rattle.tink_streaming_io.specs.Reading.{ReaderMoment, TellsLeads, OpensNext, OpenNextRefused, HasNotFailed}
use Rattle.tink_streaming_io.specs.TextReading.{TextMoment, of_segments, with_pending, IsDue, AtEnd, IsReady, GivesText, ReadRefused}

pub nil_of_length : (xs : List ℕ) → length xs ≡ 0 → xs ≡ []
nil_of_length [] e = refl
nil_of_length (x ∷ xs) e = absurd (omega arith)

no_texts : (ts : List (List ℕ)) → length ts ≡ 0 → ts ≡ []
no_texts [] e = refl
no_texts (t ∷ ts) e = absurd (omega arith)

pub tells_none : (seg : ℕ → Bool → List ℕ → List ℕ) (a b i : ℕ) (r : Option (List ℕ)) → TellsLeads seg a b i r [] r
tells_none seg a b i None = tt
tells_none seg a b i (Some X) = rw add-zero refl

-- a reader that runs no more, and has not failed
pub over : (p : Progress) → HasNotFailed p → (p ≡ Running → ⊥) → p ≡ Ended
over Running h r = absurd (r refl)
over Ended h r = refl
over (Failed c) h r = absurd h

-- nothing was due
pub ready_held : (seg : ℕ → Bool → List ℕ → List ℕ) (a b : ℕ) (m : TextMoment) → HasNotFailed m.progress → (IsDue m 1 → ⊥) → (m.pending ≡ [] → AtEnd m) → (m.progress ≡ Ended → IsAtEnd m.rest) → IsReady seg a b m m
ready_held seg a b m lives none end ends = record {
  lives = lives;
  texts = [];
  due = λ h. absurd (omega arith);
  one = λ d. absurd (none d);
  leads = tells_none seg a b m.number m.rest;
  number = sym (add-zero m.number);
  pending = append-nil m.pending;
  still = λ _. refl;
  end = end;
  ends = ends;
}

-- the next segment was opened
pub ready_opened : (seg : ℕ → Bool → List ℕ → List ℕ) (a b : ℕ) (old new : TextMoment) → IsDue old 1 → (new.progress ≡ Ended → 0 < new.number) → OpensNext seg a b (of_segments old) (of_segments new) → IsReady seg a b old new
ready_opened seg a b old new due some next = record {
  lives = next.lives;
  texts = new.pending ∷ [];
  due = λ _. due;
  one = λ _. refl;
  leads = next.leads;
  number = next.number;
  pending = ap (λ x. x ++ (new.pending ++ [])) due.pending ∙ append-nil new.pending;
  still = λ e. absurd (let n = ap length e in omega arith);
  end = at_end new next.lives next.goes_on next.ends some;
  ends = next.ends;
}
  where
    at_end : (m : TextMoment) → HasNotFailed m.progress → (m.progress ≡ Running → 0 < length m.pending) → (m.progress ≡ Ended → IsAtEnd m.rest) → (m.progress ≡ Ended → 0 < m.number) → m.pending ≡ [] → AtEnd m
    at_end m lives goes_on ends some none = record {
      ended = ended;
      some = some ended;
      pending = none;
      rest = ends ended;
    }
      where
        over : (p : Progress) → HasNotFailed p → (p ≡ Running → ⊥) → p ≡ Ended
        over Running h r = absurd (r refl)
        over Ended h r = refl
        over (Failed c) h r = absurd h

        ended : m.progress ≡ Ended
        ended = over m.progress lives (λ r. let z : length m.pending ≡ 0 = ap length none in let s = goes_on r in omega arith)

-- a segment is due for any room but none
pub due_room : (m : TextMoment) (room : ℕ) → 0 < room → IsDue m 1 → IsDue m room
due_room m room h d = record { running = d.running; pending = d.pending; some = h }

due_one : (m : TextMoment) (room : ℕ) → IsDue m room → IsDue m 1
due_one m room d = record { running = d.running; pending = d.pending; some = omega arith }

-- bytes were given of what is ready
pub given_ready : (seg : ℕ → Bool → List ℕ → List ℕ) (a b : ℕ) (old mid : TextMoment) (before after rest : List ℕ) (n : ℕ) → HasNotFailed old.progress → IsReady seg a b old mid → 0 < length before
    → n ≡ min (length before) (length mid.pending) → take n after ≡ take n mid.pending → drop n after ≡ drop n before → rest ≡ drop n mid.pending
    → GivesText seg a b old (with_pending mid rest) before after n
given_ready seg a b old mid before after rest n was ready some count bytes behind rest_is = record {
  was = was;
  lives = ready.lives;
  texts = ready.texts;
  due = λ h. due_room old (length before) some (ready.due h);
  one = λ d. ready.one (due_one old (length before) d);
  leads = ready.leads;
  number = ready.number;
  given = ready.pending ∙ sym (take-append-drop n mid.pending) ∙ ap (λ x. x ++ drop n mid.pending) (sym bytes) ∙ ap (λ x. take n after ++ x) (sym rest_is);
  count = count ∙ ap (λ x. min (length before) (length x)) (sym ready.pending);
  behind = behind;
  still = λ none.
      let same : mid ≡ old = ready.still none in
      ap (λ m. with_pending m rest) same ∙ ap (with_pending old) (rest_is ∙ ap (λ m. drop n m.pending) same);
  end = λ z _. finished z;
  ends = ready.ends;
}
  where
    finished : n ≡ 0 → AtEnd (with_pending mid rest)
    finished z =
        let none : mid.pending ≡ [] = nil_of_length mid.pending (omega arith) in
        let gone : rest ≡ [] = rest_is ∙ ap (drop n) none ∙ drop_of_length-le [] {i = n} (omega arith) in
        let over = ready.end none in
        record { ended = over.ended; some = over.some; pending = gone; rest = over.rest }

-- no room: nothing is given
pub gives_none : (seg : ℕ → Bool → List ℕ → List ℕ) (a b : ℕ) (m : TextMoment) (buf : List ℕ) → HasNotFailed m.progress → length buf ≡ 0 → (m.progress ≡ Ended → IsAtEnd m.rest) → GivesText seg a b m m buf buf 0
gives_none seg a b m buf was empty ends = record {
  was = was;
  lives = was;
  texts = [];
  due = λ h. absurd (omega arith);
  one = λ d. absurd (let s = d.some in omega arith);
  leads = tells_none seg a b m.number m.rest;
  number = sym (add-zero m.number);
  given = append-nil m.pending;
  count = omega arith;
  behind = refl;
  still = λ _. refl;
  end = λ z some. absurd (omega arith);
  ends = ends;
}

-- the next segment was not opened
pub refused_read : (seg : ℕ → Bool → List ℕ → List ℕ) (a b overhead : ℕ) (old new : TextMoment) (room : ℕ) (k : Kind) → 0 < room → IsDue old 1 × OpenNextRefused seg a b overhead (of_segments old) (of_segments new) k → ReadRefused seg a b overhead old new room k
refused_read seg a b overhead old new room ReadFault some h = (due_room old room some h.0, h.1)
refused_read seg a b overhead old new room TooManySegments some h = (due_room old room some h.0, h.1)
refused_read seg a b overhead old new room (BadSegment n) some h = (due_room old room some h.0, h.1)
refused_read seg a b overhead old new room (Truncated n) some h = (due_room old room some h.0, h.1)
refused_read seg a b overhead old new room k some h = absurd h.1

pub not_failed : (p : Progress) → ((c : Cause) → p ≡ Failed c → ⊥) → HasNotFailed p
not_failed Running h = tt
not_failed Ended h = tt
not_failed (Failed c) h = h c refl

-- the end, said in either form
pub told_end : (r : Option (List ℕ)) → ForSome r (λ xs. xs ≡ []) → IsAtEnd r
told_end None h = tt
told_end (Some X) h = h X refl

pub end_told : (r : Option (List ℕ)) → IsAtEnd r → ForSome r (λ xs. xs ≡ [])
end_told None h = λ x e. absurd (let f : None ≡ Some x = e in cc)
end_told (Some X) h = λ x e. let f : X ≡ x = (let g : Some X ≡ Some x = e in cc) in sym f ∙ h

pub not_none : (n : ℕ) (xs : List ℕ) → n < length xs → drop n xs ≡ [] → ⊥
not_none n xs h e = omega (arith, ap length e, length-drop n xs)

pub none_left : (n : ℕ) (xs : List ℕ) → length xs ≤ n → drop n xs ≡ []
none_left n xs h = drop_of_length-le xs {i = n} h

-- a reader that was refused has not ended
pub refused_ends_not : (seg : ℕ → Bool → List ℕ → List ℕ) (a b overhead : ℕ) (old new : ReaderMoment) (k : Kind) → OpenNextRefused seg a b overhead old new k → new.progress ≡ Ended → ⊥
refused_ends_not seg a b overhead old new ReadFault h ended = let failed = h.fails.failed in cc
refused_ends_not seg a b overhead old new TooManySegments h ended = let failed = h.fails.failed in cc
refused_ends_not seg a b overhead old new (BadSegment n) h ended = let failed = h.fails.failed in cc
refused_ends_not seg a b overhead old new (Truncated n) h ended = let failed = h.fails.failed in cc
refused_ends_not seg a b overhead old new k h ended = h

-- a number that is not 0
pub some_by : (n : ℕ) → false ≡ nat_eq n 0 → 0 < n
some_by zero e = absurd (false≢true e)
some_by (suc n) e = omega arith
