-- Laws of the reads of a text.
use Rattle.std.proofs.Common.{◌≡◌, ◌<◌, ◌≤◌, ◌+◌, ◌-◌, ℕ, Bool, List, [], ◌∷◌, ◌++◌, length, take, drop, Some, None, refl, sym, ap, subst, ◌∙◌, arith, append_assoc, length-append}
use Rattle.std.specs.Prelude.{Result, Ok, Err, IfSome}
use Rattle.std.proofs.lemmas.List.{append-nil}
use Rattle.std.proofs.Math.ListN.{drop_of_length-le}
use Rattle.std.specs.declared.option.Option.{Option}
use Rattle.stream_model.specs.Cut.{cut, room_at}
use Rattle.stream_model.specs.Agree.{Leads, joined}
use Rattle.stream_model.specs.Opening.{AreSegments}
use Rattle.stream_model.proofs.WholeFacts.{stream_of_leads}
use Rattle.stream_model.proofs.AgreeFacts.{Leads-trans, joined-append}
use Rattle.tink_io.specs.declared.error.Cause.{Cause}
use Rattle.tink_io.specs.declared.error.Kind.{Kind}
use Rattle.tink_io.specs.declared.error.Kind.TheVariants.{ReadFault, TooManySegments, BadSegment, Truncated, FailedBefore}
use Rattle.tink_io.specs.declared.error.TinkError.{TinkError}
use Rattle.tink_streaming_io.specs.declared.progress.Progress.{Progress}
use Rattle.tink_streaming_io.specs.declared.progress.Progress.TheVariants.{Running, Ended, Failed}
use Rattle.tink_streaming_io.specs.Reading.{TellsLeads, HasNotFailed, NothingComes}
use Rattle.tink_streaming_io.specs.TextReading.{TextMoment, of_segments, with_pending, IsDue, AtEnd, GivesText, ReadRefused, ReadMeans, Gave, IsAllText, IsTextOf, IsLongest}
use Rattle.tink_streaming_io.proofs.ReadingFacts.{opened_all, opened_agree}
use Rattle.tink_streaming_io.proofs.TextFacts.{tells_none}

not_due : (m : TextMoment) (room : ℕ) → AtEnd m → IsDue m room → ⊥
not_due m room e d = let h : Running ≡ Ended = sym d.running ∙ e.ended in cc

none_opened : (m : TextMoment) (room : ℕ) (ts : List (List ℕ)) → (IsDue m room → ⊥) → (0 < length ts → IsDue m room) → ts ≡ []
none_opened m room [] not h = refl
none_opened m room (t ∷ ts) not h = absurd (not (h (omega arith)))

end_gives : (seg : ℕ → Bool → List ℕ → List ℕ) (a b : ℕ) (old new : TextMoment) (before after : List ℕ) (n : ℕ) → AtEnd old → GivesText seg a b old new before after n → (n ≡ 0) × (new ≡ old)
end_gives seg a b old new before after n e g =
    let none : g.texts ≡ [] = none_opened old (length before) g.texts (not_due old (length before) e) g.due in
    let all : old.pending ++ joined g.texts ≡ [] = ap (λ ts. old.pending ++ joined ts) none ∙ append-nil old.pending ∙ e.pending in
    (omega (arith, g.count, ap length all), g.still none ∙ ap (with_pending old) (ap (drop n) e.pending ∙ drop_of_length-le [] {i = n} (omega arith) ∙ sym e.pending))

end_refuses : (seg : ℕ → Bool → List ℕ → List ℕ) (a b overhead : ℕ) (old new : TextMoment) (room : ℕ) (k : Kind) → AtEnd old → ReadRefused seg a b overhead old new room k → ⊥
end_refuses seg a b overhead old new room ReadFault e h = not_due old room e h.0
end_refuses seg a b overhead old new room TooManySegments e h = not_due old room e h.0
end_refuses seg a b overhead old new room (BadSegment n) e h = not_due old room e h.0
end_refuses seg a b overhead old new room (Truncated n) e h = not_due old room e h.0
end_refuses seg a b overhead old new room (FailedBefore c) e h = let f : Failed c ≡ Ended = sym h.0 ∙ e.ended in cc
end_refuses seg a b overhead old new room k e h = absurd h

-- at the end
pub read_end : (seg : ℕ → Bool → List ℕ → List ℕ) (a b overhead : ℕ) (old new : TextMoment) (before after : List ℕ) (r : Result ℕ TinkError)
    → AtEnd old → ReadMeans seg a b overhead old new before after r → (r ≡ Ok 0) × (new ≡ old)
read_end seg a b overhead old new before after (Ok n) e m = let g = end_gives seg a b old new before after n e m in (ap Ok g.0, g.1)
read_end seg a b overhead old new before after (Err x) e m = absurd (end_refuses seg a b overhead old new (length before) x.kind e m.1)

not_due_failed : (m : TextMoment) (room : ℕ) (c : Cause) → m.progress ≡ Failed c → IsDue m room → ⊥
not_due_failed m room c e d = let h : Running ≡ Failed c = sym d.running ∙ e in cc

same_cause : (c d : Cause) (p : Progress) → p ≡ Failed c → p ≡ Failed d → d ≡ c
same_cause c d p e f = cc

failed_refuses : (seg : ℕ → Bool → List ℕ → List ℕ) (a b overhead : ℕ) (old new : TextMoment) (room : ℕ) (k : Kind) (c : Cause) → old.progress ≡ Failed c → ReadRefused seg a b overhead old new room k
    → (k ≡ FailedBefore c) × (new ≡ old)
failed_refuses seg a b overhead old new room ReadFault c e h = absurd (not_due_failed old room c e h.0)
failed_refuses seg a b overhead old new room TooManySegments c e h = absurd (not_due_failed old room c e h.0)
failed_refuses seg a b overhead old new room (BadSegment n) c e h = absurd (not_due_failed old room c e h.0)
failed_refuses seg a b overhead old new room (Truncated n) c e h = absurd (not_due_failed old room c e h.0)
failed_refuses seg a b overhead old new room (FailedBefore d) c e h = (ap FailedBefore (same_cause c d old.progress e h.0), h.1)
failed_refuses seg a b overhead old new room k c e h = absurd h

lives_not : (p : Progress) (c : Cause) → p ≡ Failed c → HasNotFailed p → ⊥
lives_not Running c e h = cc
lives_not Ended c e h = cc
lives_not (Failed d) c e h = h

-- after a failure
pub read_failed : (seg : ℕ → Bool → List ℕ → List ℕ) (a b overhead : ℕ) (old new : TextMoment) (before after : List ℕ) (r : Result ℕ TinkError) (c : Cause)
    → old.progress ≡ Failed c → ReadMeans seg a b overhead old new before after r → (r ≡ Err (record { kind = FailedBefore c })) × (new ≡ old)
read_failed seg a b overhead old new before after (Ok n) c e m = absurd (lives_not old.progress c e m.was)
read_failed seg a b overhead old new before after (Err x) c e m =
    let f = failed_refuses seg a b overhead old new (length before) x.kind c e m.1 in
    (ap (λ (k : Kind). Err (record { kind = k })) f.0, f.1)

-- before any read
pub gave_none : (seg : ℕ → Bool → List ℕ → List ℕ) (a b : ℕ) (m : TextMoment) → m.number ≡ 0 → m.pending ≡ [] → Gave seg a b m.rest [] m
gave_none seg a b m z e = record { texts = []; number = z; leads = tells_none seg a b 0 m.rest; given_is = sym e }

tells_trans : (seg : ℕ → Bool → List ℕ → List ℕ) (a b i : ℕ) (r0 r1 r2 : Option (List ℕ)) (ts us : List (List ℕ)) → i ≡ length ts
    → TellsLeads seg a b 0 r0 ts r1 → TellsLeads seg a b i r1 us r2 → TellsLeads seg a b 0 r0 (ts ++ us) r2
tells_trans seg a b i None r1 r2 ts us e p q = tt
tells_trans seg a b i (Some X) None r2 ts us e p q = absurd p
tells_trans seg a b i (Some X) (Some Y) None ts us e p q = absurd q
tells_trans seg a b i (Some X) (Some Y) (Some Z) ts us e p q =
    let from : i ≡ 0 + length ts = omega arith in
    let to : (0 + length ts) + length us ≡ 0 + length (ts ++ us) = omega (arith, length-append ts us) in
    let next : Leads seg (0 + length ts) (cut (room_at a b (0 + length ts)) b Y) us (cut (room_at a b ((0 + length ts) + length us)) b Z) =
    subst (λ (n : ℕ). Leads seg n (cut (room_at a b n) b Y) us (cut (room_at a b (n + length us)) b Z)) from q in
    subst (λ (n : ℕ). Leads seg 0 (cut a b X) (ts ++ us) (cut (room_at a b n) b Z)) to
    (Leads-trans seg 0 (cut a b X) ts (cut (room_at a b (0 + length ts)) b Y) us (cut (room_at a b ((0 + length ts) + length us)) b Z) p next)

-- one more read
pub gave_more : (seg : ℕ → Bool → List ℕ → List ℕ) (a b : ℕ) (all : Option (List ℕ)) (given : List ℕ) (old new : TextMoment) (before after : List ℕ) (n : ℕ)
    → Gave seg a b all given old → GivesText seg a b old new before after n → Gave seg a b all (given ++ take n after) new
gave_more seg a b all given old new before after n w g = record {
  texts = w.texts ++ g.texts;
  number = g.number ∙ ap (λ i. i + length g.texts) w.number ∙ sym (length-append w.texts g.texts);
  leads = tells_trans seg a b old.number all old.rest new.rest w.texts g.texts w.number w.leads g.leads;
  given_is = joined-append w.texts g.texts
      ∙ ap (λ x. x ++ joined g.texts) w.given_is
      ∙ append_assoc given old.pending (joined g.texts)
      ∙ ap (λ x. given ++ x) g.given
      ∙ sym (append_assoc given (take n after) new.pending);
}

-- the whole text
pub gave_all : (seg : ℕ → Bool → List ℕ → List ℕ) (a b : ℕ) (all : Option (List ℕ)) (given : List ℕ) (m : TextMoment) → Gave seg a b all given m → AtEnd m → IsAllText seg a b all given
gave_all seg a b all given m w e = record {
  texts = w.texts;
  some = omega (arith, e.some, w.number);
  leads = opened_all seg a b all w.texts (of_segments m) (record { number = w.number; leads = w.leads }) e.rest;
  given_is = sym (append-nil given) ∙ ap (λ x. given ++ x) (sym e.pending) ∙ sym w.given_is;
}

not_due_empty : (m : TextMoment) → IsDue m 0 → ⊥
not_due_empty m d = let s = d.some in omega arith

empty_refuses : (seg : ℕ → Bool → List ℕ → List ℕ) (a b overhead : ℕ) (old new : TextMoment) (k : Kind) → HasNotFailed old.progress → ReadRefused seg a b overhead old new 0 k → ⊥
empty_refuses seg a b overhead old new ReadFault l h = not_due_empty old h.0
empty_refuses seg a b overhead old new TooManySegments l h = not_due_empty old h.0
empty_refuses seg a b overhead old new (BadSegment n) l h = not_due_empty old h.0
empty_refuses seg a b overhead old new (Truncated n) l h = not_due_empty old h.0
empty_refuses seg a b overhead old new (FailedBefore c) l h = lives_not old.progress c h.0 l
empty_refuses seg a b overhead old new k l h = absurd h

empty_gives : (seg : ℕ → Bool → List ℕ → List ℕ) (a b : ℕ) (old new : TextMoment) (after : List ℕ) (n : ℕ) → GivesText seg a b old new [] after n → (n ≡ 0) × (new ≡ old)
empty_gives seg a b old new after n g =
    let zero_is : n ≡ 0 = omega (arith, g.count) in
    let none : g.texts ≡ [] = none_opened old 0 g.texts (not_due_empty old) g.due in
    (zero_is, g.still none ∙ ap (λ i. with_pending old (drop i old.pending)) zero_is)

-- an empty buffer
pub read_empty : (seg : ℕ → Bool → List ℕ → List ℕ) (a b overhead : ℕ) (old new : TextMoment) (after : List ℕ) (r : Result ℕ TinkError)
    → HasNotFailed old.progress → ReadMeans seg a b overhead old new [] after r → (r ≡ Ok 0) × (new ≡ old)
read_empty seg a b overhead old new after (Ok n) l m = let g = empty_gives seg a b old new after n m in (ap Ok g.0, g.1)
read_empty seg a b overhead old new after (Err x) l m = absurd (empty_refuses seg a b overhead old new x.kind l m.1)

-- all that agrees
pub gave_longest : (seg : ℕ → Bool → List ℕ → List ℕ) (a b : ℕ) (all : Option (List ℕ)) (given : List ℕ) (m : TextMoment) → Gave seg a b all given m → m.pending ≡ [] → NothingComes seg a b (of_segments m) → IsLongest seg a b all given
gave_longest seg a b all given m w e none = record {
  texts = w.texts;
  agree = opened_agree seg a b all w.texts (of_segments m) (record { number = w.number; leads = w.leads }) none;
  given_is = sym (append-nil given) ∙ ap (λ x. given ++ x) (sym e) ∙ sym w.given_is;
}

segments_told : (seg : ℕ → Bool → List ℕ → List ℕ) (o a b : ℕ) (all : Option (List ℕ)) (texts : List (List ℕ)) → ((i : ℕ) (last : Bool) (t : List ℕ) → length (seg i last t) ≡ length t + o) → o < a → o < b → 0 < length texts
    → IfSome all (λ X. Leads seg 0 (cut a b X) texts []) → IfSome all (λ X. AreSegments seg 0 (a - o) (b - o) X texts)
segments_told seg o a b None texts longer p q some h = tt
segments_told seg o a b (Some X) texts longer p q some h =
    let first : (a - o) + o ≡ a = omega arith in
    let later : (b - o) + o ≡ b = omega arith in
    stream_of_leads seg o 0 (a - o) (b - o) texts X longer (omega arith) (omega arith) some
    (subst (λ (n : ℕ). Leads seg 0 (cut n ((b - o) + o) X) texts []) (sym first) (subst (λ (n : ℕ). Leads seg 0 (cut a n X) texts []) (sym later) h))

-- the whole text is that of a stream
pub text_of_whole : (seg : ℕ → Bool → List ℕ → List ℕ) (o a b : ℕ) (all : Option (List ℕ)) (given : List ℕ) → ((i : ℕ) (last : Bool) (t : List ℕ) → length (seg i last t) ≡ length t + o) → o < a → a ≤ b
    → IsAllText seg a b all given → IsTextOf seg (a - o) (b - o) all given
text_of_whole seg o a b all given longer p q w = record {
  texts = w.texts;
  segments = segments_told seg o a b all w.texts longer p (omega arith) w.some w.leads;
  given_is = w.given_is;
}
