-- Opening and writing what a reader finds, segment by segment.
use Rattle.std.proofs.Common.{◌≡◌, ◌⊎◌, inl, inr, ◌≤◌, ◌<◌, ◌+◌, ◌-◌, ◌*◌, ◌^◌, ℕ, zero, suc, Bool, List, [], ◌∷◌, ◌++◌, length, get_or, refl, sym, ap, subst, ◌∙◌, arith, Some, None, IfSome, length-append}
use Rattle.std.proofs.lemmas.List.{append-nil, length-take}
use Rattle.std.specs.declared.option.Option.{Option}
use Rattle.std.specs.Prelude.{Err, IsSome}
use Rattle.std.specs.Io.KnownBytes.{Appends, Keeps, IsAtEnd, prepend_known}
use Rattle.std.proofs.KnownBytes.{Appends-nil, Appends-trans}
use Rattle.tink_io.specs.Faults.{Rose}
use Rattle.tink_io.specs.Written.{AppendsPrefix}
use Rattle.tink_io.proofs.FaultLemmas.{Rose-later, Rose-earlier}
use Rattle.tink_io.proofs.WrittenLemmas.{then_prefix}
use Rattle.tink_io.specs.declared.error.Kind.{Kind}
use Rattle.tink_io.specs.declared.error.Kind.TheVariants.{ReadFault, TooManySegments, NoMatchingKey, BadSegment, Truncated}
use Rattle.tink_io.specs.declared.error.TinkError.{TinkError}
use Rattle.stream_model.specs.Cut.{cut, room_at}
use Rattle.stream_model.specs.Agree.{AreTexts, Agree, Leads, joined}
use Rattle.stream_model.proofs.CutFacts.{cut_some}
use Rattle.stream_model.proofs.AgreeFacts.{joined-append}
use Rattle.tink_streaming_io.specs.declared.progress.Progress.{Progress}
use Rattle.tink_streaming_io.specs.declared.progress.Progress.TheVariants.{Ended, Failed, Running}
use Rattle.tink_streaming_io.specs.Reading.{ReaderMoment, TellsLeads, HasNotFailed, OpensNext, OpenNextRefused, chunk_at}
use Rattle.tink_streaming_io.proofs.ReadingFacts.{Opened, opened_none, opened_more, opened_all, opened_agree, at_next_chunk}
use Rattle.tink_run.specs.declared.report.Report.{Report}
use Rattle.tink_io.specs.Outside.{Outside}
use Rattle.tink_run.specs.OpenSteps.{FirstRefused, IsReadOut, Breaks, ReaderRefused}
use Rattle.tink_run.specs.Run.{LeavesSinkItself, WritesNothing}
use Rattle.tink_run.proofs.OpenLemmas.{kept_nothing}

-- a reader that has not failed and has not ended runs
pub still_running : (p : Progress) → HasNotFailed p → (p ≡ Ended → ⊥) → p ≡ Running
still_running Running lives goes_on = refl
still_running Ended lives goes_on = absurd (goes_on refl)
still_running (Failed cause) lives goes_on = absurd lives

pub some_first : {n m : ℕ} → n < m → 0 < m
some_first less = omega arith

-- of the texts that were opened, all but the last were written
pub record IsReading (seg : ℕ → Bool → List ℕ → List ℕ) (a b : ℕ) (all before now : Option (List ℕ)) (m : ReaderMoment) (bytes : ℕ) : Type 0 where
  pub texts : List (List ℕ)
  pub opened : Opened seg a b all (texts ++ (m.opened ∷ [])) m
  pub lives : HasNotFailed m.progress
  pub ends : m.progress ≡ Ended → IsAtEnd m.rest
  pub written : Appends before now (joined texts)
  pub bytes_are : bytes ≡ length (joined texts)
  pub few : bytes ≤ (2 ^ 32 - 1) * length texts
  pub small : length m.opened < 2 ^ 32

joined-one : (texts : List (List ℕ)) (t : List ℕ) → joined (texts ++ (t ∷ [])) ≡ joined texts ++ t
joined-one texts t = joined-append texts (t ∷ []) ∙ ap (λ x. joined texts ++ x) (append-nil t)

pub written_one : (texts : List (List ℕ)) (t : List ℕ) (a b c : Option (List ℕ)) → Appends a b (joined texts) → Appends b c t → Appends a c (joined (texts ++ (t ∷ [])))
written_one texts t a b c p q = subst (Appends a c) (sym (joined-one texts t)) (Appends-trans a b c (joined texts) t p q)

pub front_one : (texts : List (List ℕ)) (t : List ℕ) (a b c : Option (List ℕ)) → Appends a b (joined texts) → AppendsPrefix b c t → AppendsPrefix a c (joined (texts ++ (t ∷ [])))
front_one texts t a b c p q = subst (AppendsPrefix a c) (sym (joined-one texts t)) (then_prefix a b c (joined texts) t p q)

-- texts that lead are texts of leading segments
leads_are : (seg : ℕ → Bool → List ℕ → List ℕ) (i : ℕ) (cs ts rest : List (List ℕ)) → Leads seg i cs ts rest → AreTexts seg i cs ts
leads_are seg i cs [] rest p = tt
leads_are seg i [] (t ∷ ts) rest p = absurd p
leads_are seg i (c ∷ cs) (t ∷ ts) rest p = (p.0, p.1, leads_are seg (i + 1) cs ts rest p.2)

leads_length : (seg : ℕ → Bool → List ℕ → List ℕ) (i : ℕ) (cs ts rest : List (List ℕ)) → Leads seg i cs ts rest → length cs ≡ length ts + length rest
leads_length seg i cs [] rest p = omega (arith, ap length p)
leads_length seg i [] (t ∷ ts) rest p = absurd p
leads_length seg i (c ∷ cs) (t ∷ ts) rest p = omega (arith, leads_length seg (i + 1) cs ts rest p.2)

pub lead_of : (seg : ℕ → Bool → List ℕ → List ℕ) (a b : ℕ) (all rest : Option (List ℕ)) (texts : List (List ℕ)) → TellsLeads seg a b 0 all texts rest → IfSome all (λ X. AreTexts seg 0 (cut a b X) texts)
lead_of seg a b None rest texts p = tt
lead_of seg a b (Some X) None texts p = absurd p
lead_of seg a b (Some X) (Some Y) texts p = leads_are seg 0 (cut a b X) texts (cut (room_at a b (0 + length texts)) b Y) p

more_than : (seg : ℕ → Bool → List ℕ → List ℕ) (a b : ℕ) (all rest : Option (List ℕ)) (texts : List (List ℕ)) → TellsLeads seg a b 0 all texts rest → IfSome rest (λ Y. 0 < length Y) → IfSome all (λ X. length texts < length (cut a b X))
more_than seg a b None rest texts p q = tt
more_than seg a b (Some X) None texts p q = absurd p
more_than seg a b (Some X) (Some Y) texts p q =
    let some = cut_some (room_at a b (0 + length texts)) b Y q in
    omega (arith, leads_length seg 0 (cut a b X) texts (cut (room_at a b (0 + length texts)) b Y) p, ap length some.2)

both : (o : Option (List ℕ)) (P Q : List ℕ → Type 0) → IfSome o P → IfSome o Q → IfSome o (λ X. P X × Q X)
both None P Q p q = tt
both (Some X) P Q p q = (p, q)

told_more : (o : Option (List ℕ)) (P Q : List ℕ → Type 0) → ((X : List ℕ) → P X → Q X) → IfSome o P → IfSome o Q
told_more None P Q f p = tt
told_more (Some X) P Q f p = f X p

-- what holds of the next chunk holds of the chunk of the next number
of_number : (seg : ℕ → Bool → List ℕ → List ℕ) (a b : ℕ) (all : Option (List ℕ)) (texts : List (List ℕ)) (m : ReaderMoment) (n : ℕ) (P : List ℕ → Type 0) → 0 < a → 0 < b → n ≡ m.number → Opened seg a b all texts m
    → IfSome m.rest (λ Y. P (chunk_at a b m.number Y)) → IfSome all (λ X. P (get_or (cut a b X) n []))
of_number seg a b all texts m n P p q same o h = subst (λ k. IfSome all (λ X. P (get_or (cut a b X) k []))) (sym (same ∙ o.number)) (at_next_chunk seg a b all texts m P p q o h)

short_chunk : (a b i overhead : ℕ) (X : List ℕ) → 0 < a → 0 < b → 0 < i → ((length (chunk_at a b i X) < overhead) ⊎ (X ≡ [])) × (0 < i → 0 < length X) → (0 < length (chunk_at a b i X)) × (length (chunk_at a b i X) < overhead)
short_chunk a b zero overhead X p q some h = absurd (omega arith)
short_chunk a b (suc i) overhead X p q some (inl short, there) = (omega (arith, length-take b X, there some), short)
short_chunk a b (suc i) overhead X p q some (inr none, there) = absurd (omega (arith, ap length none, there some))

-- where the rest is told, so is what the source has left
still_told : (seg : ℕ → Bool → List ℕ → List ℕ) (a b : ℕ) (all rest left : Option (List ℕ)) (texts : List (List ℕ)) (held : List ℕ) → TellsLeads seg a b 0 all texts rest → rest ≡ prepend_known held left → IfSome all (λ _. IsSome left)
still_told seg a b None rest left texts held p e = tt
still_told seg a b (Some X) None left texts held p e = absurd p
still_told seg a b (Some X) (Some Y) None texts held p e = absurd (cc)
still_told seg a b (Some X) (Some Y) (Some Z) texts held p e = refl

ended_left : (held : List ℕ) (left : Option (List ℕ)) → IsAtEnd (prepend_known held left) → IsAtEnd left
ended_left held None e = tt
ended_left [] (Some Z) e = append_none Z e
  where
    append_none : (Z : List ℕ) → [] ++ Z ≡ [] → Z ≡ []
    append_none [] e = refl
    append_none (z ∷ Z) e = absurd (omega (arith, ap length e, length-append [] (z ∷ Z)))
ended_left (x ∷ held) (Some Z) e = absurd (omega (arith, ap length e, length-append (x ∷ held) Z))

-- the first segment was opened
pub reading_first : (seg : ℕ → Bool → List ℕ → List ℕ) (a b : ℕ) (got : Option (List ℕ)) (m n : ReaderMoment) → m.number ≡ 0 → OpensNext seg a b m n → length n.opened < 2 ^ 32 → IsReading seg a b m.rest got got n 0
reading_first seg a b got m n z next small = record {
  texts = [];
  opened = opened_more seg a b m.rest [] m n (opened_none seg a b m z) next;
  lives = next.lives;
  ends = next.ends;
  written = Appends-nil got;
  bytes_are = refl;
  few = omega arith;
  small = small;
}

-- one segment more
pub reading_next : (seg : ℕ → Bool → List ℕ → List ℕ) (a b : ℕ) (all before now later : Option (List ℕ)) (m n : ReaderMoment) (bytes : ℕ) → IsReading seg a b all before now m bytes → Appends now later m.opened → OpensNext seg a b m n → length n.opened < 2 ^ 32
    → IsReading seg a b all before later n (bytes + length m.opened)
reading_next seg a b all before now later m n bytes r w next small = record {
  texts = r.texts ++ (m.opened ∷ []);
  opened = opened_more seg a b all (r.texts ++ (m.opened ∷ [])) m n r.opened next;
  lives = next.lives;
  ends = next.ends;
  written = written_one r.texts m.opened before now later r.written w;
  bytes_are = omega (arith, r.bytes_are, ap length (joined-one r.texts m.opened), length-append (joined r.texts) m.opened);
  few = omega (arith, r.few, r.small, length-append r.texts (m.opened ∷ []));
  small = small;
}

-- the last text was written
pub read_out : (seg : ℕ → Bool → List ℕ → List ℕ) (a b : ℕ) (old new : Outside) (now : Option (List ℕ)) (m : ReaderMoment) (bytes : ℕ) (held : List ℕ) (report : Report) → IsReading seg a b old.left old.got now m bytes → Appends now new.got m.opened → m.progress ≡ Ended → m.rest ≡ prepend_known held new.left
    → report.segments ≡ m.number → report.bytes ≡ bytes + length m.opened → IsReadOut seg a b old new report
read_out seg a b old new now m bytes held report r w ended rest segments total = record {
  texts = r.texts ++ (m.opened ∷ []);
  some = omega (arith, length-append r.texts (m.opened ∷ []));
  leads = opened_all seg a b old.left (r.texts ++ (m.opened ∷ [])) m r.opened (r.ends ended);
  stays_told = still_told seg a b old.left m.rest new.left (r.texts ++ (m.opened ∷ [])) held r.opened.leads rest;
  at_end = ended_left held new.left (subst IsAtEnd rest (r.ends ended));
  written = written_one r.texts m.opened old.got now new.got r.written w;
  segments = segments ∙ r.opened.number;
  bytes = omega (arith, total, r.bytes_are, ap length (joined-one r.texts m.opened), length-append (joined r.texts) m.opened);
}

-- the sink failed in the text that was opened last
pub write_failed : (seg : ℕ → Bool → List ℕ → List ℕ) (a b : ℕ) (old new : Outside) (now : Option (List ℕ)) (m : ReaderMoment) (bytes faults : ℕ) → IsReading seg a b old.left old.got now m bytes → AppendsPrefix now new.got m.opened → old.write_faults ≤ faults → Rose faults new.write_faults
    → Breaks seg a b old new × Rose old.write_faults new.write_faults
write_failed seg a b old new now m bytes faults r w later rose = (
  record {
    texts = r.texts ++ (m.opened ∷ []);
    lead = lead_of seg a b old.left m.rest (r.texts ++ (m.opened ∷ [])) r.opened.leads;
    written = front_one r.texts m.opened old.got now new.got r.written w;
  },
  Rose-earlier old.write_faults faults new.write_faults later rose,
)

-- the reader refused the next segment
pub next_refused : (seg : ℕ → Bool → List ℕ → List ℕ) (a b overhead : ℕ) (old new : Outside) (now : Option (List ℕ)) (m n : ReaderMoment) (bytes : ℕ) (kind : Kind) → 0 < a → 0 < b → IsReading seg a b old.left old.got now m bytes → Appends now new.got m.opened
    → old.read_faults ≤ m.faults → n.faults ≤ new.read_faults → OpenNextRefused seg a b overhead m n kind → ReaderRefused seg a b overhead old new kind
next_refused seg a b overhead old new now m n bytes ReadFault p q r w later more x = (
  record {
    texts = r.texts ++ (m.opened ∷ []);
    lead = lead_of seg a b old.left m.rest (r.texts ++ (m.opened ∷ [])) r.opened.leads;
    written = written_one r.texts m.opened old.got now new.got r.written w;
  },
  Rose-later old.read_faults n.faults new.read_faults (Rose-earlier old.read_faults m.faults n.faults later x.rose) more,
)
next_refused seg a b overhead old new now m n bytes TooManySegments p q r w later more x = record {
  texts = r.texts ++ (m.opened ∷ []);
  number = sym x.number ∙ r.opened.number;
  some = omega arith;
  agree = both old.left _ _ (opened_agree seg a b old.left (r.texts ++ (m.opened ∷ [])) m r.opened x.nothing)
      (subst (λ (k : ℕ). IfSome old.left (λ X. k < length (cut a b X))) (sym r.opened.number ∙ x.number) (more_than seg a b old.left m.rest (r.texts ++ (m.opened ∷ [])) r.opened.leads x.more));
  written = written_one r.texts m.opened old.got now new.got r.written w;
}
next_refused seg a b overhead old new now m n bytes (BadSegment k) p q r w later more x = record {
  texts = r.texts ++ (m.opened ∷ []);
  number = x.number ∙ r.opened.number;
  some = omega (arith, x.number, r.opened.number, length-append r.texts (m.opened ∷ []));
  agree = both old.left _ _ (opened_agree seg a b old.left (r.texts ++ (m.opened ∷ [])) m r.opened x.nothing)
      (of_number seg a b old.left (r.texts ++ (m.opened ∷ [])) m k (λ c. overhead ≤ length c) p q x.number r.opened x.long);
  written = written_one r.texts m.opened old.got now new.got r.written w;
}
next_refused seg a b overhead old new now m n bytes (Truncated k) p q r w later more x = record {
  texts = r.texts ++ (m.opened ∷ []);
  number = x.number ∙ r.opened.number;
  some = omega (arith, x.number, r.opened.number, length-append r.texts (m.opened ∷ []));
  agree = both old.left _ _ (opened_agree seg a b old.left (r.texts ++ (m.opened ∷ [])) m r.opened x.nothing)
      (of_number seg a b old.left (r.texts ++ (m.opened ∷ [])) m k (λ c. (0 < length c) × (length c < overhead)) p q x.number r.opened
      (told_more m.rest _ _ (λ X h. short_chunk a b m.number overhead X p q (omega (arith, r.opened.number, length-append r.texts (m.opened ∷ []))) h) x.short));
  written = written_one r.texts m.opened old.got now new.got r.written w;
}
next_refused seg a b overhead old new now m n bytes _ p q r w later more x = absurd x

-- a reader behind the first segment is refused by no kind that leaves the sink
pub next_wrote : {K : Type 0} (seg : ℕ → Bool → List ℕ → List ℕ) (a b overhead : ℕ) (m n : ReaderMoment) (e : TinkError) (k l : K) → OpenNextRefused seg a b overhead m n e.kind → LeavesSinkItself (Err e) k l
next_wrote seg a b overhead m n e k l x = go e.kind x
  where
    go : (kind : Kind) → OpenNextRefused seg a b overhead m n kind → WritesNothing kind → l ≡ k
    go ReadFault x unwritten = absurd unwritten
    go TooManySegments x unwritten = absurd unwritten
    go (BadSegment i) x unwritten = absurd unwritten
    go (Truncated i) x unwritten = absurd unwritten
    go _ x unwritten = absurd x

-- what says nothing holds of what is told
pub any_told : (all : Option (List ℕ)) → IfSome all (λ X. Unit {0})
any_told None = tt
any_told (Some X) = tt

-- the reader refused the first segment
pub first_refused : (seg : ℕ → Bool → List ℕ → List ℕ) (a b overhead : ℕ) (old new : Outside) (m n : ReaderMoment) (kind : Kind) → m.number ≡ 0 → m.rest ≡ old.left → old.read_faults ≤ m.faults → n.faults ≤ new.read_faults → Keeps old.got new.got → FirstRefused seg a b m n kind
    → ReaderRefused seg a b overhead old new kind
first_refused seg a b overhead old new m n NoMatchingKey z same later more w x = record {
  nothing = subst (λ (o : Option (List ℕ)). IfSome o (λ X. Agree seg 0 (cut a b X) [])) same (subst (λ (k : ℕ). IfSome m.rest (λ X. Agree seg k (cut (room_at a b k) b X) [])) z x);
  written = w;
}
first_refused seg a b overhead old new m n ReadFault z same later more w x = (
  record {
    texts = [];
    lead = any_told old.left;
    written = kept_nothing old.got new.got w;
  },
  Rose-later old.read_faults n.faults new.read_faults (Rose-earlier old.read_faults m.faults n.faults later x) more,
)
first_refused seg a b overhead old new m n _ z same later more w x = absurd x
