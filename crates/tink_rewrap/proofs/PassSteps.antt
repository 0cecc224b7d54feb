-- Passing texts on, one after the other: what was read, as an open into a list sees it, and what was written.
use Rattle.std.proofs.Common.{◌≡◌, inl, inr, ◌≤◌, ◌<◌, ◌+◌, ◌-◌, ◌^◌, ℕ, Bool, List, [], ◌++◌, length, take, refl, sym, ap, subst, ◌∙◌, arith, Some, length-append}
use Rattle.std.specs.declared.option.Option.{Option}
use Rattle.std.specs.Prelude.{Result, Ok, Err}
use Rattle.std.specs.Io.KnownBytes.{Appends, Keeps, prepend_known}
use Rattle.std.proofs.KnownBytes.{Appends-trans}
use Rattle.tink_io.specs.Faults.{Rose}
use Rattle.tink_io.specs.Taken.{LosesAtMost}
use Rattle.tink_io.specs.Written.{AppendsPrefix}
use Rattle.tink_io.proofs.FaultLemmas.{Rose-later, Rose-earlier}
use Rattle.tink_io.proofs.WrittenLemmas.{then_prefix, prefix_of_more}
use Rattle.tink_io.specs.declared.error.Kind.{Kind}
use Rattle.tink_io.specs.declared.error.Kind.TheVariants.{ReadFault, WriteFault, TooManySegments, NoMatchingKey, BadSegment, Truncated, FailedBefore}
use Rattle.tink_io.specs.declared.error.Kind.TheVariants as kind
use Rattle.tink_io.specs.declared.error.TinkError.{TinkError}
use Rattle.stream_model.specs.Cut.{full_chunks, room_at, sealed, unmarked}
use Rattle.stream_model.proofs.SealingFacts.{length-chunks}
use Rattle.tink_streaming_io.specs.declared.progress.Progress.TheVariants.{Ended}
use Rattle.tink_streaming_io.specs.Reading.{HeldBy, ReaderMoment, OpensNext, OpenNextRefused}
use Rattle.tink_streaming_io.specs.Writing.{WriterMoment, Wrote, WrotePrefixOf, WroteAll, WriteRefused, ClosedBy, ClosedShort, CloseMeans, CloseRefused}
use Rattle.tink_streaming_io.proofs.WritingFacts.{IsFresh, fresh_filled, wrote_nothing, wrote_more, refused_more, closed_whole, closed_prefix, stops_prefix}
use Rattle.tink_run.specs.declared.report.Report.{Report}
use Rattle.tink_io.specs.Outside.{Outside}
use Rattle.tink_run.specs.OpenReads.{FirstReadsBy, ReaderReadsBy}
use Rattle.tink_run.specs.OpenSteps.{FirstRefused, ReaderMeans}
use Rattle.tink_run.specs.Run.{LeavesSinkItself, WritesNothing}
use Rattle.tink_run.proofs.OpenLemmas.{kept_prefix, whole_prefix}
use Rattle.tink_run.proofs.ReadOut.{IsReading, first_refused, next_refused, read_out, reading_first, reading_next, write_failed}
use Rattle.tink_run.proofs.ReadsSteps.{first_reads, next_reads, write_reads}
use Rattle.tink_rewrap.specs.Passing.{FinishMeans, LeadsWithin, NewBytes, PassMeans, PassRefused, ReaderMeansWithin, anywhere, bytes_by, into}

-- what a fresh writer behind a front wrote
module _ (front : List ℕ) (seg : ℕ → Bool → List ℕ → List ℕ) (a b : ℕ) (got : Option (List ℕ)) (m : WriterMoment) (f : IsFresh m) (w : Appends got m.got front) where
  abbrev bytes : NewBytes
  bytes = bytes_by front seg a b

  -- of a text all chunks but the last
  wrote_part : (n : WriterMoment) (text : List ℕ) → Wrote seg a b m n text → Appends got n.got (bytes.part text)
  wrote_part n text p =
      subst (Appends got n.got) (ap (λ i. front ++ unmarked seg i (full_chunks a b text)) f.number)
      (Appends-trans got m.got n.got front (unmarked seg m.number (full_chunks a b text)) w (subst (λ (cs : List (List ℕ)). Appends m.got n.got (unmarked seg m.number cs)) (fresh_filled a b m text f) p.appended))

  few_chunks : (n : WriterMoment) (text : List ℕ) → Wrote seg a b m n text → bytes.count text ≤ 2 ^ 32
  few_chunks n text p = omega (arith, p.few, p.counted, f.number, ap length (fresh_filled a b m text f), length-chunks a b text)

  -- a prefix of these
  wrote_less : (n : WriterMoment) (text : List ℕ) → WrotePrefixOf seg a b m n text → AppendsPrefix got n.got (bytes.part text)
  wrote_less n text p =
      subst (AppendsPrefix got n.got) (ap (λ i. front ++ unmarked seg i (full_chunks a b text)) f.number)
      (then_prefix got m.got n.got front (unmarked seg m.number (full_chunks a b text)) w
      (subst (λ (cs : List (List ℕ)). AppendsPrefix m.got n.got (unmarked seg m.number cs)) (fresh_filled a b m text f) (stops_prefix seg m.number n.number _ m.got n.got p.stops)))

  -- as many as there are numbers for
  wrote_longest : (n : WriterMoment) (text : List ℕ) → WroteAll seg a b m n text → Appends got n.got (bytes.longest text)
  wrote_longest n text p =
      Appends-trans got m.got n.got front _ w
      (subst (λ (i : ℕ). Appends m.got n.got (unmarked seg i (take (2 ^ 32 - 1 - i) (full_chunks a b text)))) f.number
      (subst (λ (cs : List (List ℕ)). Appends m.got n.got (unmarked seg m.number (take (2 ^ 32 - 1 - m.number) cs))) (fresh_filled a b m text f) p.appended))

  many_chunks : (n : WriterMoment) (text : List ℕ) → WroteAll seg a b m n text → 2 ^ 32 < bytes.count text
  many_chunks n text p = omega (arith, p.many, f.number, ap length (fresh_filled a b m text f), length-chunks a b text)

  -- the whole stream
  wrote_whole : (n o : WriterMoment) (text : List ℕ) → Wrote seg a b m n text → ClosedBy seg n o → Appends got o.got (bytes.whole text) × (o.number ≡ bytes.count text)
  wrote_whole n o text p c =
      let whole = closed_whole seg a b m n o text f p c in
      (Appends-trans got m.got o.got front (sealed seg a b text) w whole.0, whole.1)

  wrote_whole_less : (n o : WriterMoment) (text : List ℕ) → Wrote seg a b m n text → ClosedShort seg n o → AppendsPrefix got o.got (bytes.whole text)
  wrote_whole_less n o text p c = then_prefix got m.got o.got front (sealed seg a b text) w (closed_prefix seg a b m n o text f p c)

-- Of the texts that were opened all but the last went to the writer, which began behind the front.
pub record IsUnderWay (read : ℕ → Bool → List ℕ → List ℕ) (first size : ℕ) (front : List ℕ) (seg : ℕ → Bool → List ℕ → List ℕ) (a b : ℕ) (old : Outside) (m : ReaderMoment) (w : WriterMoment) (bytes : ℕ) : Type 0 where
  pub text : List ℕ
  pub reading : IsReading read first size old.left (Some []) (Some text) m bytes
  pub start : WriterMoment
  pub fresh : IsFresh start
  pub begun : Appends old.got start.got front
  pub later : old.write_faults ≤ start.faults
  pub wrote : Wrote seg a b start w text
  pub since : start.faults ≤ w.faults

module _ (room : ℕ) (read : ℕ → Bool → List ℕ → List ℕ) (first size overhead : ℕ) (front : List ℕ) (seg : ℕ → Bool → List ℕ → List ℕ) (a b : ℕ) (x : 0 < first) (y : 0 < size) where
  abbrev made : NewBytes
  made = bytes_by front seg a b

  abbrev Refused : Outside → Outside → Kind → Type 0
  Refused old new kind = PassRefused (ReaderMeansWithin room read first size overhead) (LeadsWithin room read first size) anywhere made old new kind

  -- the reader refused the first segment
  pub first_failed : (old new : Outside) (m n : ReaderMoment) (kind : Kind) → m.number ≡ 0 → m.rest ≡ old.left → old.read_faults ≤ m.faults → n.faults ≤ new.read_faults → Keeps old.got new.got → FirstReadsBy room first old.left new.left kind
      → FirstRefused read first size m n kind → Refused old new kind
  first_failed old new m n NoMatchingKey z same later more w lost r = record {
    opened = (
      first_refused read first size overhead (into [] old) (into [] new) m n NoMatchingKey z same later more refl r,
      first_reads room read first size (into [] old) (into [] new) m n NoMatchingKey x y refl lost r,
    );
    written = w;
  }
  first_failed old new m n ReadFault z same later more w lost r = record {
    text = [];
    opened = (
      first_refused read first size overhead (into [] old) (into [] new) m n ReadFault z same later more refl r,
      first_reads room read first size (into [] old) (into [] new) m n ReadFault x y refl lost r,
    );
    written = inl (refl, w);
  }
  first_failed old new m n _ z same later more w lost r = absurd r

  -- nothing is written yet of the first text
  first_opened : (old : Outside) (m n : ReaderMoment) → m.number ≡ 0 → m.rest ≡ old.left → OpensNext read first size m n → length n.opened < 2 ^ 32 → IsReading read first size old.left (Some []) (Some []) n 0
  first_opened old m n z same next small =
      subst (λ (all : Option (List ℕ)). IsReading read first size all (Some []) (Some []) n 0) same (reading_first read first size (Some []) m n z next small)

  -- the sink failed in the front
  pub front_failed : (old new : Outside) (m n : ReaderMoment) → m.number ≡ 0 → m.rest ≡ old.left → OpensNext read first size m n → length n.opened < 2 ^ 32 → LosesAtMost room n.rest new.left
      → AppendsPrefix old.got new.got front → Rose old.write_faults new.write_faults → Refused old new WriteFault
  front_failed old new m n z same next small lost w rose =
      let reading = first_opened old m n z same next small in
      let none : AppendsPrefix (Some []) (Some []) n.opened = kept_prefix (Some []) (Some []) n.opened refl in
      record {
        text = [];
        begun = tt;
        opened = (
          write_failed read first size (into [] old) (into [] new) (Some []) n 0 old.write_faults reading none (omega arith) rose,
          write_reads room read first size (into [] old) (into [] new) (Some []) n 0 x y reading none lost,
        );
        written = inl (prefix_of_more old.got new.got front _ w);
      }

  -- the first segment was opened, and the front was written
  pub under_way : (old : Outside) (m n : ReaderMoment) (w : WriterMoment) → m.number ≡ 0 → m.rest ≡ old.left → OpensNext read first size m n → length n.opened < 2 ^ 32 → IsFresh w → Appends old.got w.got front → old.write_faults ≤ w.faults
      → IsUnderWay read first size front seg a b old n w 0
  under_way old m n w z same next small fresh begun later = record {
    text = [];
    reading = first_opened old m n z same next small;
    start = w;
    fresh = fresh;
    begun = begun;
    later = later;
    wrote = wrote_nothing seg a b w fresh;
    since = omega arith;
  }

  module _ (old : Outside) (m : ReaderMoment) (w : WriterMoment) (bytes : ℕ) (u : IsUnderWay read first size front seg a b old m w bytes) (p : 0 < a) (q : 0 < b) where
    abbrev text : List ℕ
    text = u.text ++ m.opened

    -- the text that was opened last went to the writer too
    wrote_text : (v : WriterMoment) → Wrote seg a b w v m.opened → Wrote seg a b u.start v text
    wrote_text v wrote = wrote_more seg a b u.start w v u.text m.opened p q u.wrote wrote

    -- and one more segment was opened
    pub one_more : (n : ReaderMoment) (v : WriterMoment) → Wrote seg a b w v m.opened → w.faults ≤ v.faults → OpensNext read first size m n → length n.opened < 2 ^ 32
        → IsUnderWay read first size front seg a b old n v (bytes + length m.opened)
    one_more n v wrote later next small = record {
      text = text;
      reading = reading_next read first size old.left (Some []) (Some u.text) (Some text) m n bytes u.reading refl next small;
      start = u.start;
      fresh = u.fresh;
      begun = u.begun;
      later = u.later;
      wrote = wrote_text v wrote;
      since = omega (arith, u.since, later);
    }

    -- the text leads
    led : (new : Outside) → LosesAtMost room m.rest new.left → LeadsWithin room read first size (into [] old) (into text new)
    led new lost = write_reads room read first size (into [] old) (into text new) (Some u.text) m bytes x y u.reading (whole_prefix (Some u.text) (Some text) m.opened refl) lost

    -- the sink failed, as that of the open would have
    abbrev broke : (new : Outside) → Rose w.faults new.write_faults → LosesAtMost room m.rest new.left → ReaderMeansWithin room read first size overhead (into [] old) (into text new) (Err (record { kind = WriteFault }))
    broke new rose lost = (
      write_failed read first size (into [] old) (into text new) (Some u.text) m bytes w.faults u.reading
          (whole_prefix (Some u.text) (Some text) m.opened refl) (omega (arith, u.later, u.since)) rose,
      led new lost,
    )

    -- the writer refused the text
    pub text_refused : (v : WriterMoment) (new : Outside) (why : Kind) → new.got ≡ v.got → v.faults ≤ new.write_faults → LosesAtMost room m.rest new.left → WriteRefused seg a b w v m.opened why → Refused old new why
    text_refused v new why got more lost r = go why (refused_more seg a b u.start w v u.text m.opened why p q u.since u.wrote r) r
      where
        go : (why : Kind) → WriteRefused seg a b u.start v text why → WriteRefused seg a b w v m.opened why → Refused old new why
        go WriteFault c r = record {
          text = text;
          begun = tt;
          opened = broke new (Rose-later w.faults v.faults new.write_faults r.rose more) lost;
          written = inl (subst (λ (g : Option (List ℕ)). AppendsPrefix old.got g (made.part text)) (sym got) (wrote_less front seg a b old.got u.start u.fresh u.begun v text c));
        }
        go TooManySegments c r = inl (record {
          text = text;
          opened = led new lost;
          many = many_chunks front seg a b old.got u.start u.fresh u.begun v text c;
          written = subst (λ (g : Option (List ℕ)). Appends old.got g (made.longest text)) (sym got) (wrote_longest front seg a b old.got u.start u.fresh u.begun v text c);
        })
        go kind.Closed c r = absurd (let e = sym u.wrote.is_open ∙ r.0 in cc)
        go (FailedBefore before) c r = absurd (let e = sym u.wrote.is_open ∙ r.0 in cc)
        go _ c r = absurd c

    -- the reader refused the next segment
    pub next_failed : (n : ReaderMoment) (v : WriterMoment) (new : Outside) (kind : Kind) → new.got ≡ v.got → old.read_faults ≤ m.faults → n.faults ≤ new.read_faults → (f : ℕ) (items : List ℕ) → Keeps n.rest (prepend_known (take f items) new.left) → f ≤ room → HeldBy (room_at first size m.number) f kind → Wrote seg a b w v m.opened
        → OpenNextRefused read first size overhead m n kind → Refused old new kind
    next_failed n v new kind got later more f items rest most short wrote r =
        go kind (next_refused read first size overhead (into [] old) (into text new) (Some u.text) m n bytes kind x y u.reading refl later more r)
        (next_reads room read first size overhead (into [] old) (into text new) (Some u.text) m n bytes kind x y u.reading refl f items rest most short r) r
      where
        part : Appends old.got new.got (made.part text)
        part = subst (λ (g : Option (List ℕ)). Appends old.got g (made.part text)) (sym got) (wrote_part front seg a b old.got u.start u.fresh u.begun v text (wrote_text v wrote))

        few : made.count text ≤ 2 ^ 32
        few = few_chunks front seg a b old.got u.start u.fresh u.begun v text (wrote_text v wrote)

        go : (kind : Kind) → ReaderMeans read first size overhead (into [] old) (into text new) (Err (record { kind = kind })) → ReaderReadsBy room read first size (into [] old) (into text new) kind → OpenNextRefused read first size overhead m n kind
            → Refused old new kind
        go ReadFault o l r = record { text = text; opened = (o, l); written = inr (tt, part) }
        go TooManySegments o l r = inr (record { text = text; opened = (o, l); few = few; written = part })
        go (BadSegment i) o l r = record { text = text; opened = (o, l); few = few; written = part }
        go (Truncated i) o l r = record { text = text; opened = (o, l); few = few; written = part }
        go _ o l r = absurd r

    -- the last text went to the writer
    module _ (v : WriterMoment) (wrote : Wrote seg a b w v m.opened) (new : Outside) (held : List ℕ) (ended : m.progress ≡ Ended) (rest : m.rest ≡ prepend_known held new.left) (lost : LosesAtMost room m.rest new.left) (o : WriterMoment) (got : new.got ≡ o.got) where
      whole : (accepted : ℕ) → accepted ≡ m.number → ReaderMeans read first size overhead (into [] old) (into text new) (Ok (record { segments = accepted; bytes = length text }))
      whole accepted number =
          read_out read first size (into [] old) (into text new) (Some u.text) m bytes held (record { segments = accepted; bytes = length text }) u.reading refl ended rest number
          (omega (arith, length-append u.text m.opened, text_bytes))
        where
          text_bytes : bytes ≡ length u.text
          text_bytes = u.reading.bytes_are ∙ ap length (sym u.reading.written)

      -- the sink failed in the last segment, or the writer was closed
      not_closed : (kind : Kind) → v.faults ≤ o.faults → w.faults ≤ v.faults → o.faults ≤ new.write_faults → CloseRefused seg v o kind → Refused old new kind
      not_closed WriteFault later since more r = record {
        text = text;
        begun = tt;
        opened = broke new (Rose-later w.faults o.faults new.write_faults (Rose-earlier w.faults v.faults o.faults since r.rose) more) lost;
        written = inr (record {
          accepted = m.number;
          opened = (whole m.number refl, tt);
          written = subst (λ (g : Option (List ℕ)). AppendsPrefix old.got g (made.whole text)) (sym got) (wrote_whole_less front seg a b old.got u.start u.fresh u.begun v o text (wrote_text v wrote) r);
        });
      }
      not_closed (FailedBefore c) later since more r = absurd (let e = sym wrote.is_open ∙ r.0 in cc)
      not_closed _ later since more r = absurd r

      closed : (report : Report) → report.segments ≡ o.number → report.bytes ≡ bytes + length m.opened → CloseMeans seg v o (Ok tt)
          → PassMeans (ReaderMeansWithin room read first size overhead) (LeadsWithin room read first size) anywhere made old new (Ok report)
      closed report segments total (inl c) =
          let all = wrote_whole front seg a b old.got u.start u.fresh u.begun v o text (wrote_text v wrote) c in
          record {
            text = text;
            accepted = m.number;
            opened = (whole m.number refl, tt);
            few = few_chunks front seg a b old.got u.start u.fresh u.begun v text (wrote_text v wrote);
            written = subst (λ (g : Option (List ℕ)). Appends old.got g (made.whole text)) (sym got) all.0;
            segments = segments ∙ all.1;
            bytes = omega (arith, total, u.reading.bytes_are, ap length (sym u.reading.written), length-append u.text m.opened);
          }
      closed report segments total (inr c) = absurd (let e = sym wrote.is_open ∙ c.0 in cc)

      pub finished : (total : ℕ) (answer : Result Report TinkError) → total ≡ bytes + length m.opened → v.faults ≤ o.faults → w.faults ≤ v.faults → o.faults ≤ new.write_faults → FinishMeans seg v o total answer
          → PassMeans (ReaderMeansWithin room read first size overhead) (LeadsWithin room read first size) anywhere made old new answer
      finished total (Ok report) all later since more x = closed report x.1 (x.2 ∙ all) x.0
      finished total (Err e) all later since more x = not_closed e.kind later since more x

-- a writer is refused by no kind that leaves the sink
pub text_wrote : {K : Type 0} (seg : ℕ → Bool → List ℕ → List ℕ) (a b : ℕ) (w v : WriterMoment) (text : List ℕ) (e : TinkError) (k l : K) → WriteRefused seg a b w v text e.kind → LeavesSinkItself (Err e) k l
text_wrote seg a b w v text e k l x = go e.kind x
  where
    go : (kind : Kind) → WriteRefused seg a b w v text kind → WritesNothing kind → l ≡ k
    go WriteFault x unwritten = absurd unwritten
    go TooManySegments x unwritten = absurd unwritten
    go kind.Closed x unwritten = absurd unwritten
    go (FailedBefore c) x unwritten = absurd unwritten
    go _ x unwritten = absurd x

pub finish_wrote : {K : Type 0} (seg : ℕ → Bool → List ℕ → List ℕ) (w v : WriterMoment) (total : ℕ) (answer : Result Report TinkError) (k l : K) → FinishMeans seg w v total answer → LeavesSinkItself answer k l
finish_wrote seg w v total (Ok report) k l x = tt
finish_wrote seg w v total (Err e) k l x = go e.kind x
  where
    go : (kind : Kind) → CloseRefused seg w v kind → WritesNothing kind → l ≡ k
    go WriteFault x unwritten = absurd unwritten
    go (FailedBefore c) x unwritten = absurd unwritten
    go _ x unwritten = absurd x
