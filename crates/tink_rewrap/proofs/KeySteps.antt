-- From what a reader finds and a writer makes to keys.
use Rattle.std.proofs.Common.{◌≡◌, ◌+◌, inl, inr, ◌≤◌, ◌<◌, ℕ, Bool, List, [], length, refl, subst, arith, Some, None, IfSome}
use Rattle.std.specs.declared.option.Option.{Option}
use Rattle.std.specs.Prelude.{Result, Ok, Err}
use Rattle.std.specs.Io.KnownBytes.{Appends, Keeps}
use Rattle.tink_io.specs.Taken.{LosesAtMost}
use Rattle.tink_io.specs.Written.{AppendsPrefix}
use Rattle.tink_io.specs.declared.error.Kind.{Kind}
use Rattle.tink_io.specs.declared.error.Kind.TheVariants.{ReadFault, WriteFault, TooManySegments, NoMatchingKey, BadSegment, Truncated}
use Rattle.tink_io.specs.declared.error.TinkError.{TinkError}
use Rattle.stream_model.specs.Opening.{OpeningKey, IsChosen}
use Rattle.tink_streaming_io.specs.Choosing.{Started, StartRefused}
use Rattle.tink_run.specs.declared.report.Report.{Report}
use Rattle.tink_io.specs.Outside.{Outside}
use Rattle.tink_run.specs.OpenAnswers.{IsBroken, OpeningMeans}
use Rattle.tink_run.specs.OpenReads.{room_under}
use Rattle.tink_run.specs.Run.{IsEarly, LeavesEnds}
use Rattle.tink_run.proofs.OpenSteps.{means_under, start_refused}
use Rattle.tink_run.proofs.ReadsSteps.{reads_under, start_reads}
use Rattle.tink_rewrap.specs.Passing.{BreaksAtEnd, LeadsUnder, LeadsWithin, NewBytes, OpensWithin, PassMeans, PassRefused, ReaderMeansWithin, StopsBy, anywhere, into}
use Rattle.tink_rewrap.specs.Rewrapping.{HasKey, LeavesOrBegins, PassesUnder}

-- the same is made of each text
pub record MakeTheSame (b c : NewBytes) : Type 0 where
  pub whole : (text : List ℕ) → b.whole text ≡ c.whole text
  pub part : (text : List ℕ) → b.part text ≡ c.part text
  pub longest : (text : List ℕ) → b.longest text ≡ c.longest text
  pub count : (text : List ℕ) → b.count text ≡ c.count text

pub itself : (b : NewBytes) → MakeTheSame b b
itself b = record { whole = λ text. refl; part = λ text. refl; longest = λ text. refl; count = λ text. refl }

-- what an open says, what is said of the text and of the source, and what is made of it, each follow from another
module _ (opens opens' : Outside → Outside → Result Report TinkError → Type 0) (leads leads' : Outside → Outside → Type 0) (begins begins' : Outside → Type 0) (b c : NewBytes) (old mid new : Outside) (got : mid.got ≡ old.got)
    (opened : (text : List ℕ) (answer : Result Report TinkError) → opens (into [] mid) (into text new) answer → opens' (into [] old) (into text new) answer)
    (led : (text : List ℕ) → leads (into [] mid) (into text new) → leads' (into [] old) (into text new))
    (begun : begins mid → begins' old) (same : MakeTheSame b c) where
  appends : (xs ys : List ℕ) → xs ≡ ys → Appends mid.got new.got xs → Appends old.got new.got ys
  appends xs ys e w = subst (λ (g : Option (List ℕ)). Appends g new.got ys) got (subst (Appends mid.got new.got) e w)

  fronts : (xs ys : List ℕ) → xs ≡ ys → AppendsPrefix mid.got new.got xs → AppendsPrefix old.got new.got ys
  fronts xs ys e w = subst (λ (g : Option (List ℕ)). AppendsPrefix g new.got ys) got (subst (AppendsPrefix mid.got new.got) e w)

  keeps : Keeps mid.got new.got → Keeps old.got new.got
  keeps w = subst (λ (g : Option (List ℕ)). Keeps g new.got) got w

  stops : (kind : Kind) → StopsBy opens leads begins b mid new kind → StopsBy opens' leads' begins' c old new kind
  stops kind x = record {
    text = x.text;
    opened = opened x.text (Err (record { kind = kind })) x.opened;
    few = omega (arith, x.few, same.count x.text);
    written = appends (b.part x.text) (c.part x.text) (same.part x.text) x.written;
  }

  at_end : (text : List ℕ) → BreaksAtEnd opens leads begins b mid new text → BreaksAtEnd opens' leads' begins' c old new text
  at_end text x = record {
    accepted = x.accepted;
    opened = opened text (Ok (record { segments = x.accepted; bytes = length text })) x.opened;
    written = fronts (b.whole text) (c.whole text) (same.whole text) x.written;
  }

  refused : (kind : Kind) → PassRefused opens leads begins b mid new kind → PassRefused opens' leads' begins' c old new kind
  refused NoMatchingKey x = record { opened = opened [] (Err (record { kind = NoMatchingKey })) x.opened; written = keeps x.written }
  refused TooManySegments (inl x) = inl (record {
    text = x.text;
    opened = led x.text x.opened;
    many = omega (arith, x.many, same.count x.text);
    written = appends (b.longest x.text) (c.longest x.text) (same.longest x.text) x.written;
  })
  refused TooManySegments (inr x) = inr (stops TooManySegments x)
  refused (Truncated n) x = stops (Truncated n) x
  refused (BadSegment n) x = stops (BadSegment n) x
  refused ReadFault x = record {
    text = x.text;
    opened = opened x.text (Err (record { kind = ReadFault })) x.opened;
    written = elim x.written [ inl w ↦ inl (w.0, keeps w.1) | inr w ↦ inr (begun w.0, appends (b.part x.text) (c.part x.text) (same.part x.text) w.1) ];
  }
  refused WriteFault x = record {
    text = x.text;
    begun = begun x.begun;
    opened = opened x.text (Err (record { kind = WriteFault })) x.opened;
    written = elim x.written [ inl w ↦ inl (fronts (b.part x.text) (c.part x.text) (same.part x.text) w) | inr w ↦ inr (at_end x.text w) ];
  }
  refused _ x = absurd x

  pub pass_by : (answer : Result Report TinkError) → PassMeans opens leads begins b mid new answer → PassMeans opens' leads' begins' c old new answer
  pass_by (Ok report) x = record {
    text = x.text;
    accepted = x.accepted;
    opened = opened x.text (Ok (record { segments = x.accepted; bytes = length x.text })) x.opened;
    few = omega (arith, x.few, same.count x.text);
    written = appends (b.whole x.text) (c.whole x.text) (same.whole x.text) x.written;
    segments = omega (arith, x.segments, same.count x.text);
    bytes = x.bytes;
  }
  pass_by (Err e) x = refused e.kind x

-- beside how far was read: what an open says
pub means_alone : (keys : List OpeningKey) (b : NewBytes) (old new : Outside) (answer : Result Report TinkError) → PassesUnder keys b old new answer → PassMeans (OpeningMeans keys) (IsBroken keys) (HasKey keys) b old new answer
means_alone keys b old new answer =
    pass_by (OpensWithin (room_under keys) keys) (OpeningMeans keys) (LeadsUnder (room_under keys) keys) (IsBroken keys) (HasKey keys) (HasKey keys) b b old old new refl
    (λ text answer x. x.0) (λ text x. record { texts = x.texts; lead = x.lead; written = x.written }) (λ x. x) (itself b) answer

-- what a reader for the chosen key finds
pub pass_started : (room : ℕ) (keys : List OpeningKey) (seg : ℕ → Bool → List ℕ → List ℕ) (first size overhead : ℕ) (b : NewBytes) (old mid new : Outside) (answer : Result Report TinkError) → overhead < first
    → ((i : ℕ) (last : Bool) (t : List ℕ) → length (seg i last t) ≡ length t + overhead) → mid.got ≡ old.got → old.read_faults ≤ mid.read_faults → old.write_faults ≤ mid.write_faults
    → IfSome old.left (λ X. Started keys X mid.left seg first size overhead)
    → PassMeans (ReaderMeansWithin room seg first size overhead) (LeadsWithin room seg first size) anywhere b mid new answer → PassMeans (OpensWithin room keys) (LeadsUnder room keys) (HasKey keys) b old new answer
pass_started room keys seg first size overhead b old mid new answer fits longer got reads writes started x =
    pass_by (ReaderMeansWithin room seg first size overhead) (OpensWithin room keys) (LeadsWithin room seg first size) (LeadsUnder room keys) anywhere (HasKey keys) b b old mid new got
    (λ text answer o. (
      means_under keys seg first size overhead (into [] old) (into [] mid) (into text new) answer fits longer refl reads writes started o.0,
      reads_under room keys seg first size overhead (into [] old) (into [] mid) (into text new) refl started answer o.0 o.1,
    ))
    led (λ _. chosen old.left started) (itself b) answer x
  where
    chosen : (left : Option (List ℕ)) → IfSome left (λ X. Started keys X mid.left seg first size overhead) → IfSome left (λ S. (key : OpeningKey) × IsChosen keys S (Some key))
    chosen None s = tt
    chosen (Some X) s = (s.found.key, s.found.chosen)

    -- as if the sink of an open had failed in the text
    led : (text : List ℕ) → LeadsWithin room seg first size (into [] mid) (into text new) → LeadsUnder room keys (into [] old) (into text new)
    led text x =
        let from : Outside = record { left = old.left; read_faults = 0; got = Some []; write_faults = 0 } in
        let begun : Outside = record { left = mid.left; read_faults = 0; got = Some []; write_faults = 0 } in
        let broken : Outside = record { left = new.left; read_faults = 0; got = Some text; write_faults = 1 } in
        let r = reads_under room keys seg first size overhead from begun broken refl started (Err (record { kind = WriteFault }))
        (record { texts = x.texts; lead = x.lead; written = x.written }, omega arith) (record { texts = x.texts; lead = x.lead; read = x.read; written = x.written })
        in
        record { texts = r.texts; lead = r.lead; read = r.read; written = r.written }

-- a reader was started, so that a key was chosen
pub begun_of : {K : Type 0} (keys : List OpeningKey) (seg : ℕ → Bool → List ℕ → List ℕ) (first size overhead : ℕ) (left : Option (List ℕ)) (old : Outside) (answer : Result Report TinkError) (k l : K)
    → IfSome old.left (λ X. Started keys X left seg first size overhead) → LeavesOrBegins keys old answer k l
begun_of keys seg first size overhead left old (Ok report) k l started = tt
begun_of keys seg first size overhead left old (Err e) k l started = inr (chosen old.left started)
  where
    chosen : (told : Option (List ℕ)) → IfSome told (λ X. Started keys X left seg first size overhead) → IfSome told (λ S. (key : OpeningKey) × IsChosen keys S (Some key))
    chosen None s = tt
    chosen (Some X) s = (s.found.key, s.found.chosen)

-- a sink that is as it was is left so by every answer
pub leaves_or_begins_same : {K : Type 0} (keys : List OpeningKey) (old : Outside) (answer : Result Report TinkError) (k : K) → LeavesOrBegins keys old answer k k
leaves_or_begins_same keys old (Ok report) k = tt
leaves_or_begins_same keys old (Err e) k = inl refl

-- no reader was started
pub pass_not_started : (room : ℕ) (keys : List OpeningKey) (b : NewBytes) (old new : Outside) (kind : Kind) → Keeps old.got new.got → LosesAtMost room old.left new.left → StartRefused keys old.left old.read_faults new.read_faults kind
    → PassRefused (OpensWithin room keys) (LeadsUnder room keys) (HasKey keys) b old new kind
pass_not_started room keys b old new NoMatchingKey w lost x = record {
  opened = (start_refused keys (into [] old) (into [] new) NoMatchingKey refl x, start_reads room keys (into [] old) (into [] new) NoMatchingKey refl lost x);
  written = w;
}
pass_not_started room keys b old new ReadFault w lost x = record {
  text = [];
  opened = (start_refused keys (into [] old) (into [] new) ReadFault refl x, start_reads room keys (into [] old) (into [] new) ReadFault refl lost x);
  written = inl (refl, w);
}
pass_not_started room keys b old new _ w lost x = absurd x

-- a text that is passed on is not refused early
pub pass_leaves : {S K : Type 0} (opens : Outside → Outside → Result Report TinkError → Type 0) (leads : Outside → Outside → Type 0) (begins : Outside → Type 0) (b : NewBytes) (old new : Outside) (answer : Result Report TinkError) (s t : S) (k l : K)
    → PassMeans opens leads begins b old new answer → LeavesEnds answer s t k l
pass_leaves opens leads begins b old new (Ok report) s t k l m = tt
pass_leaves opens leads begins b old new (Err e) s t k l m = go e.kind m
  where
    go : (kind : Kind) → PassRefused opens leads begins b old new kind → IsEarly kind → (t ≡ s) × (l ≡ k)
    go NoMatchingKey m early = absurd early
    go TooManySegments m early = absurd early
    go (Truncated n) m early = absurd early
    go (BadSegment n) m early = absurd early
    go ReadFault m early = absurd early
    go WriteFault m early = absurd early
    go _ m early = absurd m
