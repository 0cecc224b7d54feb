-- From the steps of a seal to its answer.
use Rattle.std.proofs.Common.{◌≡◌, inl, inr, ◌≤◌, ◌<◌, ◌-◌, ◌^◌, ℕ, Bool, List, [], ◌++◌, length, take, refl, sym, ap, subst, ◌∙◌, arith, Some}
use Rattle.std.specs.declared.option.Option.{Option}
use Rattle.std.specs.Prelude.{Result, Ok, Err, IfErr}
use Rattle.std.specs.Io.KnownBytes.{Appends, Consumes, IsAtEnd}
use Rattle.std.proofs.KnownBytes.{Appends-trans, Consumes-nil}
use Rattle.tink_io.specs.Faults.{Rose}
use Rattle.tink_io.specs.Written.{AppendsPrefix}
use Rattle.tink_io.proofs.FaultLemmas.{Rose-later, Rose-earlier}
use Rattle.tink_io.proofs.WrittenLemmas.{then_prefix, prefix_of_more}
use Rattle.tink_io.specs.declared.error.Kind.{Kind}
use Rattle.tink_io.specs.declared.error.Kind.TheVariants.{OutOfMemory, ReadFault, WriteFault, RandomFault, UnknownHash, UnsupportedHash, TooManySegments, FailedBefore}
use Rattle.tink_io.specs.declared.error.TinkError.{TinkError}
use Rattle.stream_model.specs.Cut.{full_chunks, sealed, unmarked}
use Rattle.stream_model.specs.Key.{StreamKey, derived_bytes_of, first_room, front, keys_of, room, segment_at}
use Rattle.tink_streaming_keys.proofs.DerivedKeys.{derives_nothing}
use Rattle.tink_streaming_keys.specs.Encrypting.{DrewHeader, IsNewStream, NewWriterRefused}
use Rattle.tink_streaming_keys.specs.StreamingKeys.{deriving_hash}
use Rattle.stream_model.specs.Sealing.{stream, part, longest_part, sealed_under, unmarked_under, salt_of, nonce_prefix_of}
use Rattle.stream_model.proofs.SealingFacts.{length-chunks}
use Rattle.tink_streaming_io.specs.Writing.{WriterMoment, Wrote, WrotePrefixOf, WroteAll, ClosedBy, ClosedShort, CloseMeans, CloseRefused}
use Rattle.tink_streaming_io.proofs.WritingFacts.{IsFresh, fresh_filled, closed_whole, closed_prefix, stops_prefix}
use Rattle.loading_model.specs.Loading.{Loaded}
use Rattle.tink_run.specs.AllKeys.{load}
use Rattle.tink_run.specs.declared.report.Report.{Report}
use Rattle.tink_io.specs.Outside.{Outside, IsUntouched}
use Rattle.tink_run.specs.Run.{IsEarly, LeavesEnds}
use Rattle.tink_run.specs.SealAnswers.{IsSealedWhole, SourceFailed, SinkFailed, IsTooLong, SealingMeans, SealingRefused, SealMeans, SealRefused}
use Rattle.tink_run.specs.SealSteps.{HasNoKeys, IsUnderWay, SealsUnder, SealsUnderRefused, kind_not_begun}
use Rattle.tink_streaming_io.specs.Pouring.{IsPoured, PourRefused}

-- a key, its draws and the keys derived from them
module _ (k : StreamKey) (aad salt prefix keys : List ℕ) (e : keys_of k aad salt ≡ Some keys) where
  abbrev seg : ℕ → Bool → List ℕ → List ℕ
  seg = segment_at k keys prefix

  pub stream_is : (text : List ℕ) → front k salt prefix ++ sealed seg (first_room k) (room k) text ≡ stream k aad salt prefix text
  unfolding stream
  stream_is text = ap (λ o. front k salt prefix ++ sealed_under k o prefix text) (sym e)

  pub part_is : (text : List ℕ) → front k salt prefix ++ unmarked seg 0 (full_chunks (first_room k) (room k) text) ≡ part k aad salt prefix text
  unfolding part
  part_is text = ap (λ o. front k salt prefix ++ unmarked_under k o prefix (full_chunks (first_room k) (room k) text)) (sym e)

  pub longest_is : (text : List ℕ) → front k salt prefix ++ unmarked seg 0 (take (2 ^ 32 - 1) (full_chunks (first_room k) (room k) text)) ≡ longest_part k aad salt prefix text
  unfolding longest_part
  longest_is text = ap (λ o. front k salt prefix ++ unmarked_under k o prefix (take (2 ^ 32 - 1) (full_chunks (first_room k) (room k) text))) (sym e)

  -- what a fresh writer wrote of a text, behind the front
  wrote_part : (a : Option (List ℕ)) (m n : WriterMoment) (text : List ℕ) → IsFresh m → Appends a m.got (front k salt prefix) → Wrote seg (first_room k) (room k) m n text → Appends a n.got (part k aad salt prefix text)
  wrote_part a m n text f w p =
      let chunks = fresh_filled (first_room k) (room k) m text f in
      subst (Appends a n.got) (ap (λ i. front k salt prefix ++ unmarked seg i (full_chunks (first_room k) (room k) text)) f.number ∙ part_is text)
      (Appends-trans a m.got n.got (front k salt prefix) (unmarked seg m.number (full_chunks (first_room k) (room k) text)) w (subst (λ (cs : List (List ℕ)). Appends m.got n.got (unmarked seg m.number cs)) chunks p.appended))

  -- the source failed
  pub source_failed : (old new : Outside) (m n : WriterMoment) (text : List ℕ) → IsFresh m → Appends old.got m.got (front k salt prefix) → Wrote seg (first_room k) (room k) m n text → new.got ≡ n.got → Consumes old.left new.left text → Rose old.read_faults new.read_faults
      → SourceFailed k aad salt prefix old new
  source_failed old new m n text f w p same read rose = record {
    text = text;
    read = read;
    written = subst (λ (b : Option (List ℕ)). Appends old.got b (part k aad salt prefix text)) (sym same) (wrote_part old.got m n text f w p);
    rose = rose;
  }

  -- the sink failed in an unmarked segment
  pub sink_failed : (old new : Outside) (m n : WriterMoment) (text : List ℕ) → IsFresh m → Appends old.got m.got (front k salt prefix) → WrotePrefixOf seg (first_room k) (room k) m n text → new.got ≡ n.got → Consumes old.left new.left text
      → old.write_faults ≤ m.faults → n.faults ≤ new.write_faults → SinkFailed k aad salt prefix old new
  sink_failed old new m n text f w p same read later more =
      let chunks = fresh_filled (first_room k) (room k) m text f in
      let begun : AppendsPrefix m.got n.got (unmarked seg m.number (full_chunks (first_room k) (room k) text)) =
      subst (λ (cs : List (List ℕ)). AppendsPrefix m.got n.got (unmarked seg m.number cs)) chunks (stops_prefix seg m.number n.number _ m.got n.got p.stops)
      in
      let whole = then_prefix old.got m.got n.got (front k salt prefix) _ w begun in
      record {
        text = text;
        read = read;
        written = inl (subst (λ (b : Option (List ℕ)). AppendsPrefix old.got b (part k aad salt prefix text)) (sym same)
            (subst (AppendsPrefix old.got n.got) (ap (λ i. front k salt prefix ++ unmarked seg i (full_chunks (first_room k) (room k) text)) f.number ∙ part_is text) whole));
        rose = Rose-later old.write_faults n.faults new.write_faults (Rose-earlier old.write_faults m.faults n.faults later p.rose) more;
      }

  -- the sink failed before any segment
  pub front_failed : (old new : Outside) → old.left ≡ new.left → AppendsPrefix old.got new.got (front k salt prefix) → Rose old.write_faults new.write_faults → SinkFailed k aad salt prefix old new
  front_failed old new same w rose = record {
    text = [];
    read = subst (λ (b : Option (List ℕ)). Consumes old.left b []) same (Consumes-nil old.left);
    written = inl (subst (AppendsPrefix old.got new.got) (part_is []) (prefix_of_more old.got new.got (front k salt prefix) _ w));
    rose = rose;
  }

  -- the text has too many chunks
  pub too_long : (old new : Outside) (m n : WriterMoment) (text : List ℕ) → IsFresh m → Appends old.got m.got (front k salt prefix) → WroteAll seg (first_room k) (room k) m n text → new.got ≡ n.got → Consumes old.left new.left text → IsTooLong k aad salt prefix old new
  too_long old new m n text f w p same read =
      let chunks_are = fresh_filled (first_room k) (room k) m text f in
      let all : Appends m.got n.got (unmarked seg 0 (take (2 ^ 32 - 1) (full_chunks (first_room k) (room k) text))) =
      subst (λ (i : ℕ). Appends m.got n.got (unmarked seg i (take (2 ^ 32 - 1 - i) (full_chunks (first_room k) (room k) text)))) f.number
      (subst (λ (cs : List (List ℕ)). Appends m.got n.got (unmarked seg m.number (take (2 ^ 32 - 1 - m.number) cs))) chunks_are p.appended)
      in
      record {
        text = text;
        read = read;
        many = omega (arith, p.many, f.number, ap length chunks_are, length-chunks (first_room k) (room k) text);
        written = subst (λ (b : Option (List ℕ)). Appends old.got b (longest_part k aad salt prefix text)) (sym same)
            (subst (Appends old.got n.got) (longest_is text) (Appends-trans old.got m.got n.got (front k salt prefix) _ w all));
      }

  -- the writer closed
  pub sealed_all : (old new : Outside) (m n o : WriterMoment) (text : List ℕ) (report : Report) → IsFresh m → Appends old.got m.got (front k salt prefix) → Wrote seg (first_room k) (room k) m n text → ClosedBy seg n o → new.got ≡ o.got → Consumes old.left new.left text → IsAtEnd new.left
      → report.segments ≡ o.number → report.bytes ≡ length text → n.number < 2 ^ 32 → IsSealedWhole k aad salt prefix old new report
  sealed_all old new m n o text report f w p c same read end number bytes few =
      let whole = closed_whole seg (first_room k) (room k) m n o text f p c in
      record {
        text = text;
        read = read;
        at_end = end;
        few = omega (arith, whole.1, c.counted, few);
        written = subst (λ (b : Option (List ℕ)). Appends old.got b (stream k aad salt prefix text)) (sym same)
            (subst (Appends old.got o.got) (stream_is text) (Appends-trans old.got m.got o.got (front k salt prefix) _ w whole.0));
        segments = number ∙ whole.1;
        bytes = bytes;
      }

  -- the sink failed in the marked segment
  pub close_failed : (old new : Outside) (m n o : WriterMoment) (text : List ℕ) → IsFresh m → Appends old.got m.got (front k salt prefix) → Wrote seg (first_room k) (room k) m n text → ClosedShort seg n o → new.got ≡ o.got → Consumes old.left new.left text → IsAtEnd new.left
      → old.write_faults ≤ n.faults → o.faults ≤ new.write_faults → SinkFailed k aad salt prefix old new
  close_failed old new m n o text f w p c same read end later more = record {
    text = text;
    read = read;
    written = inr (
      end,
      subst (λ (b : Option (List ℕ)). AppendsPrefix old.got b (stream k aad salt prefix text)) (sym same)
          (subst (AppendsPrefix old.got o.got) (stream_is text) (then_prefix old.got m.got o.got (front k salt prefix) _ w (closed_prefix seg (first_room k) (room k) m n o text f p c))),
    );
    rose = Rose-later old.write_faults o.faults new.write_faults (Rose-earlier old.write_faults n.faults o.faults later c.rose) more;
  }

-- a seal under the primary key is a seal under the keyset
pub under_keyset : (keyset aad draws left_draws : List ℕ) (l : Loaded) (old new : Outside) (answer : Result Report TinkError) → load keyset ≡ Ok l → SealsUnder l.primary aad draws left_draws old new answer → SealMeans keyset aad draws left_draws old new answer
under_keyset keyset aad draws left_draws l old new (Ok report) e u = record { loaded = l; loads = e; enough = u.enough; rest = u.rest; derives = u.derives; means = u.means }
under_keyset keyset aad draws left_draws l old new (Err err) e u = go err.kind u
  where
    go : (kind : Kind) → SealsUnderRefused l.primary aad draws left_draws old new err kind → SealRefused keyset aad draws left_draws old new err kind
    go OutOfMemory r = r
    go RandomFault r = record { loaded = l; loads = e; few = r.few; untouched = r.untouched; undrawn = r.undrawn }
    go UnsupportedHash r = record { loaded = l; loads = e; enough = r.enough; rest = r.rest; none = r.none; untouched = r.untouched }
    go ReadFault r = record { loaded = l; loads = e; enough = r.enough; rest = r.rest; derives = r.derives; means = r.means }
    go WriteFault r = record { loaded = l; loads = e; enough = r.enough; rest = r.rest; derives = r.derives; means = r.means }
    go TooManySegments r = record { loaded = l; loads = e; enough = r.enough; rest = r.rest; derives = r.derives; means = r.means }
    go _ r = absurd r

-- what pouring refused
pub pour_refusal : (k : StreamKey) (aad salt prefix keys : List ℕ) (e : keys_of k aad salt ≡ Some keys) (seg : ℕ → Bool → List ℕ → List ℕ) (a b : ℕ) (left after got : Option (List ℕ)) (reads again writes : ℕ) (m n : WriterMoment) (kind : Kind)
    → seg ≡ segment_at k keys prefix → a ≡ first_room k → b ≡ room k → IsFresh m → Appends got m.got (front k salt prefix) → writes ≤ m.faults → PourRefused seg a b left after reads again m n kind
    → SealingRefused k aad salt prefix (record { left = left; read_faults = reads; got = got; write_faults = writes }) (record { left = after; read_faults = again; got = n.got; write_faults = n.faults }) kind
pour_refusal k aad salt prefix keys e seg a b left after got reads again writes m n kind s p q f w later r =
    go kind (subst (λ (g : ℕ → Bool → List ℕ → List ℕ). PourRefused g (first_room k) (room k) left after reads again m n kind) s (subst (λ (y : ℕ). PourRefused seg (first_room k) y left after reads again m n kind) q (subst (λ (x : ℕ). PourRefused seg x b left after reads again m n kind) p r)))
  where
    go : (kind : Kind) → PourRefused (segment_at k keys prefix) (first_room k) (room k) left after reads again m n kind
        → SealingRefused k aad salt prefix (record { left = left; read_faults = reads; got = got; write_faults = writes }) (record { left = after; read_faults = again; got = n.got; write_faults = n.faults }) kind
    go ReadFault x = source_failed k aad salt prefix keys e _ _ m n x.0.text f w x.0.refused refl x.0.read x.1
    go WriteFault x = sink_failed k aad salt prefix keys e _ _ m n x.text f w x.refused refl x.read later (omega arith)
    go TooManySegments x = too_long k aad salt prefix keys e _ _ m n x.text f w x.refused refl x.read
    go _ x = absurd x

-- what closing says, after all was poured
pub close_answer : (k : StreamKey) (aad salt prefix keys : List ℕ) (e : keys_of k aad salt ≡ Some keys) (seg : ℕ → Bool → List ℕ → List ℕ) (a b : ℕ) (left after got : Option (List ℕ)) (reads again writes : ℕ) (m n o : WriterMoment) (bytes : ℕ)
    → seg ≡ segment_at k keys prefix → a ≡ first_room k → b ≡ room k → IsFresh m → Appends got m.got (front k salt prefix) → IsPoured seg a b left after m n bytes → IsAtEnd after → writes ≤ n.faults
    → ((kind : Kind) → CloseRefused seg n o kind → SealingRefused k aad salt prefix (record { left = left; read_faults = reads; got = got; write_faults = writes }) (record { left = after; read_faults = again; got = o.got; write_faults = o.faults }) kind)
    × (CloseMeans seg n o (Ok tt) → (report : Report) → report.segments ≡ o.number → report.bytes ≡ bytes
    → IsSealedWhole k aad salt prefix (record { left = left; read_faults = reads; got = got; write_faults = writes }) (record { left = after; read_faults = again; got = o.got; write_faults = o.faults }) report)
close_answer k aad salt prefix keys e seg a b left after got reads again writes m n o bytes s p q f w poured end later = (refused, closed)
  where
    is_poured : IsPoured (segment_at k keys prefix) (first_room k) (room k) left after m n bytes
    is_poured = subst (λ (g : ℕ → Bool → List ℕ → List ℕ). IsPoured g (first_room k) (room k) left after m n bytes) s (subst (λ (y : ℕ). IsPoured seg (first_room k) y left after m n bytes) q (subst (λ (x : ℕ). IsPoured seg x b left after m n bytes) p poured))

    refused : (kind : Kind) → CloseRefused seg n o kind → SealingRefused k aad salt prefix (record { left = left; read_faults = reads; got = got; write_faults = writes }) (record { left = after; read_faults = again; got = o.got; write_faults = o.faults }) kind
    refused WriteFault r =
        let short : ClosedShort (segment_at k keys prefix) n o = subst (λ (g : ℕ → Bool → List ℕ → List ℕ). ClosedShort g n o) s r in
        close_failed k aad salt prefix keys e _ _ m n o is_poured.text f w is_poured.wrote short refl is_poured.read end later (omega arith)
    refused (FailedBefore c) r = absurd (let h = sym is_poured.wrote.is_open ∙ r.0 in cc)
    refused _ r = absurd r

    closed : CloseMeans seg n o (Ok tt) → (report : Report) → report.segments ≡ o.number → report.bytes ≡ bytes
        → IsSealedWhole k aad salt prefix (record { left = left; read_faults = reads; got = got; write_faults = writes }) (record { left = after; read_faults = again; got = o.got; write_faults = o.faults }) report
    closed (inl c) report x y =
        let by : ClosedBy (segment_at k keys prefix) n o = subst (λ (g : ℕ → Bool → List ℕ → List ℕ). ClosedBy g n o) s c in
        sealed_all k aad salt prefix keys e _ _ m n o is_poured.text report f w is_poured.wrote by refl is_poured.read end x (y ∙ is_poured.bytes_are) is_poured.wrote.few
    closed (inr c) report x y = absurd (let h = sym is_poured.wrote.is_open ∙ c.0 in cc)

-- a stream's sealing is under way whatever it answers
pub under_way : (k : StreamKey) (aad draws left_draws : List ℕ) (old new : Outside) (answer : Result Report TinkError) → IsUnderWay k aad draws left_draws old new answer → SealsUnder k aad draws left_draws old new answer
under_way k aad draws left_draws old new (Ok report) w = w
under_way k aad draws left_draws old new (Err e) w = go e.kind w.means
  where
    go : (kind : Kind) → SealingRefused k aad (salt_of k draws) (nonce_prefix_of k draws) old new kind → SealsUnderRefused k aad draws left_draws old new e kind
    go ReadFault m = w
    go WriteFault m = w
    go TooManySegments m = w
    go _ m = absurd m

-- the draws were taken and the hash derives no keys
pub no_keys : (k : StreamKey) (aad draws left_draws : List ℕ) (old new : Outside) (kind : Kind) → DrewHeader k draws left_draws → deriving_hash k.hkdf_hash ≡ Err kind → IsUntouched old new → HasNoKeys k aad draws left_draws old new
no_keys k aad draws left_draws old new kind drew e untouched = record {
  enough = drew.enough;
  rest = drew.rest;
  none = derives_nothing k.hkdf_hash kind k.main (salt_of k draws) aad (derived_bytes_of k.kind k.derived) e;
  untouched = untouched;
}

-- the stream was not begun, and nothing was read
module _ {W : Type 0} (got : W → Option (List ℕ)) (faults : W → ℕ) (k : StreamKey) (aad draws left_draws : List ℕ) (old new : W) (left : Option (List ℕ)) (reads : ℕ) where
  abbrev before : Outside
  before = record { left = left; read_faults = reads; got = got old; write_faults = faults old }

  abbrev after : Outside
  after = record { left = left; read_faults = reads; got = got new; write_faults = faults new }

  untouched : new ≡ old → IsUntouched before after
  untouched s =
      let at : W → Outside = λ w. record { left = left; read_faults = reads; got = got w; write_faults = faults w } in
      ap at s

  refusal : (kind : Kind) → NewWriterRefused got faults k aad draws left_draws old new kind
      → SealsUnder k aad draws left_draws before after (Err (record { kind = kind_not_begun kind }))
  refusal OutOfMemory r = record { untouched = untouched r.same; undrawn = r.undrawn }
  refusal RandomFault r = record { few = r.few; untouched = untouched r.untouched.same; undrawn = r.untouched.undrawn }
  refusal UnknownHash r = no_keys k aad draws left_draws before after UnknownHash r.drew r.hash (untouched r.same)
  refusal UnsupportedHash r = no_keys k aad draws left_draws before after UnsupportedHash r.drew r.hash (untouched r.same)
  refusal WriteFault r = record {
    enough = r.drew.enough;
    rest = r.drew.rest;
    derives = λ none. let some = r.keys_are in cc;
    means = front_failed k aad (salt_of k draws) (nonce_prefix_of k draws) r.keys r.keys_are before after refl r.begun r.rose;
  }
  refusal _ r = absurd r

  pub begin_refusal : (kind : Kind) (e : TinkError) → e ≡ record { kind = kind_not_begun kind } → NewWriterRefused got faults k aad draws left_draws old new kind
      → SealsUnder k aad draws left_draws (record { left = left; read_faults = reads; got = got old; write_faults = faults old }) (record { left = left; read_faults = reads; got = got new; write_faults = faults new }) (Err e)
  begin_refusal kind e same r = subst (λ (x : TinkError). SealsUnder k aad draws left_draws before after (Err x)) (sym same) (refusal kind r)

  -- where the refusal is early, the sink is as it was
  pub begin_leaves : {S : Type 0} (source : S) (kind : Kind) (e : TinkError) → e ≡ record { kind = kind_not_begun kind } → NewWriterRefused got faults k aad draws left_draws old new kind
      → LeavesEnds (Err e) source source old new
  begin_leaves source kind e same r = subst (λ (x : TinkError). LeavesEnds (Err x) source source old new) (sym same) (go kind r)
    where
      go : (kind : Kind) → NewWriterRefused got faults k aad draws left_draws old new kind → IsEarly (kind_not_begun kind) → (source ≡ source) × (new ≡ old)
      go OutOfMemory r early = (refl, r.same)
      go RandomFault r early = (refl, r.untouched.same)
      go UnknownHash r early = (refl, r.same)
      go UnsupportedHash r early = (refl, r.same)
      go WriteFault r early = absurd early
      go _ r early = absurd r

-- a seal that has begun to read is not refused early
pub pour_late : (seg : ℕ → Bool → List ℕ → List ℕ) (a b : ℕ) (left rest : Option (List ℕ)) (reads again : ℕ) (m n : WriterMoment) (kind : Kind) → PourRefused seg a b left rest reads again m n kind → IsEarly kind → ⊥
pour_late seg a b left rest reads again m n ReadFault r early = early
pour_late seg a b left rest reads again m n WriteFault r early = early
pour_late seg a b left rest reads again m n TooManySegments r early = early
pour_late seg a b left rest reads again m n _ r early = r

pub close_late : (seg : ℕ → Bool → List ℕ → List ℕ) (m n : WriterMoment) (kind : Kind) → CloseRefused seg m n kind → IsEarly kind → ⊥
close_late seg m n WriteFault r early = early
close_late seg m n (FailedBefore c) r early = early
close_late seg m n _ r early = r

pub leaves_late : {S K : Type 0} (answer : Result Report TinkError) (s t : S) (k l : K) → IfErr answer (λ e. IsEarly e.kind → ⊥) → LeavesEnds answer s t k l
leaves_late (Ok report) s t k l late = tt
leaves_late (Err e) s t k l late = λ early. absurd (late early)

-- a stream that was begun
module _ (k : StreamKey) (aad draws left_draws : List ℕ) (got : Option (List ℕ)) (seg : ℕ → Bool → List ℕ → List ℕ) (a b : ℕ) (m : WriterMoment) (begun : IsNewStream k aad draws left_draws got seg a b m) where
  fresh : IsFresh m
  fresh = record { mode = begun.is_open; number = begun.number; held = begun.held }

  -- what its sealing answers is what the seal answers
  begun_answer : (old new : Outside) (answer : Result Report TinkError) → SealingMeans k aad (salt_of k draws) (nonce_prefix_of k draws) old new answer → SealsUnder k aad draws left_draws old new answer
  begun_answer old new answer means = under_way k aad draws left_draws old new answer (record { enough = begun.drew.enough; rest = begun.drew.rest; derives = λ none. let some = begun.keys_are in cc; means = means })

  -- pouring was refused
  pub not_poured : (left after : Option (List ℕ)) (reads again writes : ℕ) (n : WriterMoment) (e : TinkError) → writes ≤ m.faults → PourRefused seg a b left after reads again m n e.kind
      → SealsUnder k aad draws left_draws (record { left = left; read_faults = reads; got = got; write_faults = writes }) (record { left = after; read_faults = again; got = n.got; write_faults = n.faults }) (Err e)
  not_poured left after reads again writes n e later r =
      begun_answer _ _ (Err e)
      (pour_refusal k aad (salt_of k draws) (nonce_prefix_of k draws) begun.keys begun.keys_are seg a b left after got reads again writes m n e.kind begun.segments begun.first_is begun.later_is fresh begun.written later r)

  -- all was poured, and the writer was closed or not
  module _ (left after : Option (List ℕ)) (reads again writes : ℕ) (n o : WriterMoment) (bytes : ℕ) (poured : IsPoured seg a b left after m n bytes) (end : IsAtEnd after) (later : writes ≤ n.faults) where
    abbrev answers : ((kind : Kind) → CloseRefused seg n o kind → SealingRefused k aad (salt_of k draws) (nonce_prefix_of k draws) (record { left = left; read_faults = reads; got = got; write_faults = writes }) (record { left = after; read_faults = again; got = o.got; write_faults = o.faults }) kind)
        × (CloseMeans seg n o (Ok tt) → (report : Report) → report.segments ≡ o.number → report.bytes ≡ bytes
        → IsSealedWhole k aad (salt_of k draws) (nonce_prefix_of k draws) (record { left = left; read_faults = reads; got = got; write_faults = writes }) (record { left = after; read_faults = again; got = o.got; write_faults = o.faults }) report)
    answers = close_answer k aad (salt_of k draws) (nonce_prefix_of k draws) begun.keys begun.keys_are seg a b left after got reads again writes m n o bytes begun.segments begun.first_is begun.later_is fresh begun.written poured end later

    pub not_closed : (e : TinkError) → CloseRefused seg n o e.kind
        → SealsUnder k aad draws left_draws (record { left = left; read_faults = reads; got = got; write_faults = writes }) (record { left = after; read_faults = again; got = o.got; write_faults = o.faults }) (Err e)
    not_closed e r = begun_answer _ _ (Err e) (answers.0 e.kind r)

    pub closed : CloseMeans seg n o (Ok tt) → (report : Report) → report.segments ≡ o.number → report.bytes ≡ bytes
        → SealsUnder k aad draws left_draws (record { left = left; read_faults = reads; got = got; write_faults = writes }) (record { left = after; read_faults = again; got = o.got; write_faults = o.faults }) (Ok report)
    closed c report segments_are bytes_are = begun_answer _ _ (Ok report) (answers.1 c report segments_are bytes_are)
