-- How far an open has read its source, step by step.
use Rattle.std.proofs.Common.{◌≡◌, inl, inr, ◌≤◌, ◌<◌, ◌+◌, ◌^◌, ℕ, zero, suc, Bool, List, [], ◌∷◌, ◌++◌, length, take, drop, map, max, refl, sym, ap, subst, ◌∙◌, arith, Some, None, IfSome, length-drop, take-append-drop}
use Rattle.std.proofs.lemmas.List.{append-nil}
use Rattle.std.specs.declared.option.Option.{Option}
use Rattle.std.specs.Prelude.{Result, Ok, Err}
use Rattle.std.specs.Io.KnownBytes.{Appends, Keeps, prepend_known}
use Rattle.std.proofs.KnownBytes.{Keeps-refl}
use Rattle.tink_io.specs.Taken.{LosesAtMost}
use Rattle.tink_io.specs.Written.{AppendsPrefix}
use Rattle.tink_io.specs.declared.error.Cause.{Cause}
use Rattle.tink_io.specs.declared.error.Cause.TheVariants as cause
use Rattle.tink_io.specs.declared.error.Kind.{Kind}
use Rattle.tink_io.specs.declared.error.Kind.TheVariants.{ReadFault, WriteFault, TooManySegments, NoMatchingKey, BadSegment, Truncated}
use Rattle.tink_io.specs.declared.error.TinkError.{TinkError}
use Rattle.stream_model.specs.Cut.{cut, room_at}
use Rattle.stream_model.specs.Agree.{AreTexts, Agree, Leads, joined}
use Rattle.stream_model.specs.Key.{StreamKey}
use Rattle.stream_model.specs.Opening.{OpeningKey, IsChosen, chunks_of, opening_key}
use Rattle.stream_model.proofs.CutFacts.{cut_none, cut_fits, cut_more}
use Rattle.tink_streaming_aead.specs.DecryptReaders.{largest}
use Rattle.tink_streaming_aead.proofs.DecryptSteps.{reads_held, reads_kept}
use Rattle.tink_streaming_io.specs.Choosing.{Started, StartRefused}
use Rattle.tink_streaming_io.specs.Reading.{FailsBy, HeldBy, IsBad, ReadFailed, ReaderMoment, TellsLeads, TruncatedAt, OpenNextRefused}
use Rattle.tink_streaming_io.proofs.ChosenFacts.{chunks_are}
use Rattle.tink_streaming_segment.proofs.HeadFacts.{fits_or_not}
use Rattle.tink_streaming_io.proofs.ReadingFacts.{Opened}
use Rattle.tink_run.specs.declared.report.Report.{Report}
use Rattle.tink_io.specs.Outside.{Outside}
use Rattle.tink_run.specs.OpenAnswers.{Lead}
use Rattle.tink_run.specs.OpenReads.{FailsBehind, FirstReadsBy, ReaderReads, ReaderReadsBy, ReadsBy, ReadsFrom, ReadsInChunk, ReadsNear, ReadsWithin, StopsBehind, from_chunk, largest_of}
use Rattle.tink_run.specs.OpenSteps.{FirstFailedBy, FirstRefused, ReaderMeans}
use Rattle.tink_run.proofs.OpenLemmas.{kept_nothing}
use Rattle.tink_run.proofs.OpenSteps.{behind, leads_under, some_agrees}
use Rattle.tink_run.proofs.ReadOut.{IsReading, any_told, front_one, lead_of, written_one}

-- a refusal loses no byte
fails_by : (seg : ℕ → Bool → List ℕ → List ℕ) (a b overhead : ℕ) (m n : ReaderMoment) (kind : Kind) → OpenNextRefused seg a b overhead m n kind → (c : Cause) × FailsBy c m n
fails_by seg a b overhead m n ReadFault x = (cause.ReadFault, x.fails)
fails_by seg a b overhead m n TooManySegments x = (cause.TooManySegments, x.fails)
fails_by seg a b overhead m n (BadSegment i) x = (cause.BadSegment i, x.fails)
fails_by seg a b overhead m n (Truncated i) x = (cause.Truncated i, x.fails)
fails_by seg a b overhead m n _ x = absurd x

-- by a failed read
pub failed_by_source : (seg : ℕ → Bool → List ℕ → List ℕ) (a b overhead : ℕ) (m n : ReaderMoment) (kind : Kind) → kind ≡ ReadFault → OpenNextRefused seg a b overhead m n kind → ReadFailed m n
failed_by_source seg a b overhead m n kind is x = subst (OpenNextRefused seg a b overhead m n) is x

-- by which cause a reader has failed whose first segment is refused, and no read failed
pub first_failed : (seg : ℕ → Bool → List ℕ → List ℕ) (a b overhead : ℕ) (m n : ReaderMoment) (kind : Kind) → m.number ≡ 0 → (kind ≡ ReadFault → ⊥) → OpenNextRefused seg a b overhead m n kind → FirstFailedBy seg a b overhead m n NoMatchingKey
first_failed seg a b overhead m n ReadFault fresh other x = absurd (other refl)
first_failed seg a b overhead m n TooManySegments fresh other x = absurd (not_many m.number fresh x.number)
  where
    not_many : (i : ℕ) → i ≡ 0 → i ≡ 2 ^ 32 → ⊥
    not_many i none many = omega (arith, none, many)
first_failed seg a b overhead m n (BadSegment i) fresh other x = inr (subst (IsBad seg a b overhead m n) (x.number ∙ fresh) x)
first_failed seg a b overhead m n (Truncated i) fresh other x = inl (subst (TruncatedAt seg a b overhead m n) (x.number ∙ fresh) x)
first_failed seg a b overhead m n _ fresh other x = absurd x

-- and by a failed read no more than the first chunk is held
pub held_first : (a b i f : ℕ) (kind : Kind) → i ≡ 0 → kind ≡ ReadFault → HeldBy (room_at a b i) f kind → f ≤ a
held_first a b i f kind fresh is held = subst (λ (j : ℕ). f ≤ room_at a b j) fresh (subst (HeldBy (room_at a b i) f) is held)

-- so at most what is held was read
pub refused_reads : (room f : ℕ) (seg : ℕ → Bool → List ℕ → List ℕ) (a b overhead : ℕ) (m n : ReaderMoment) (kind : Kind) (items : List ℕ) (left : Option (List ℕ)) → n.rest ≡ prepend_known (take f items) left → f ≤ room
    → OpenNextRefused seg a b overhead m n kind → LosesAtMost room m.rest left
refused_reads room f seg a b overhead m n kind items left rest few x =
    reads_kept room m.rest n.rest left (fails_by seg a b overhead m n kind x).1.kept (reads_held room f n.rest left items (subst (Keeps n.rest) rest (Keeps-refl n.rest)) few)

-- the chunks of bytes are these bytes
joined_cut : (n a b : ℕ) (X : List ℕ) → length X ≤ n → 0 < a → 0 < b → joined (cut a b X) ≡ X
joined_cut n a b [] few p q = ap joined (cut_none a b)
joined_cut zero a b (x ∷ X) few p q = absurd (omega arith)
joined_cut (suc n) a b (x ∷ X) few p q = elim (fits_or_not (length (x ∷ X)) a) [
  | inl fits ↦ ap joined (cut_fits a b (x ∷ X) (omega arith) fits) ∙ append-nil (x ∷ X)
  | inr more ↦
      ap joined (cut_more a b (x ∷ X) more p q) ∙ ap (λ (Y : List ℕ). take a (x ∷ X) ++ Y) (joined_cut n b b (drop a (x ∷ X)) (omega (arith, few, p, length-drop a (x ∷ X))) q q)
      ∙ take-append-drop a (x ∷ X)
]

leads_drop : (seg : ℕ → Bool → List ℕ → List ℕ) (i : ℕ) (cs ts rest : List (List ℕ)) → Leads seg i cs ts rest → drop (length ts) cs ≡ rest
leads_drop seg i cs [] rest p = sym p
leads_drop seg i [] (t ∷ ts) rest p = absurd p
leads_drop seg i (c ∷ cs) (t ∷ ts) rest p = leads_drop seg (i + 1) cs ts rest p.2

some_room : (a b i : ℕ) → 0 < a → 0 < b → 0 < room_at a b i
some_room a b zero p q = p
some_room a b (suc i) p q = q

reads_led : (seg : ℕ → Bool → List ℕ → List ℕ) (a b room : ℕ) (all rest left : Option (List ℕ)) (texts : List (List ℕ)) → 0 < a → 0 < b → TellsLeads seg a b 0 all texts rest → LosesAtMost room rest left
    → ReadsFrom room a b (length texts) all left
reads_led seg a b room None rest left texts p q leads lost = tt
reads_led seg a b room (Some X) None left texts p q leads lost = absurd leads
reads_led seg a b room (Some X) (Some Y) left texts p q leads lost =
    let n : ℕ = room_at a b (0 + length texts) in
    let stands : from_chunk (cut a b X) (length texts) ≡ Y =
    ap joined (leads_drop seg 0 (cut a b X) texts (cut n b Y) leads) ∙ joined_cut (length Y) n b Y (omega arith) (some_room a b (0 + length texts) p q) q
    in
    subst (λ (z : List ℕ). LosesAtMost room (Some z) left) (sym stands) lost

-- behind texts that were opened
pub reads_opened : (seg : ℕ → Bool → List ℕ → List ℕ) (a b room : ℕ) (all left : Option (List ℕ)) (texts : List (List ℕ)) (m : ReaderMoment) → 0 < a → 0 < b → Opened seg a b all texts m → LosesAtMost room m.rest left
    → ReadsFrom room a b (length texts) all left
reads_opened seg a b room all left texts m p q o lost = reads_led seg a b room all m.rest left texts p q o.leads lost

-- before the first chunk
reads_fresh : (a b room : ℕ) (all left : Option (List ℕ)) → 0 < a → 0 < b → LosesAtMost room all left → ReadsFrom room a b 0 all left
reads_fresh a b room None left p q lost = tt
reads_fresh a b room (Some X) left p q lost = subst (λ (z : List ℕ). LosesAtMost room (Some z) left) (sym (joined_cut (length X) a b X (omega arith) p q)) lost

-- the reader refused the first segment
pub first_reads : (room : ℕ) (seg : ℕ → Bool → List ℕ → List ℕ) (a b : ℕ) (old new : Outside) (m n : ReaderMoment) (kind : Kind) → 0 < a → 0 < b → Keeps old.got new.got → FirstReadsBy room a old.left new.left kind → FirstRefused seg a b m n kind
    → ReaderReadsBy room seg a b old new kind
first_reads room seg a b old new m n NoMatchingKey p q got lost x = tt
first_reads room seg a b old new m n ReadFault p q got lost x = record {
  texts = [];
  lead = any_told old.left;
  read = reads_fresh a b a old.left new.left p q lost;
  written = kept_nothing old.got new.got got;
}
first_reads room seg a b old new m n _ p q got lost x = absurd x

-- the sink failed in the text that was opened last
pub write_reads : (room : ℕ) (seg : ℕ → Bool → List ℕ → List ℕ) (a b : ℕ) (old new : Outside) (now : Option (List ℕ)) (m : ReaderMoment) (bytes : ℕ) → 0 < a → 0 < b → IsReading seg a b old.left old.got now m bytes
    → AppendsPrefix now new.got m.opened → LosesAtMost room m.rest new.left → ReaderReadsBy room seg a b old new WriteFault
write_reads room seg a b old new now m bytes p q r w lost = record {
  texts = r.texts ++ (m.opened ∷ []);
  lead = lead_of seg a b old.left m.rest (r.texts ++ (m.opened ∷ [])) r.opened.leads;
  read = reads_opened seg a b room old.left new.left (r.texts ++ (m.opened ∷ [])) m p q r.opened lost;
  written = front_one r.texts m.opened old.got now new.got r.written w;
}

-- the reader refused the next segment
pub next_reads : (room : ℕ) (seg : ℕ → Bool → List ℕ → List ℕ) (a b overhead : ℕ) (old new : Outside) (now : Option (List ℕ)) (m n : ReaderMoment) (bytes : ℕ) (kind : Kind) → 0 < a → 0 < b → IsReading seg a b old.left old.got now m bytes
    → Appends now new.got m.opened → (f : ℕ) (items : List ℕ) → Keeps n.rest (prepend_known (take f items) new.left) → f ≤ room → HeldBy (room_at a b m.number) f kind → OpenNextRefused seg a b overhead m n kind
    → ReaderReadsBy room seg a b old new kind
next_reads room seg a b overhead old new now m n bytes kind p q r w f items rest few short x = go kind short x
  where
    texts : List (List ℕ)
    texts = r.texts ++ (m.opened ∷ [])

    lost : LosesAtMost room n.rest new.left
    lost = reads_held room f n.rest new.left items rest few

    at : (i : ℕ) → i ≡ m.number → Keeps m.rest n.rest → ReadsFrom room a b i old.left new.left
    at i number kept =
        subst (λ (j : ℕ). ReadsFrom room a b j old.left new.left) (sym (number ∙ r.opened.number))
        (reads_opened seg a b room old.left new.left texts m p q r.opened (reads_kept room m.rest n.rest new.left kept lost))

    within_chunk : f ≤ room_at a b m.number → Keeps m.rest n.rest → ReadsFrom (room_at a b (length texts)) a b (length texts) old.left new.left
    within_chunk most kept =
        subst (λ (i : ℕ). ReadsFrom (room_at a b i) a b (length texts) old.left new.left) r.opened.number
        (reads_opened seg a b (room_at a b m.number) old.left new.left texts m p q r.opened (reads_kept (room_at a b m.number) m.rest n.rest new.left kept (reads_held (room_at a b m.number) f n.rest new.left items rest most)))

    go : (kind : Kind) → HeldBy (room_at a b m.number) f kind → OpenNextRefused seg a b overhead m n kind → ReaderReadsBy room seg a b old new kind
    go ReadFault most x = record {
      texts = texts;
      lead = lead_of seg a b old.left m.rest texts r.opened.leads;
      read = within_chunk most x.fails.kept;
      written = written_one r.texts m.opened old.got now new.got r.written w;
    }
    go TooManySegments most x = at (2 ^ 32) (sym x.number) x.fails.kept
    go (BadSegment i) most x = at i x.number x.fails.kept
    go (Truncated i) most x = at i x.number x.fails.kept
    go _ most x = absurd x

-- no reader was started
pub start_reads : (room : ℕ) (keys : List OpeningKey) (old new : Outside) (kind : Kind) → Keeps old.got new.got → LosesAtMost room old.left new.left → StartRefused keys old.left old.read_faults new.read_faults kind
    → ReadsBy room keys old new kind
start_reads room keys old new NoMatchingKey got lost x = lost
start_reads room keys old new ReadFault got lost x = record {
  texts = [];
  lead = any_told old.left;
  read = inr (refl, lost);
  written = kept_nothing old.got new.got got;
}
start_reads room keys old new _ got lost x = absurd x

-- a reader for the key that was chosen
module _ (room : ℕ) (keys : List OpeningKey) (seg : ℕ → Bool → List ℕ → List ℕ) (first size overhead : ℕ) (old mid new : Outside) (got : mid.got ≡ old.got)
    (started : IfSome old.left (λ X. Started keys X mid.left seg first size overhead)) where
  near : (n : ℕ) → ReadsFrom room first size n mid.left new.left → ReadsNear room keys n old.left new.left
  near n h =
      behind keys seg first size overhead old.left mid.left (λ Y. LosesAtMost room (Some (from_chunk (cut first size Y) n)) new.left)
      (λ S. (k : OpeningKey) × IsChosen keys S (Some k) × LosesAtMost room (Some (from_chunk (chunks_of k S) n)) new.left)
      (λ X s p. (
        s.found.key,
        s.found.chosen,
        subst (λ (cs : List (List ℕ)). LosesAtMost room (Some (from_chunk cs n)) new.left) (chunks_are s.found.key X seg s.front first size overhead s.found.opener) p,
      ))
      started h

  in_chunk : (n : ℕ) → ReadsFrom (room_at first size n) first size n mid.left new.left → ReadsInChunk keys n old.left new.left
  in_chunk n h =
      behind keys seg first size overhead old.left mid.left (λ Y. LosesAtMost (room_at first size n) (Some (from_chunk (cut first size Y) n)) new.left)
      (λ S. (k : OpeningKey) × IsChosen keys S (Some k) × LosesAtMost (room_at k.first k.size n) (Some (from_chunk (chunks_of k S) n)) new.left)
      (λ X s p.
      let k : OpeningKey = s.found.key in
      let o = s.found.opener in (
        k,
        s.found.chosen,
        subst (λ (i : ℕ). LosesAtMost i (Some (from_chunk (chunks_of k X) n)) new.left) (ap (λ (i : ℕ). room_at i size n) o.first_is ∙ ap (λ (i : ℕ). room_at k.first i n) o.size_is)
            (subst (λ (cs : List (List ℕ)). LosesAtMost (room_at first size n) (Some (from_chunk cs n)) new.left) (chunks_are k X seg s.front first size overhead o) p),
      ))
      started h

  stops : (Wrote : Option (List ℕ) → Option (List ℕ) → List ℕ → Type 0) (Near : ℕ → Option (List ℕ) → Option (List ℕ) → Type 0) (rooms : ℕ → ℕ) → ((n : ℕ) → ReadsFrom (rooms n) first size n mid.left new.left → Near n old.left new.left)
      → FailsBehind Wrote rooms seg first size mid new → StopsBehind Wrote Near room keys old new
  stops Wrote Near rooms to x = record {
    texts = x.texts;
    lead = behind keys seg first size overhead old.left mid.left (λ Y. AreTexts seg 0 (cut first size Y) x.texts) (λ X. Lead keys X x.texts)
        (λ X s p. leads_under keys seg first size overhead s.front X x.texts s.found p) started x.lead;
    read = inl (to (length x.texts) x.read);
    written = subst (λ (o : Option (List ℕ)). Wrote o new.got (joined x.texts)) got x.written;
  }

  -- some text agrees
  begins : (told : Option (List ℕ)) → IfSome told (λ X. ⊥) → LosesAtMost room told new.left
  begins None h = ([], omega arith, tt)
  begins (Some X) h = absurd h

  refused : (kind : Kind) → ReaderMeans seg first size overhead mid new (Err (record { kind = kind })) → ReaderReadsBy room seg first size mid new kind → ReadsBy room keys old new kind
  refused NoMatchingKey x h =
      begins old.left
      (behind keys seg first size overhead old.left mid.left (λ Y. Agree seg 0 (cut first size Y) []) (λ X. ⊥) (λ X s p. some_agrees keys seg first size overhead s.front X s.found p) started x.nothing)
  refused (Truncated n) x h = near n h
  refused (BadSegment n) x h = near n h
  refused TooManySegments x h = near (2 ^ 32) h
  refused ReadFault x h = stops Appends (ReadsInChunk keys) (room_at first size) in_chunk h
  refused WriteFault x h = stops AppendsPrefix (ReadsNear room keys) (λ _. room) near h
  refused _ x h = absurd x

  pub reads_under : (answer : Result Report TinkError) → ReaderMeans seg first size overhead mid new answer → ReaderReads room seg first size mid new answer → ReadsWithin room keys old new answer
  reads_under (Ok report) x h = tt
  reads_under (Err e) x h = refused e.kind x h

-- the room of keys is a byte more than the most that one of them has of its output prefix and a segment
pub same_largest : (aad : List ℕ) (keys : List StreamKey) → largest keys ≡ largest_of (map (opening_key aad) keys)
same_largest aad [] = refl
same_largest aad (k ∷ keys) = ap (max (length k.out + k.segment)) (same_largest aad keys)
