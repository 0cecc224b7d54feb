-- From what was answered over a sink that gathers to what is answered over the sink behind it.
use Rattle.std.proofs.Common.{◌≡◌, ◌⊎◌, inl, inr, ◌≤◌, ◌<◌, ◌+◌, ◌-◌, ◌^◌, ℕ, List, [], ◌∷◌, ◌++◌, length, take, drop, refl, sym, ap, subst, ◌∙◌, arith, Some, None, IfSome, append_assoc, take-append-drop}
use Rattle.std.specs.declared.option.Option.{Option}
use Rattle.std.specs.Prelude.{Result, Ok, Err}
use Rattle.std.specs.Io.KnownBytes.{Appends, Keeps, append_known}
use Rattle.std.proofs.KnownBytes.{Appends-kept, Keeps-trans}
use Rattle.std.proofs.lemmas.List.{append-nil, length-take, take-take}
use Rattle.std.proofs.Math.Seq.{take-append_seam}
use Rattle.tink_io.specs.Faults.{Rose}
use Rattle.tink_io.specs.Written.{AppendsPrefix}
use Rattle.tink_io.proofs.FaultLemmas.{Rose-earlier, Rose-later}
use Rattle.tink_io.proofs.WrittenLemmas.{prefix_of_more}
use Rattle.tink_io.specs.declared.error.Kind.{Kind}
use Rattle.tink_io.specs.declared.error.Kind.TheVariants.{OutOfMemory, ReadFault, WriteFault, RandomFault, UnsupportedHash, TooManySegments, NoMatchingKey, BadSegment, Truncated}
use Rattle.tink_io.specs.declared.error.TinkError.{TinkError}
use Rattle.stream_model.specs.Agree.{joined}
use Rattle.stream_model.specs.Cut.{full_chunks, unmarked}
use Rattle.stream_model.specs.Key.{StreamKey, first_room, front, keys_of, room, segment_at}
use Rattle.stream_model.specs.Opening.{OpeningKey, IsChosen, chunks_of}
use Rattle.stream_model.specs.Sealing.{stream, part, longest_part, unmarked_under, salt_of, nonce_prefix_of}
use Rattle.stream_model.proofs.CutFacts.{unmarked-append}
use Rattle.stream_model.proofs.KeyFacts.{CanOpen as Lawful}
use Rattle.tink_io.specs.Gathering.{IsCutShort, OnlyGrows}
use Rattle.tink_io.proofs.GatheringLemmas.{grows_then}
use Rattle.tink_run.specs.declared.report.Report.{Report}
use Rattle.tink_run.specs.Endings.{EndsAs, IsEndedBy, IsRefusedEarly}
use Rattle.tink_run.specs.OpenAnswers.{AgreesUntil, chunk_of, IsBroken, IsCutOff, IsOfChosen, Lead, OpeningMeans, OpeningRefused}
use Rattle.tink_run.specs.OpenSteps.{OpensUnder, OpensUnderRefused}
use Rattle.tink_io.specs.Outside.{Outside}
use Rattle.tink_run.specs.Run.{IsEarly, LeavesEnds, LeavesSinkItself}
use Rattle.tink_run.specs.SealAnswers.{SealingMeans, SealingRefused, SinkFailed, WantsMemory}
use Rattle.tink_run.specs.SealSteps.{HasFew, HasNoKeys, IsUnderWay, SealsUnder, SealsUnderRefused}
use Rattle.tink_run.proofs.OpenLemmas.{agreed_leads, kept_prefix, stream_agrees, whole_prefix}

-- ---- bytes that were handed on in part

-- nothing waits
pub nothing_waits : (known : Option (List ℕ)) (waits : List ℕ) → waits ≡ [] → append_known known waits ≡ known
nothing_waits None waits e = refl
nothing_waits (Some xs) waits e = ap Some (ap (λ l. xs ++ l) e ∙ append-nil xs)

-- bytes with which others begin, by those that follow
is_prefix : (xs more waits all : List ℕ) → xs ++ (more ++ waits) ≡ xs ++ all → more ≡ take (length more) all
is_prefix [] more waits all e = sym (take-append_seam more waits) ∙ ap (take (length more)) e
is_prefix (x ∷ xs) more waits all e = is_prefix xs more waits all (ap (drop 1) e)

-- what the sink behind has got of bytes of which the sink that gathers was given a prefix
pub cut_prefix : (old told got : Option (List ℕ)) (bs : List ℕ) → OnlyGrows old got → IsCutShort told got → AppendsPrefix old told bs → AppendsPrefix old got bs
cut_prefix None told got bs grows cut w = (0, omega arith, tt)
cut_prefix (Some x) told None bs grows cut w = absurd grows.1
cut_prefix (Some x) None (Some y) bs grows cut w = absurd w.2
cut_prefix (Some x) (Some t) (Some y) bs grows cut w =
    let more : List ℕ = grows.0 in
    let waits : List ℕ = cut.0 in
    let taken : List ℕ = take w.0 bs in
    let whole : x ++ (more ++ waits) ≡ x ++ taken = sym (append_assoc x more waits) ∙ ap (λ l. l ++ waits) (sym grows.1) ∙ cut.1 ∙ w.2 in
    let is : more ≡ take (length more) taken = is_prefix x more waits taken whole in
    let few : length more ≤ w.0 = omega (arith, ap length is, length-take (length more) taken, length-take w.0 bs) in
    (length more, omega (arith, few, w.1), grows.1 ∙ ap (λ l. x ++ l) (is ∙ take-take (length more) w.0 bs few))

-- a prefix that was given stays one
pub kept_after : (old told got : Option (List ℕ)) (bs : List ℕ) → Keeps told got → AppendsPrefix old told bs → AppendsPrefix old got bs
kept_after old told got bs kept w = (w.0, w.1, Appends-kept old told got (take w.0 bs) w.2 kept)

-- the segments of the first 2^32 chunks begin those of all
longest_leads : (k : StreamKey) (aad salt prefix text : List ℕ) → (rest : List ℕ) × (part k aad salt prefix text ≡ longest_part k aad salt prefix text ++ rest)
unfolding part longest_part
longest_leads k aad salt prefix text =
    let u = under (keys_of k aad salt) (2 ^ 32 - 1) (full_chunks (first_room k) (room k) text) in
    (u.0, ap (λ l. front k salt prefix ++ l) u.1 ∙ sym (append_assoc (front k salt prefix) (unmarked_under k (keys_of k aad salt) prefix (take (2 ^ 32 - 1) (full_chunks (first_room k) (room k) text))) u.0))
  where
    under : (o : Option (List ℕ)) (n : ℕ) (cs : List (List ℕ)) → (rest : List ℕ) × (unmarked_under k o prefix cs ≡ unmarked_under k o prefix (take n cs) ++ rest)
    under None n cs = ([], refl)
    under (Some keys) n cs =
        let seg = segment_at k keys prefix in
        (unmarked seg (0 + length (take n cs)) (drop n cs), ap (unmarked seg 0) (sym (take-append-drop n cs)) ∙ unmarked-append seg 0 (take n cs) (drop n cs))

pub longest_prefix : (k : StreamKey) (aad salt prefix text : List ℕ) (a b : Option (List ℕ)) → Appends a b (longest_part k aad salt prefix text) → AppendsPrefix a b (part k aad salt prefix text)
longest_prefix k aad salt prefix text a b w =
    let more = longest_leads k aad salt prefix text in
    subst (AppendsPrefix a b) (sym more.1) (prefix_of_more a b (longest_part k aad salt prefix text) more.0 (whole_prefix a b (longest_part k aad salt prefix text) w))

-- ---- what was told, and what the sink behind has got in the end

-- texts that lead, by those that agree
pub leads_agreed : (keys : List OpeningKey) (S : List ℕ) (ts : List (List ℕ)) (P : OpeningKey → Type 0) → AgreesUntil keys S ts P → Lead keys S ts
leads_agreed keys S [] P a = tt
leads_agreed keys S (t ∷ ts) P a = agreed_leads keys S a.key (t ∷ ts) a.chosen a.agreed (omega arith)

pub leads_opened : (keys : List OpeningKey) (S : List ℕ) (ts : List (List ℕ)) → ((S : List ℕ) (k : OpeningKey) → IsChosen keys S (Some k) → Lawful k) → IsOfChosen keys S ts → Lead keys S ts
leads_opened keys S [] lawful s = tt
leads_opened keys S (t ∷ ts) lawful s = (s.key, s.chosen, (stream_agrees s.key S (t ∷ ts) (lawful S s.key s.chosen) s.stream).0)

pub if_told : (known : Option (List ℕ)) (P Q : List ℕ → Type 0) → ((S : List ℕ) → P S → Q S) → IfSome known P → IfSome known Q
if_told None P Q f h = tt
if_told (Some S) P Q f h = f S h

-- Of the moment `old`, and of one in which the source has `left`: the sink that gathers told `told` and had failed `before` times;
-- the sink behind it has got `got` and has failed `now` times.
module _ (old : Outside) (left : Option (List ℕ)) (reads : ℕ) (told got : Option (List ℕ)) (before now : ℕ) where
  abbrev in_between : Outside
  in_between = record { left = left; read_faults = reads; got = told; write_faults = before }

  abbrev in_the_end : Outside
  in_the_end = record { left = left; read_faults = reads; got = got; write_faults = now }

  -- ---- all was handed on
  module _ (kept : Keeps told got) (later : before ≤ now) where
    whole : (bs : List ℕ) → Appends old.got told bs → Appends old.got got bs
    whole bs w = Appends-kept old.got told got bs w kept

    pub sealing_kept : (k : StreamKey) (aad salt prefix : List ℕ) (answer : Result Report TinkError) → SealingMeans k aad salt prefix old in_between answer → SealingMeans k aad salt prefix old in_the_end answer
    sealing_kept k aad salt prefix (Ok report) r = record {
      text = r.text;
      read = r.read;
      at_end = r.at_end;
      few = r.few;
      written = whole (stream k aad salt prefix r.text) r.written;
      segments = r.segments;
      bytes = r.bytes;
    }
    sealing_kept k aad salt prefix (Err e) r = go e.kind r
      where
        go : (kind : Kind) → SealingRefused k aad salt prefix old in_between kind → SealingRefused k aad salt prefix old in_the_end kind
        go ReadFault r = record { text = r.text; read = r.read; written = whole (part k aad salt prefix r.text) r.written; rose = r.rose }
        go WriteFault r = record {
          text = r.text;
          read = r.read;
          written = elim r.written [
            | inl w ↦ inl (kept_after old.got told got (part k aad salt prefix r.text) kept w)
            | inr w ↦ inr (w.0, kept_after old.got told got (stream k aad salt prefix r.text) kept w.1)
          ];
          rose = Rose-later old.write_faults before now r.rose later;
        }
        go TooManySegments r = record { text = r.text; read = r.read; many = r.many; written = whole (longest_part k aad salt prefix r.text) r.written }
        go _ r = r

    pub broken_kept : (keys : List OpeningKey) → IsBroken keys old in_between → IsBroken keys old in_the_end
    broken_kept keys r = record { texts = r.texts; lead = r.lead; written = kept_after old.got told got (joined r.texts) kept r.written }

    cut_off_kept : (keys : List OpeningKey) → IsCutOff keys old in_between → IsCutOff keys old in_the_end
    cut_off_kept keys r = record { texts = r.texts; lead = r.lead; written = whole (joined r.texts) r.written }

    opening_refused_kept : (keys : List OpeningKey) (kind : Kind) → OpeningRefused keys old in_between kind → OpeningRefused keys old in_the_end kind
    opening_refused_kept keys NoMatchingKey r = record { none = r.none; written = Keeps-trans old.got told got r.written kept }
    opening_refused_kept keys (Truncated n) r = record { texts = r.texts; number = r.number; some = r.some; stream = r.stream; written = whole (joined r.texts) r.written }
    opening_refused_kept keys (BadSegment n) r = record { texts = r.texts; number = r.number; some = r.some; stream = r.stream; written = whole (joined r.texts) r.written }
    opening_refused_kept keys TooManySegments r = record { texts = r.texts; number = r.number; stream = r.stream; written = whole (joined r.texts) r.written }
    opening_refused_kept keys ReadFault r = (cut_off_kept keys r.0, r.1)
    opening_refused_kept keys WriteFault r = (broken_kept keys r.0, Rose-later old.write_faults before now r.1 later)
    opening_refused_kept keys _ r = r

    pub opening_kept : (keys : List OpeningKey) (answer : Result Report TinkError) → OpeningMeans keys old in_between answer → OpeningMeans keys old in_the_end answer
    opening_kept keys (Ok report) r = record {
      texts = r.texts;
      stream = r.stream;
      stays_told = r.stays_told;
      at_end = r.at_end;
      written = whole (joined r.texts) r.written;
      segments = r.segments;
      bytes = r.bytes;
    }
    opening_kept keys (Err e) r = opening_refused_kept keys e.kind r

  -- ---- a part was handed on
  module _ (grows : OnlyGrows old.got got) (short : IsCutShort told got) (rose : Rose old.write_faults now) where
    cut : (bs : List ℕ) → AppendsPrefix old.got told bs → AppendsPrefix old.got got bs
    cut bs w = cut_prefix old.got told got bs grows short w

    cut_whole : (bs : List ℕ) → Appends old.got told bs → AppendsPrefix old.got got bs
    cut_whole bs w = cut bs (whole_prefix old.got told bs w)

    pub sealing_cut : (k : StreamKey) (aad salt prefix : List ℕ) (answer : Result Report TinkError) → SealingMeans k aad salt prefix old in_between answer → SinkFailed k aad salt prefix old in_the_end
    sealing_cut k aad salt prefix (Ok report) r =
        record { text = r.text; read = r.read; written = inr (r.at_end, cut_whole (stream k aad salt prefix r.text) r.written); rose = rose }
    sealing_cut k aad salt prefix (Err e) r = go e.kind r
      where
        go : (kind : Kind) → SealingRefused k aad salt prefix old in_between kind → SinkFailed k aad salt prefix old in_the_end
        go ReadFault r = record { text = r.text; read = r.read; written = inl (cut_whole (part k aad salt prefix r.text) r.written); rose = rose }
        go WriteFault r = record {
          text = r.text;
          read = r.read;
          written = elim r.written [
            | inl w ↦ inl (cut (part k aad salt prefix r.text) w)
            | inr w ↦ inr (w.0, cut (stream k aad salt prefix r.text) w.1)
          ];
          rose = rose;
        }
        go TooManySegments r = record { text = r.text; read = r.read; written = inl (cut (part k aad salt prefix r.text) (longest_prefix k aad salt prefix r.text old.got told r.written)); rose = rose }
        go _ r = absurd r

    broken : (keys : List OpeningKey) (texts : List (List ℕ)) → IfSome old.left (λ S. Lead keys S texts) → AppendsPrefix old.got told (joined texts) → IsBroken keys old in_the_end
    broken keys texts lead w = record { texts = texts; lead = lead; written = cut (joined texts) w }

    until : (keys : List OpeningKey) (texts : List (List ℕ)) (P : List ℕ → OpeningKey → Type 0) → IfSome old.left (λ S. AgreesUntil keys S texts (P S)) → Appends old.got told (joined texts) → IsBroken keys old in_the_end
    until keys texts P stream w =
        broken keys texts (if_told old.left (λ S. AgreesUntil keys S texts (P S)) (λ S. Lead keys S texts) (λ S a. leads_agreed keys S texts (P S) a) stream) (whole_prefix old.got told (joined texts) w)

    opening_refused_cut : (keys : List OpeningKey) (kind : Kind) → OpeningRefused keys old in_between kind → OpeningRefused keys old in_the_end WriteFault
    opening_refused_cut keys NoMatchingKey r = (broken keys [] (if_told old.left (λ S. IsChosen keys S None) (λ S. Lead keys S []) (λ S n. tt) r.none) (kept_prefix old.got told [] r.written), rose)
    opening_refused_cut keys (Truncated n) r = (until keys r.texts (λ S k. (0 < length (chunk_of k S n)) × (length (chunk_of k S n) < k.overhead)) r.stream r.written, rose)
    opening_refused_cut keys (BadSegment n) r = (until keys r.texts (λ S k. k.overhead ≤ length (chunk_of k S n)) r.stream r.written, rose)
    opening_refused_cut keys TooManySegments r = (until keys r.texts (λ S k. 2 ^ 32 < length (chunks_of k S)) r.stream r.written, rose)
    opening_refused_cut keys ReadFault r = (broken keys r.0.texts r.0.lead (whole_prefix old.got told (joined r.0.texts) r.0.written), rose)
    opening_refused_cut keys WriteFault r = (broken keys r.0.texts r.0.lead r.0.written, rose)
    opening_refused_cut keys _ r = absurd r

    pub opening_cut : (keys : List OpeningKey) → ((S : List ℕ) (k : OpeningKey) → IsChosen keys S (Some k) → Lawful k) → (answer : Result Report TinkError) → OpeningMeans keys old in_between answer → OpeningRefused keys old in_the_end WriteFault
    opening_cut keys lawful (Ok report) r =
        (broken keys r.texts (if_told old.left (λ S. IsOfChosen keys S r.texts) (λ S. Lead keys S r.texts) (λ S s. leads_opened keys S r.texts lawful s) r.stream) (whole_prefix old.got told (joined r.texts) r.written), rose)
    opening_cut keys lawful (Err e) r = opening_refused_cut keys e.kind r

-- ---- from the moment of the answer to the end

-- the sink that failed before it was handed what waited, or then, has failed
pub failed_once : (old faults now : ℕ) (answer : Result Report TinkError) → (answer ≡ Err (record { kind = WriteFault }) → Rose old faults) → old ≤ faults → faults ≤ now → Rose faults now ⊎ (answer ≡ Err (record { kind = WriteFault })) → Rose old now
failed_once old faults now answer before earlier later (inl rose) = Rose-earlier old faults now earlier rose
failed_once old faults now answer before earlier later (inr is) = Rose-later old faults now (before is) later

module _ (k : StreamKey) (aad draws left_draws : List ℕ) (old new : Outside) (told : Option (List ℕ)) (faults : ℕ) where
  abbrev sealed_mid : Outside
  sealed_mid = record new { got = told; write_faults = faults }

  abbrev salt : List ℕ
  salt = salt_of k draws

  abbrev prefix : List ℕ
  prefix = nonce_prefix_of k draws

  way_kept : Keeps told new.got → faults ≤ new.write_faults → (answer : Result Report TinkError) → IsUnderWay k aad draws left_draws old sealed_mid answer → IsUnderWay k aad draws left_draws old new answer
  way_kept kept later answer r = record {
    enough = r.enough;
    rest = r.rest;
    derives = r.derives;
    means = sealing_kept old new.left new.read_faults told new.got faults new.write_faults kept later k aad salt prefix answer r.means;
  }

  way_cut : OnlyGrows old.got new.got → IsCutShort told new.got → Rose old.write_faults new.write_faults → (answer : Result Report TinkError) → IsUnderWay k aad draws left_draws old sealed_mid answer
      → IsUnderWay k aad draws left_draws old new (Err (record { kind = WriteFault }))
  way_cut grows short rose answer r = record {
    enough = r.enough;
    rest = r.rest;
    derives = r.derives;
    means = sealing_cut old new.left new.read_faults told new.got faults new.write_faults grows short rose k aad salt prefix answer r.means;
  }

  -- an early refusal left all as it is
  same_end : (P : Outside → Type 0) → (told ≡ new.got) × (faults ≡ new.write_faults) → P sealed_mid → P new
  same_end P e m = subst (λ f. P (record new { write_faults = f })) e.1 (subst (λ t. P (record new { got = t; write_faults = faults })) e.0 m)

  seals_kept : Keeps told new.got → faults ≤ new.write_faults → (answer : Result Report TinkError) → (IsRefusedEarly answer → (told ≡ new.got) × (faults ≡ new.write_faults))
      → SealsUnder k aad draws left_draws old sealed_mid answer → SealsUnder k aad draws left_draws old new answer
  seals_kept kept later (Ok report) early r = way_kept kept later (Ok report) r
  seals_kept kept later (Err e) early r = go e.kind early r
    where
      go : (kind : Kind) → (IsEarly kind → (told ≡ new.got) × (faults ≡ new.write_faults)) → SealsUnderRefused k aad draws left_draws old sealed_mid e kind → SealsUnderRefused k aad draws left_draws old new e kind
      go OutOfMemory early r = same_end (WantsMemory draws left_draws old) (early tt) r
      go RandomFault early r = same_end (HasFew k draws left_draws old) (early tt) r
      go UnsupportedHash early r = same_end (HasNoKeys k aad draws left_draws old) (early tt) r
      go ReadFault early r = way_kept kept later (Err e) r
      go WriteFault early r = way_kept kept later (Err e) r
      go TooManySegments early r = way_kept kept later (Err e) r
      go _ early r = r

  seals_cut : OnlyGrows old.got new.got → IsCutShort told new.got → Rose old.write_faults new.write_faults → (answer : Result Report TinkError) → (IsRefusedEarly answer → ⊥)
      → SealsUnder k aad draws left_draws old sealed_mid answer → SealsUnder k aad draws left_draws old new (Err (record { kind = WriteFault }))
  seals_cut grows short rose (Ok report) early r = way_cut grows short rose (Ok report) r
  seals_cut grows short rose (Err e) early r = go e.kind early r
    where
      go : (kind : Kind) → (IsEarly kind → ⊥) → SealsUnderRefused k aad draws left_draws old sealed_mid e kind → SealsUnder k aad draws left_draws old new (Err (record { kind = WriteFault }))
      go OutOfMemory early r = absurd (early tt)
      go RandomFault early r = absurd (early tt)
      go UnsupportedHash early r = absurd (early tt)
      go ReadFault early r = way_cut grows short rose (Err e) r
      go WriteFault early r = way_cut grows short rose (Err e) r
      go TooManySegments early r = way_cut grows short rose (Err e) r
      go _ early r = absurd r

-- the answer that was given in the end is no early one where it is a fault of the sink
pub not_early : (answer ended : Result Report TinkError) (P Q : Type 0) → (IsRefusedEarly answer → (ended ≡ answer) × P × Q) → ended ≡ Err (record { kind = WriteFault }) → IsRefusedEarly answer → ⊥
not_early answer ended P Q early is refused = subst IsRefusedEarly (sym (early refused).0 ∙ is) refused

-- a seal to a sink that gathers is one to the sink behind it
pub seals_ended : (k : StreamKey) (aad draws left_draws : List ℕ) (old new : Outside) (ended : Result Report TinkError) → EndsAs (SealsUnder k aad draws left_draws old) old new ended → SealsUnder k aad draws left_draws old new ended
seals_ended k aad draws left_draws old new ended r = go r.ends
  where
    go : IsEndedBy r.told new.got r.faults new.write_faults r.answer ended → SealsUnder k aad draws left_draws old new ended
    go (inl w) = subst (SealsUnder k aad draws left_draws old new) (sym w.is) (seals_kept k aad draws left_draws old new r.told r.faults w.kept r.later r.answer (λ e. ((r.early e).1, (r.early e).2)) r.meant)
    go (inr w) =
        let rose = failed_once old.write_faults r.faults new.write_faults r.answer (λ is. (subst (SealsUnder k aad draws left_draws old (record new { got = r.told; write_faults = r.faults })) is r.meant).means.rose) r.earlier r.later w.cause in
        subst (SealsUnder k aad draws left_draws old new) (sym w.is)
        (seals_cut k aad draws left_draws old new r.told r.faults r.grows w.short rose r.answer (λ e. absurd (not_early r.answer ended (r.told ≡ new.got) (r.faults ≡ new.write_faults) r.early w.is e)) r.meant)

module _ (keys : List OpeningKey) (old new : Outside) (told : Option (List ℕ)) (faults : ℕ) where
  abbrev opened_mid : Outside
  opened_mid = record new { got = told; write_faults = faults }

  opens_kept : Keeps told new.got → faults ≤ new.write_faults → (answer : Result Report TinkError) → (IsRefusedEarly answer → (told ≡ new.got) × (faults ≡ new.write_faults)) → OpensUnder keys old opened_mid answer → OpensUnder keys old new answer
  opens_kept kept later (Ok report) early r = opening_kept old new.left new.read_faults told new.got faults new.write_faults kept later keys (Ok report) r
  opens_kept kept later (Err e) early r = go e.kind early r
    where
      go : (kind : Kind) → (IsEarly kind → (told ≡ new.got) × (faults ≡ new.write_faults)) → OpensUnderRefused keys old opened_mid kind → OpensUnderRefused keys old new kind
      go OutOfMemory early r = subst (λ f. (record new { write_faults = f }) ≡ old) (early tt).1 (subst (λ t. (record new { got = t; write_faults = faults }) ≡ old) (early tt).0 r)
      go kind early r = opening_refused_kept old new.left new.read_faults told new.got faults new.write_faults kept later keys kind r

  opens_cut : OnlyGrows old.got new.got → IsCutShort told new.got → Rose old.write_faults new.write_faults → ((S : List ℕ) (k : OpeningKey) → IsChosen keys S (Some k) → Lawful k)
      → (answer : Result Report TinkError) → (IsRefusedEarly answer → ⊥) → OpensUnder keys old opened_mid answer → OpeningRefused keys old new WriteFault
  opens_cut grows short rose lawful (Ok report) early r = opening_cut old new.left new.read_faults told new.got faults new.write_faults grows short rose keys lawful (Ok report) r
  opens_cut grows short rose lawful (Err e) early r = go e.kind early r
    where
      go : (kind : Kind) → (IsEarly kind → ⊥) → OpensUnderRefused keys old opened_mid kind → OpeningRefused keys old new WriteFault
      go OutOfMemory early r = absurd (early tt)
      go kind early r = opening_refused_cut old new.left new.read_faults told new.got faults new.write_faults grows short rose keys kind r

-- an open to a sink that gathers is one to the sink behind it
pub opens_ended : (keys : List OpeningKey) → ((S : List ℕ) (k : OpeningKey) → IsChosen keys S (Some k) → Lawful k) → (old new : Outside) (ended : Result Report TinkError) → EndsAs (OpensUnder keys old) old new ended → OpensUnder keys old new ended
opens_ended keys lawful old new ended r = go r.ends
  where
    go : IsEndedBy r.told new.got r.faults new.write_faults r.answer ended → OpensUnder keys old new ended
    go (inl w) = subst (OpensUnder keys old new) (sym w.is) (opens_kept keys old new r.told r.faults w.kept r.later r.answer (λ e. ((r.early e).1, (r.early e).2)) r.meant)
    go (inr w) =
        let rose = failed_once old.write_faults r.faults new.write_faults r.answer (λ is. (subst (OpensUnder keys old (record new { got = r.told; write_faults = r.faults })) is r.meant).1) r.earlier r.later w.cause in
        subst (OpensUnder keys old new) (sym w.is)
        (opens_cut keys old new r.told r.faults r.grows w.short rose lawful r.answer (λ e. absurd (not_early r.answer ended (r.told ≡ new.got) (r.faults ≡ new.write_faults) r.early w.is e)) r.meant)

-- ---- the ends themselves

pub ok_is_no_err : (r : Result (Unit {0}) TinkError) (e : TinkError) → r ≡ Err e → r ≡ Ok tt → ⊥
ok_is_no_err r e refused done = cc

-- an early refusal over a sink that gathers, for which nothing waited
pub early_ends : {S G K : Type 0} (got : K → Option (List ℕ)) (faults : K → ℕ) (behind : G → K) (waits : G → List ℕ) (answer ended : Result Report TinkError) (s t : S) (i j : G) (k : K) → waits i ≡ [] → LeavesEnds answer s t i j
    → (waits j ≡ [] → (ended ≡ answer) × (k ≡ behind j)) → IsRefusedEarly answer → (ended ≡ answer) × (append_known (got (behind j)) (waits j) ≡ got k) × (faults (behind j) ≡ faults k)
early_ends got faults behind waits (Ok report) ended s t i j k empty leaves still early = absurd early
early_ends got faults behind waits (Err e) ended s t i j k empty leaves still early =
    let none : waits j ≡ [] = ap waits (leaves early).1 ∙ empty in
    let end = still none in
    (end.0, nothing_waits (got (behind j)) (waits j) none ∙ ap got (sym end.1), ap faults (sym end.1))

pub leaves_ended : {S G K : Type 0} (behind : G → K) (waits : G → List ℕ) (told got : Option (List ℕ)) (before now : ℕ) (answer ended : Result Report TinkError) (s t : S) (i j : G) (k l : K) → k ≡ behind i → waits i ≡ [] → LeavesEnds answer s t i j
    → (waits j ≡ [] → (ended ≡ answer) × (l ≡ behind j)) → IsEndedBy told got before now answer ended → LeavesEnds ended s t k l
leaves_ended behind waits told got before now (Ok report) ended s t i j k l is empty leaves still (inl w) = subst (λ a. LeavesEnds a s t k l) (sym w.is) tt
leaves_ended behind waits told got before now (Err e) ended s t i j k l is empty leaves still (inl w) = subst (λ a. LeavesEnds a s t k l) (sym w.is) (λ early.
    let same = leaves early in
    (same.0, (still (ap waits same.1 ∙ empty)).1 ∙ ap behind same.1 ∙ sym is))
leaves_ended behind waits told got before now answer ended s t i j k l is empty leaves still (inr w) = subst (λ a. LeavesEnds a s t k l) (sym w.is) (λ early. absurd early)

pub leaves_sink_ended : {G K : Type 0} (behind : G → K) (waits : G → List ℕ) (told got : Option (List ℕ)) (before now : ℕ) (answer ended : Result Report TinkError) (i j : G) (k l : K) → k ≡ behind i → waits i ≡ [] → LeavesSinkItself answer i j
    → (waits j ≡ [] → (ended ≡ answer) × (l ≡ behind j)) → IsEndedBy told got before now answer ended → LeavesSinkItself ended k l
leaves_sink_ended behind waits told got before now (Ok report) ended i j k l is empty leaves still (inl w) = subst (λ a. LeavesSinkItself a k l) (sym w.is) tt
leaves_sink_ended behind waits told got before now (Err e) ended i j k l is empty leaves still (inl w) = subst (λ a. LeavesSinkItself a k l) (sym w.is) (λ early.
    let same = leaves early in
    (still (ap waits same ∙ empty)).1 ∙ ap behind same ∙ sym is)
leaves_sink_ended behind waits told got before now answer ended i j k l is empty leaves still (inr w) = subst (λ a. LeavesSinkItself a k l) (sym w.is) (λ early. absurd early)

abbrev moment : Option (List ℕ) → ℕ → Option (List ℕ) → ℕ → Outside
moment left reads got faults = record { left = left; read_faults = reads; got = got; write_faults = faults }

-- the moment in which nothing waited for the sink behind
pub begins_as : {K : Type 0} (got : K → Option (List ℕ)) (faults : K → ℕ) (left : Option (List ℕ)) (reads : ℕ) (k l : K) (waits : List ℕ) → k ≡ l → waits ≡ []
    → moment left reads (append_known (got k) waits) (faults k) ≡ moment left reads (got l) (faults l)
begins_as got faults left reads k l waits same none =
    ap (λ g. moment left reads g (faults k)) (nothing_waits (got k) waits none) ∙ ap (λ j. moment left reads (got j) (faults j)) same

-- what was answered over a sink that gathers, for which nothing waited, and how it ended
pub ends_as : (means : Outside → Outside → Result Report TinkError → Type 0) (first old : Outside) (left : Option (List ℕ)) (reads : ℕ) (known told got : Option (List ℕ)) (before now : ℕ) (answer ended : Result Report TinkError)
    → first ≡ old → means first (record { left = left; read_faults = reads; got = told; write_faults = before }) answer
    → IsEndedBy told got before now answer ended → OnlyGrows old.got known → OnlyGrows known got → old.write_faults ≤ before → before ≤ now
    → (IsRefusedEarly answer → (ended ≡ answer) × (told ≡ got) × (before ≡ now))
    → EndsAs (means old) old (record { left = left; read_faults = reads; got = got; write_faults = now }) ended
ends_as means first old left reads known told got before now answer ended is meant ends begins goes_on earlier later early = record {
  told = told;
  faults = before;
  answer = answer;
  meant = subst (λ m. means m (record { left = left; read_faults = reads; got = told; write_faults = before }) answer) is meant;
  ends = ends;
  grows = grows_then old.got known got begins goes_on;
  earlier = earlier;
  later = later;
  early = early;
}

-- what is said of each moment and answer is said of the end
pub ends_mapped : (P Q : Outside → Result Report TinkError → Type 0) (old new : Outside) (ended : Result Report TinkError) → ((m : Outside) (a : Result Report TinkError) → P m a → Q m a) → EndsAs P old new ended → EndsAs Q old new ended
ends_mapped P Q old new ended f r = record {
  told = r.told;
  faults = r.faults;
  answer = r.answer;
  meant = f (record new { got = r.told; write_faults = r.faults }) r.answer r.meant;
  ends = r.ends;
  grows = r.grows;
  earlier = r.earlier;
  later = r.later;
  early = r.early;
}
