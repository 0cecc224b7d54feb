-- From what a rewrap answered over a sink that gathers to what it answers over the sink behind it.
use Rattle.std.proofs.Common.{◌≡◌, ◌⊎◌, inl, inr, ◌≤◌, ℕ, List, [], length, sym, ap, subst, ◌∙◌, Some, None, IfSome}
use Rattle.std.specs.declared.option.Option.{Option}
use Rattle.std.specs.Prelude.{Result, Ok, Err, IfErr}
use Rattle.std.specs.Io.KnownBytes.{Appends, Keeps, append_known}
use Rattle.std.proofs.KnownBytes.{Appends-kept, Keeps-refl, Keeps-trans}
use Rattle.tink_io.specs.Faults.{Rose}
use Rattle.tink_io.specs.Written.{AppendsPrefix}
use Rattle.tink_io.specs.declared.error.Kind.{Kind}
use Rattle.tink_io.specs.declared.error.Kind.TheVariants.{OutOfMemory, ReadFault, WriteFault, RandomFault, UnsupportedHash, TooManySegments, NoMatchingKey, BadSegment, Truncated}
use Rattle.tink_io.specs.declared.error.TinkError.{TinkError}
use Rattle.stream_model.specs.Key.{StreamKey}
use Rattle.stream_model.specs.Opening.{OpeningKey, IsChosen}
use Rattle.stream_model.specs.Sealing.{nonce_prefix_of, salt_of}
use Rattle.tink_io.specs.Gathering.{IsCutShort, OnlyGrows}
use Rattle.tink_io.proofs.GatheringLemmas.{grows_then}
use Rattle.tink_run.specs.declared.report.Report.{Report}
use Rattle.tink_run.specs.Endings.{EndsAs, IsEndedBy, IsRefusedEarly}
use Rattle.tink_run.specs.OpenAnswers.{IsOfChosen}
use Rattle.tink_run.specs.OpenReads.{room_under}
use Rattle.tink_io.specs.Outside.{Outside}
use Rattle.tink_run.specs.Run.{IsEarly}
use Rattle.tink_run.specs.SealAnswers.{WantsMemory}
use Rattle.tink_run.specs.SealSteps.{HasFew, HasNoKeys}
use Rattle.tink_run.proofs.EndingSteps.{cut_prefix, failed_once, kept_after, longest_prefix, not_early, nothing_waits}
use Rattle.tink_run.proofs.OpenLemmas.{kept_prefix, whole_prefix}
use Rattle.tink_rewrap.specs.Passing.{BreaksAtEnd, LeadsUnder, NewBytes, OpensWithin, PassRefused, StopsBy, bytes_under, into}
use Rattle.tink_rewrap.specs.Rewrapping.{HasKey, IsPassing, LeavesOrBegins, PassesUnder, RewrapEnds, RewrapsUnder, RewrapsUnderRefused}
use Rattle.tink_rewrap.proofs.OpenedLater.{StaysOpened}

-- by a refusal under these keys
abbrev RefusesUnder : List OpeningKey → NewBytes → Outside → Outside → Kind → Type 0
RefusesUnder keys b old new kind = PassRefused (OpensWithin (room_under keys) keys) (LeadsUnder (room_under keys) keys) (HasKey keys) b old new kind

abbrev StopsUnder : List OpeningKey → NewBytes → Outside → Outside → Kind → Type 0
StopsUnder keys b old new kind = StopsBy (OpensWithin (room_under keys) keys) (LeadsUnder (room_under keys) keys) (HasKey keys) b old new kind

abbrev BreaksUnder : List OpeningKey → NewBytes → Outside → Outside → List ℕ → Type 0
BreaksUnder keys b old new text = BreaksAtEnd (OpensWithin (room_under keys) keys) (LeadsUnder (room_under keys) keys) (HasKey keys) b old new text

-- From the keys `ks`, over the sink that gathers, to `js`, over the one behind it: the first told `told` and had failed `faults`
-- times.
module _ (ks js : List OpeningKey) (k : StreamKey) (aad draws left_draws : List ℕ) (old new : Outside) (told : Option (List ℕ)) (faults : ℕ) (stays : StaysOpened ks js old (record new { got = told; write_faults = faults }) new) where
  abbrev first_end : Outside
  first_end = record new { got = told; write_faults = faults }

  abbrev made : NewBytes
  made = bytes_under k aad draws

  -- ---- all was handed on
  module _ (kept : Keeps told new.got) where
    all_of : (bs : List ℕ) → Appends old.got told bs → Appends old.got new.got bs
    all_of bs w = Appends-kept old.got told new.got bs w kept

    front_of : (bs : List ℕ) → AppendsPrefix old.got told bs → AppendsPrefix old.got new.got bs
    front_of bs w = kept_after old.got told new.got bs kept w

    stops_kept : (kind : Kind) → StopsUnder ks made old first_end kind → StopsUnder js made old new kind
    stops_kept kind r = record { text = r.text; opened = stays.kept r.text (Err (record { kind = kind })) r.opened; few = r.few; written = all_of (made.part r.text) r.written }

    end_kept : (text : List ℕ) → BreaksUnder ks made old first_end text → BreaksUnder js made old new text
    end_kept text r = record { accepted = r.accepted; opened = stays.kept text (Ok (record { segments = r.accepted; bytes = length text })) r.opened; written = front_of (made.whole text) r.written }

    refused_kept : (kind : Kind) → RefusesUnder ks made old first_end kind → RefusesUnder js made old new kind
    refused_kept NoMatchingKey r = record { opened = stays.kept [] (Err (record { kind = NoMatchingKey })) r.opened; written = Keeps-trans old.got told new.got r.written kept }
    refused_kept TooManySegments (inl r) = inl (record { text = r.text; opened = stays.led r.text r.opened; many = r.many; written = all_of (made.longest r.text) r.written })
    refused_kept TooManySegments (inr r) = inr (stops_kept TooManySegments r)
    refused_kept (Truncated n) r = stops_kept (Truncated n) r
    refused_kept (BadSegment n) r = stops_kept (BadSegment n) r
    refused_kept ReadFault r = record {
      text = r.text;
      opened = stays.kept r.text (Err (record { kind = ReadFault })) r.opened;
      written = elim r.written [ inl w ↦ inl (w.0, Keeps-trans old.got told new.got w.1 kept) | inr w ↦ inr (stays.begun w.0, all_of (made.part r.text) w.1) ];
    }
    refused_kept WriteFault r = record {
      text = r.text;
      begun = stays.begun r.begun;
      opened = stays.kept r.text (Err (record { kind = WriteFault })) r.opened;
      written = elim r.written [ inl w ↦ inl (front_of (made.part r.text) w) | inr w ↦ inr (end_kept r.text w) ];
    }
    refused_kept _ r = absurd r

    pass_kept : (answer : Result Report TinkError) → PassesUnder ks made old first_end answer → PassesUnder js made old new answer
    pass_kept (Ok report) r = record {
      text = r.text;
      accepted = r.accepted;
      opened = stays.kept r.text (Ok (record { segments = r.accepted; bytes = length r.text })) r.opened;
      few = r.few;
      written = all_of (made.whole r.text) r.written;
      segments = r.segments;
      bytes = r.bytes;
    }
    pass_kept (Err e) r = refused_kept e.kind r

    way_kept : (answer : Result Report TinkError) → IsPassing ks k aad draws left_draws old first_end answer → IsPassing js k aad draws left_draws old new answer
    way_kept answer r = record { enough = r.enough; rest = r.rest; derives = r.derives; means = pass_kept answer r.means }

    rewraps_kept : (answer : Result Report TinkError) → (IsRefusedEarly answer → (told ≡ new.got) × (faults ≡ new.write_faults)) → RewrapsUnder ks k aad draws left_draws old first_end answer → RewrapsUnder js k aad draws left_draws old new answer
    rewraps_kept (Ok report) early r = way_kept (Ok report) r
    rewraps_kept (Err e) early r = go e.kind early r
      where
        same_end : (P : Outside → Type 0) → (told ≡ new.got) × (faults ≡ new.write_faults) → P first_end → P new
        same_end P e m = subst (λ f. P (record new { write_faults = f })) e.1 (subst (λ t. P (record new { got = t; write_faults = faults })) e.0 m)

        go : (kind : Kind) → (IsEarly kind → (told ≡ new.got) × (faults ≡ new.write_faults)) → RewrapsUnderRefused ks k aad draws left_draws old first_end e kind → RewrapsUnderRefused js k aad draws left_draws old new e kind
        go OutOfMemory early r = same_end (WantsMemory draws left_draws old) (early tt) r
        go RandomFault early r = same_end (HasFew k draws left_draws old) (early tt) r
        go UnsupportedHash early r = same_end (HasNoKeys k aad draws left_draws old) (early tt) r
        go NoMatchingKey early r = way_kept (Err e) r
        go TooManySegments early r = way_kept (Err e) r
        go (Truncated n) early r = way_kept (Err e) r
        go (BadSegment n) early r = way_kept (Err e) r
        go ReadFault early r = way_kept (Err e) r
        go WriteFault early r = way_kept (Err e) r
        go _ early r = absurd r

  -- ---- a part was handed on
  module _ (grows : OnlyGrows old.got new.got) (short : IsCutShort told new.got) (rose : Rose old.write_faults new.write_faults) where
    cut : (bs : List ℕ) → AppendsPrefix old.got told bs → AppendsPrefix old.got new.got bs
    cut bs w = cut_prefix old.got told new.got bs grows short w

    cut_whole : (bs : List ℕ) → Appends old.got told bs → AppendsPrefix old.got new.got bs
    cut_whole bs w = cut bs (whole_prefix old.got told bs w)

    -- a front of what was written before the last segment
    breaks : HasKey js old → (text : List ℕ) (answer : Result Report TinkError) → OpensWithin (room_under ks) ks (into [] old) (into text first_end) answer → AppendsPrefix old.got told (made.part text) → RefusesUnder js made old new WriteFault
    breaks begun text answer o w = record { text = text; begun = begun; opened = stays.cut rose text answer o; written = inl (cut (made.part text) w) }

    end_cut : (text : List ℕ) → BreaksUnder ks made old first_end text → BreaksUnder js made old new text
    end_cut text r = record { accepted = r.accepted; opened = stays.kept text (Ok (record { segments = r.accepted; bytes = length text })) r.opened; written = cut (made.whole text) r.written }

    -- a text leads as if an open of it had failed
    breaks_led : HasKey js old → (text : List ℕ) → LeadsUnder (room_under ks) ks (into [] old) (into text first_end) → AppendsPrefix old.got told (made.part text) → RefusesUnder js made old new WriteFault
    breaks_led begun text x w =
        let r = stays.led text x in
        record { text = text; begun = begun; opened = ((record { texts = r.texts; lead = r.lead; written = r.written }, rose), r); written = inl (cut (made.part text) w) }

    refused_cut : HasKey js old → (kind : Kind) → RefusesUnder ks made old first_end kind → RefusesUnder js made old new WriteFault
    refused_cut begun NoMatchingKey r = breaks begun [] (Err (record { kind = NoMatchingKey })) r.opened (kept_prefix old.got told (made.part []) r.written)
    refused_cut begun TooManySegments (inl r) = breaks_led begun r.text r.opened (longest_prefix k aad (salt_of k draws) (nonce_prefix_of k draws) r.text old.got told r.written)
    refused_cut begun TooManySegments (inr r) = breaks begun r.text (Err (record { kind = TooManySegments })) r.opened (whole_prefix old.got told (made.part r.text) r.written)
    refused_cut begun (Truncated n) r = breaks begun r.text (Err (record { kind = Truncated n })) r.opened (whole_prefix old.got told (made.part r.text) r.written)
    refused_cut begun (BadSegment n) r = breaks begun r.text (Err (record { kind = BadSegment n })) r.opened (whole_prefix old.got told (made.part r.text) r.written)
    refused_cut begun ReadFault r =
        breaks begun r.text (Err (record { kind = ReadFault })) r.opened (elim r.written [ inl w ↦ kept_prefix old.got told (made.part r.text) w.1 | inr w ↦ whole_prefix old.got told (made.part r.text) w.1 ])
    refused_cut begun WriteFault r = record {
      text = r.text;
      begun = begun;
      opened = stays.kept r.text (Err (record { kind = WriteFault })) r.opened;
      written = elim r.written [ inl w ↦ inl (cut (made.part r.text) w) | inr w ↦ inr (end_cut r.text w) ];
    }
    refused_cut begun _ r = absurd r

    -- a stream that opens is one of a key
    has_key : (texts : List (List ℕ)) (left : Option (List ℕ)) → IfSome left (λ S. IsOfChosen ks S texts) → IfSome left (λ S. (key : OpeningKey) × IsChosen ks S (Some key))
    has_key texts None s = tt
    has_key texts (Some S) s = (s.key, s.chosen)

    pass_cut : (answer : Result Report TinkError) → IfErr answer (λ e. HasKey ks old) → PassesUnder ks made old first_end answer → RefusesUnder js made old new WriteFault
    pass_cut (Ok report) begun r = record {
      text = r.text;
      begun = stays.begun (has_key r.opened.0.texts old.left r.opened.0.stream);
      opened = stays.cut rose r.text (Ok (record { segments = r.accepted; bytes = length r.text })) r.opened;
      written = inr (record {
        accepted = r.accepted;
        opened = stays.kept r.text (Ok (record { segments = r.accepted; bytes = length r.text })) r.opened;
        written = cut_whole (made.whole r.text) r.written;
      });
    }
    pass_cut (Err e) begun r = refused_cut (stays.begun begun) e.kind r

    way_cut : (answer : Result Report TinkError) → IfErr answer (λ e. HasKey ks old) → IsPassing ks k aad draws left_draws old first_end answer → IsPassing js k aad draws left_draws old new (Err (record { kind = WriteFault }))
    way_cut answer begun r = record { enough = r.enough; rest = r.rest; derives = r.derives; means = pass_cut answer begun r.means }

    rewraps_cut : (answer : Result Report TinkError) → (IsRefusedEarly answer → ⊥) → IfErr answer (λ e. HasKey ks old) → RewrapsUnder ks k aad draws left_draws old first_end answer → IsPassing js k aad draws left_draws old new (Err (record { kind = WriteFault }))
    rewraps_cut (Ok report) early begun r = way_cut (Ok report) begun r
    rewraps_cut (Err e) early begun r = go e.kind early r
      where
        go : (kind : Kind) → (IsEarly kind → ⊥) → RewrapsUnderRefused ks k aad draws left_draws old first_end e kind → IsPassing js k aad draws left_draws old new (Err (record { kind = WriteFault }))
        go OutOfMemory early r = absurd (early tt)
        go RandomFault early r = absurd (early tt)
        go UnsupportedHash early r = absurd (early tt)
        go NoMatchingKey early r = way_cut (Err e) begun r
        go TooManySegments early r = way_cut (Err e) begun r
        go (Truncated n) early r = way_cut (Err e) begun r
        go (BadSegment n) early r = way_cut (Err e) begun r
        go ReadFault early r = way_cut (Err e) begun r
        go WriteFault early r = way_cut (Err e) begun r
        go _ early r = absurd r

-- a rewrap to a sink that gathers is one to the sink behind it, also under other keys of which an open says the same
pub rewraps_ended : (ks js : List OpeningKey) (k : StreamKey) (aad draws left_draws : List ℕ) (old new : Outside) (ended : Result Report TinkError)
    → ((told : Option (List ℕ)) (faults : ℕ) → old.write_faults ≤ faults → faults ≤ new.write_faults → StaysOpened ks js old (record new { got = told; write_faults = faults }) new)
    → RewrapEnds ks k aad draws left_draws old new ended → RewrapsUnder js k aad draws left_draws old new ended
rewraps_ended ks js k aad draws left_draws old new ended stay x = go r.ends
  where
    r : EndsAs (RewrapsUnder ks k aad draws left_draws old) old new ended
    r = x.ends

    stays : StaysOpened ks js old (record new { got = r.told; write_faults = r.faults }) new
    stays = stay r.told r.faults r.earlier r.later

    all_kept : (answer : Result Report TinkError) → ended ≡ answer → Keeps r.told new.got → (IsRefusedEarly answer → (r.told ≡ new.got) × (r.faults ≡ new.write_faults))
        → RewrapsUnder ks k aad draws left_draws old (record new { got = r.told; write_faults = r.faults }) answer → RewrapsUnder js k aad draws left_draws old new ended
    all_kept answer is kept early m = subst (RewrapsUnder js k aad draws left_draws old new) (sym is) (rewraps_kept ks js k aad draws left_draws old new r.told r.faults stays kept answer early m)

    cut_off : IsCutShort r.told new.got → Rose old.write_faults new.write_faults → ended ≡ Err (record { kind = WriteFault })
        → (answer : Result Report TinkError) → (IsRefusedEarly answer → (ended ≡ answer) × (r.told ≡ new.got) × (r.faults ≡ new.write_faults))
        → IfErr answer (λ e. ((ended ≡ answer) × (r.told ≡ new.got) × (r.faults ≡ new.write_faults)) ⊎ HasKey ks old)
        → RewrapsUnder ks k aad draws left_draws old (record new { got = r.told; write_faults = r.faults }) answer → RewrapsUnder js k aad draws left_draws old new ended
    cut_off short rose is (Ok report) early begun m =
        subst (RewrapsUnder js k aad draws left_draws old new) (sym is) (rewraps_cut ks js k aad draws left_draws old new r.told r.faults stays r.grows short rose (Ok report) (λ e. e) tt m)
    -- nothing was to be handed on
    cut_off short rose is (Err e) early (inl same) m = all_kept (Err e) same.0 (subst (Keeps r.told) same.1 (Keeps-refl r.told)) (λ _. (same.1, same.2)) m
    cut_off short rose is (Err e) early (inr has) m =
        subst (RewrapsUnder js k aad draws left_draws old new) (sym is)
        (rewraps_cut ks js k aad draws left_draws old new r.told r.faults stays r.grows short rose (Err e) (not_early (Err e) ended (r.told ≡ new.got) (r.faults ≡ new.write_faults) early is) has m)

    go : IsEndedBy r.told new.got r.faults new.write_faults r.answer ended → RewrapsUnder js k aad draws left_draws old new ended
    go (inl w) = all_kept r.answer w.is w.kept (λ e. ((r.early e).1, (r.early e).2)) r.meant
    go (inr w) =
        let rose = failed_once old.write_faults r.faults new.write_faults r.answer
        (λ is. (subst (RewrapsUnder ks k aad draws left_draws old (record new { got = r.told; write_faults = r.faults })) is r.meant).means.opened.0.1) r.earlier r.later w.cause
        in
        cut_off w.short rose w.is r.answer r.early x.begun r.meant

-- by a refusal over a sink that gathers a key was chosen, or nothing was to be handed on
pub begun_ends : {G K : Type 0} (got : K → Option (List ℕ)) (faults : K → ℕ) (behind : G → K) (waits : G → List ℕ) (keys : List OpeningKey) (first old : Outside) (answer ended : Result Report TinkError) (i j : G) (k : K) → first.left ≡ old.left → waits i ≡ []
    → LeavesOrBegins keys first answer i j → (waits j ≡ [] → (ended ≡ answer) × (k ≡ behind j))
    → IfErr answer (λ e. ((ended ≡ answer) × (append_known (got (behind j)) (waits j) ≡ got k) × (faults (behind j) ≡ faults k)) ⊎ HasKey keys old)
begun_ends got faults behind waits keys first old (Ok report) ended i j k same empty begun still = tt
begun_ends got faults behind waits keys first old (Err e) ended i j k same empty (inl itself) still =
    let none : waits j ≡ [] = ap waits itself ∙ empty in
    let end = still none in
    inl (end.0, nothing_waits (got (behind j)) (waits j) none ∙ ap got (sym end.1), ap faults (sym end.1))
begun_ends got faults behind waits keys first old (Err e) ended i j k same empty (inr has) still = inr (subst (λ (left : Option (List ℕ)). IfSome left (λ S. (key : OpeningKey) × IsChosen keys S (Some key))) same has)

-- the key that was chosen, or the sink itself, whatever is answered
begins_chosen : {K : Type 0} (keys : List OpeningKey) (old : Outside) (answer : Result Report TinkError) (k l : K) → HasKey keys old → LeavesOrBegins keys old answer k l
begins_chosen keys old (Ok report) k l has = tt
begins_chosen keys old (Err e) k l has = inr has

left_itself : {K : Type 0} (keys : List OpeningKey) (old : Outside) (answer : Result Report TinkError) (k l : K) → l ≡ k → LeavesOrBegins keys old answer k l
left_itself keys old (Ok report) k l itself = tt
left_itself keys old (Err e) k l itself = inl itself

-- a stream that was moved is one of a key
moved_chosen : (keys : List OpeningKey) (texts : List (List ℕ)) (left : Option (List ℕ)) → IfSome left (λ S. IsOfChosen keys S texts) → IfSome left (λ S. (key : OpeningKey) × IsChosen keys S (Some key))
moved_chosen keys texts None s = tt
moved_chosen keys texts (Some S) s = (s.key, s.chosen)

-- so that of the sink behind it, too, a key was chosen, or it is itself as it was
pub begun_behind : {G K : Type 0} (behind : G → K) (waits : G → List ℕ) (keys : List OpeningKey) (k : StreamKey) (aad draws left_draws : List ℕ) (old mid : Outside) (answer ended : Result Report TinkError) (i j : G) (s t : K) → s ≡ behind i → waits i ≡ []
    → LeavesOrBegins keys old answer i j → RewrapsUnder keys k aad draws left_draws old mid answer → (waits j ≡ [] → (ended ≡ answer) × (t ≡ behind j)) → LeavesOrBegins keys old ended s t
begun_behind behind waits keys k aad draws left_draws old mid (Ok report) ended i j s t is empty begun meant still =
    begins_chosen keys old ended s t (moved_chosen keys meant.means.opened.0.texts old.left meant.means.opened.0.stream)
begun_behind behind waits keys k aad draws left_draws old mid (Err e) ended i j s t is empty (inl itself) meant still =
    left_itself keys old ended s t ((still (ap waits itself ∙ empty)).1 ∙ ap behind itself ∙ sym is)
begun_behind behind waits keys k aad draws left_draws old mid (Err e) ended i j s t is empty (inr has) meant still = begins_chosen keys old ended s t has

-- what was answered over a sink that gathers, for which nothing waited, and how it ended
pub rewrap_ends_as : (keys : List OpeningKey) (k : StreamKey) (aad draws left_draws : List ℕ) (first old : Outside) (left : Option (List ℕ)) (reads : ℕ) (known told got : Option (List ℕ)) (before now : ℕ) (answer ended : Result Report TinkError)
    → first ≡ old → RewrapsUnder keys k aad draws left_draws first (record { left = left; read_faults = reads; got = told; write_faults = before }) answer
    → IsEndedBy told got before now answer ended → OnlyGrows old.got known → OnlyGrows known got → old.write_faults ≤ before → before ≤ now
    → (IsRefusedEarly answer → (ended ≡ answer) × (told ≡ got) × (before ≡ now))
    → IfErr answer (λ e. ((ended ≡ answer) × (told ≡ got) × (before ≡ now)) ⊎ HasKey keys old)
    → RewrapEnds keys k aad draws left_draws old (record { left = left; read_faults = reads; got = got; write_faults = now }) ended
rewrap_ends_as keys k aad draws left_draws first old left reads known told got before now answer ended is meant ends begins goes_on earlier later early begun = record {
  ends = record {
    told = told;
    faults = before;
    answer = answer;
    meant = subst (λ m. RewrapsUnder keys k aad draws left_draws m (record { left = left; read_faults = reads; got = told; write_faults = before }) answer) is meant;
    ends = ends;
    grows = grows_then old.got known got begins goes_on;
    earlier = earlier;
    later = later;
    early = early;
  };
  begun = begun;
}
