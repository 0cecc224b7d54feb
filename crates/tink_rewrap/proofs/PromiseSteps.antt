-- From the table of a rewrap's answers to its promises.
use Rattle.std.proofs.Common.{◌≡◌, ◌∙◌, inl, inr, ◌≤◌, ◌<◌, ◌+◌, ◌-◌, ◌^◌, ℕ, zero, suc, Bool, List, [], ◌∷◌, ◌++◌, length, take, drop, refl, sym, ap, subst, arith, Some, None, IfSome, append_assoc}
use Rattle.std.proofs.KnownBytes.{Keeps-refl}
use Rattle.std.proofs.lemmas.List.{take-append-drop}
use Rattle.std.specs.declared.option.Option.{Option}
use Rattle.std.specs.Prelude.{Result, Ok, Err, IfOk}
use Rattle.std.specs.Io.KnownBytes.{Appends, Keeps}
use Rattle.tink_io.specs.Written.{AppendsPrefix}
use Rattle.tink_io.proofs.WrittenLemmas.{prefix_of_more}
use Rattle.tink_io.specs.declared.error.Kind.{Kind}
use Rattle.tink_io.specs.declared.error.Kind.TheVariants.{OutOfMemory, ReadFault, WriteFault, RandomFault, BadKeyset, InvalidKeyset, UnsupportedKeyType, InvalidKey, NoPrimary, WrongPrimitive, UnsupportedHash, TooManySegments, NoMatchingKey, BadSegment, Truncated}
use Rattle.tink_io.specs.declared.error.TinkError.{TinkError}
use Rattle.stream_model.specs.Agree.{joined}
use Rattle.stream_model.specs.Cut.{full_chunks, open_chunk, room_at, unmarked}
use Rattle.stream_model.specs.Key.{StreamKey, first_room, front, keys_of, room, segment_at}
use Rattle.stream_model.specs.Opening.{OpeningKey, AgreeBy, IsAgreed, IsChosen, IsStream, chunks_of, header_of}
use Rattle.stream_model.specs.Sealing.{chunk_count, longest_part, part, nonce_prefix_of, salt_of, stream, unmarked_under}
use Rattle.stream_model.proofs.CutFacts.{full_chunks-append, full_chunks_fits, unmarked-append}
use Rattle.stream_model.proofs.KeyFacts.{CanOpen as Lawful}
use Rattle.stream_model.proofs.OpeningFacts.{IsChosen-unique, leads_on}
use Rattle.stream_model.proofs.SealingFacts.{chunks_more, length-chunks}
use Rattle.loading_model.specs.Loading.{Loaded, opening_keys}
use Rattle.tink_run.specs.AllKeys.{load}
use Rattle.tink_run.specs.declared.report.Report.{Report}
use Rattle.tink_run.specs.OpenAnswers.{AgreesUntil, AreTextsBy, IsBroken, Lead, OpeningMeans, OpeningRefused}
use Rattle.tink_io.specs.Outside.{Outside, HasNoFault, IsUntouched, AreKnown}
use Rattle.tink_run.specs.Run.{IsOfAgreeing, IsWholeText}
use Rattle.tink_run.proofs.OpenLemmas.{chosen_lawful, kept_prefix, open_agreeing, open_succeeds, same_loaded, stream_agreeing, stream_agrees, stream_complete, whole_prefix}
use Rattle.tink_run.proofs.LoadedFacts.{loaded_usable}
use Rattle.tink_io.proofs.OutsideFacts.{told_appended, told_if}
use Rattle.tink_rewrap.specs.Passing.{bytes_under, into, PassMeans, PassRefused, StopsBy}
use Rattle.tink_rewrap.specs.Rewrapping.{HasKey, IsUnloaded, PassesUnder, RewrapMeans, RewrapRefused, RewrapsLoaded, RewrapsUnder, RewrapsUnderRefused, Sides}
use Rattle.tink_rewrap.specs.RewrapPromises.{CanRewrap, CompletesRewrap, IsUnended, IsWholeRewrap, LeavesUnended, MayEnd}
use Rattle.tink_rewrap.proofs.KeySteps.{means_alone}

-- ---- what is made of a longer text

module _ (k : StreamKey) (aad salt prefix : List ℕ) where
  unmarked_more : (o : Option (List ℕ)) (xs ys : List (List ℕ)) → (zs : List ℕ) × (unmarked_under k o prefix (xs ++ ys) ≡ unmarked_under k o prefix xs ++ zs)
  unmarked_more None xs ys = ([], refl)
  unmarked_more (Some keys) xs ys = (unmarked (segment_at k keys prefix) (0 + length xs) ys, unmarked-append (segment_at k keys prefix) 0 xs ys)

  -- more chunks behind some
  chunks_behind : (xs ys : List (List ℕ)) → (zs : List ℕ)
      × (front k salt prefix ++ unmarked_under k (keys_of k aad salt) prefix (xs ++ ys) ≡ (front k salt prefix ++ unmarked_under k (keys_of k aad salt) prefix xs) ++ zs)
  chunks_behind xs ys =
      let u = unmarked_more (keys_of k aad salt) xs ys in
      (u.0, ap (λ bs. front k salt prefix ++ bs) u.1 ∙ sym (append_assoc (front k salt prefix) (unmarked_under k (keys_of k aad salt) prefix xs) u.0))

  part_more : (R S : List ℕ) → 0 < first_room k → 0 < room k → (zs : List ℕ) × (part k aad salt prefix (R ++ S) ≡ part k aad salt prefix R ++ zs)
  unfolding part
  part_more R S p q =
      let a = first_room k in
      let b = room k in
      let more = chunks_behind (full_chunks a b R) (full_chunks (room_at a b (length (full_chunks a b R))) b (open_chunk a b R ++ S)) in
      (more.0, ap (λ cs. front k salt prefix ++ unmarked_under k (keys_of k aad salt) prefix cs) (full_chunks-append a b R S p q) ∙ more.1)

  -- the longest part begins the part
  longest_begins : (R : List ℕ) → (zs : List ℕ) × (part k aad salt prefix R ≡ longest_part k aad salt prefix R ++ zs)
  unfolding part longest_part
  longest_begins R =
      let all = full_chunks (first_room k) (room k) R in
      let more = chunks_behind (take (2 ^ 32 - 1) all) (drop (2 ^ 32 - 1) all) in
      (more.0, ap (λ cs. front k salt prefix ++ unmarked_under k (keys_of k aad salt) prefix cs) (sym (take-append-drop (2 ^ 32 - 1) all)) ∙ more.1)

  longest_prefix : (R : List ℕ) (a b : Option (List ℕ)) → Appends a b (longest_part k aad salt prefix R) → AppendsPrefix a b (part k aad salt prefix R)
  longest_prefix R a b w =
      let more = longest_begins R in
      subst (AppendsPrefix a b) (sym more.1) (prefix_of_more a b (longest_part k aad salt prefix R) more.0 (whole_prefix a b (longest_part k aad salt prefix R) w))

  -- a prefix of the part of a prefix of a text
  part_prefix : (n : ℕ) (R J : List ℕ) (a b : Option (List ℕ)) → 0 < first_room k → 0 < room k → R ≡ take n J → AppendsPrefix a b (part k aad salt prefix R) → AppendsPrefix a b (part k aad salt prefix J)
  part_prefix n R J a b p q e w =
      let whole : J ≡ R ++ drop n J = sym (take-append-drop n J) ∙ ap (λ xs. xs ++ drop n J) (sym e) in
      let more = part_more R (drop n J) p q in
      subst (AppendsPrefix a b) (sym (ap (part k aad salt prefix) whole ∙ more.1)) (prefix_of_more a b (part k aad salt prefix R) more.0 w)

-- a prefix of a text has no more chunks
count_prefix : (k : StreamKey) (n : ℕ) (R J : List ℕ) → 0 < first_room k → 0 < room k → R ≡ take n J → chunk_count k R ≤ chunk_count k J
count_prefix k n R J p q e =
    let whole : J ≡ R ++ drop n J = sym (take-append-drop n J) ∙ ap (λ xs. xs ++ drop n J) (sym e) in
    omega (arith, chunks_more (first_room k) (room k) R (drop n J) p q, ap (chunk_count k) whole)

-- ---- what was opened

-- the texts of a stream are all that agree
stream_is_agreed : (k : OpeningKey) (S : List ℕ) (ts : List (List ℕ)) → Lawful k → IsStream k S ts → IsAgreed k S ts
stream_is_agreed k S ts law s = let w = stream_agrees k S ts law s in go (k.seg (header_of k S)) w.0 w.1
  where
    go : (o : Option (ℕ → Bool → List ℕ → List ℕ)) → AreTextsBy o (chunks_of k S) ts → length (chunks_of k S) ≡ length ts → AgreeBy o (chunks_of k S) ts
    go None p e = absurd p
    go (Some seg) p e = record {
      are = p;
      longest = λ others q. omega (arith, e, (leads_on seg 0 (chunks_of k S) others q).2);
    }

-- known bytes, and a keyset that loads
module _ (keyset aad S G : List ℕ) (l : Loaded) (old new : Outside) (told : AreKnown old S G) (loads : load keyset ≡ Ok l) where
  told_in : AreKnown (into [] old) S []
  told_in = record { left = told.left; got = refl }

  -- the whole text
  whole_text : (text : List ℕ) (accepted : ℕ) → OpeningMeans (opening_keys aad l) (into [] old) (into text new) (Ok (record { segments = accepted; bytes = length text }))
      → IsWholeText keyset aad S [] (into text new) (record { segments = accepted; bytes = length text })
  whole_text text accepted o = open_succeeds keyset aad S [] (into [] old) (into text new) (record { segments = accepted; bytes = length text }) (record { loaded = l; loads = loads; means = o }) told_in

  -- a text that went on begins the texts that agree
  agreeing : (text : List ℕ) (answer : Result Report TinkError) → OpeningMeans (opening_keys aad l) (into [] old) (into text new) answer → IsOfAgreeing keyset aad S (into [] old) (into text new)
  agreeing text (Ok report) o = open_agreeing keyset aad [] [] S [] (into [] old) (into text new) (Ok report) told_in (record { loaded = l; loads = loads; means = o })
  agreeing text (Err e) o = stream_agreeing keyset aad S [] l (into [] old) (into text new) e.kind loads told_in o

  broken_agreeing : (text : List ℕ) (key : OpeningKey) (texts : List (List ℕ)) → IsBroken (opening_keys aad l) (into [] old) (into text new) → IsChosen (opening_keys aad l) S (Some key) → IsAgreed key S texts
      → AppendsPrefix (Some []) (Some text) (joined texts)
  broken_agreeing text key texts b chosen agreed =
      let before : Outside = record { left = old.left; read_faults = 0; got = Some []; write_faults = 0 } in
      let after : Outside = record { left = new.left; read_faults = 0; got = Some text; write_faults = 1 } in
      (stream_agreeing keyset aad S [] l before after WriteFault loads (record { left = told.left; got = refl })
      (record { texts = b.texts; lead = b.lead; written = b.written }, omega arith)).under_a_key l key texts loads chosen agreed

untouched_keeps : (old new : Outside) → IsUntouched old new → Keeps old.got new.got
untouched_keeps old new u = subst (λ (m : Outside). Keeps old.got m.got) (sym u) (Keeps-refl old.got)

-- a success, over known bytes
rewrapped : (s : Sides) (draws left_draws S G : List ℕ) (old new : Outside) (report : Report) → RewrapMeans s draws left_draws old new (Ok report) → AreKnown old S G → IsWholeRewrap s draws left_draws S G new report
rewrapped s draws left_draws S G old new report r t =
    let x = r.means.means in
    let w = whole_text s.from s.from_aad S G r.from_loaded old new t r.from_loads x.text x.accepted x.opened.0 in
    let k : StreamKey = r.to_loaded.primary in
    let text : x.text ≡ joined w.texts = text_is x.text (joined w.texts) w.written in
    record {
      from_loaded = w.loaded;
      from_loads = w.loads;
      to_loaded = r.to_loaded;
      to_loads = r.to_loads;
      key = w.key;
      chosen = w.chosen;
      texts = w.texts;
      written = told_appended old.got new.got G (stream k s.to_aad (salt_of k draws) (nonce_prefix_of k draws) (joined w.texts)) t.got
          (subst (λ (xs : List ℕ). Appends old.got new.got (stream k s.to_aad (salt_of k draws) (nonce_prefix_of k draws) xs)) text x.written);
      stream = w.stream;
      at_end = w.at_end;
      rest = r.means.rest;
      segments = x.segments ∙ ap (chunk_count k) text;
      bytes = x.bytes ∙ ap length text;
    }
  where
    text_is : (xs ys : List ℕ) → Some xs ≡ Some ([] ++ ys) → xs ≡ ys
    text_is xs ys e = cc

pub succeeds : (s : Sides) (draws left_draws : List ℕ) (old new : Outside) (answer : Result Report TinkError) → RewrapMeans s draws left_draws old new answer
    → IfOk answer (λ report. (S G : List ℕ) → AreKnown old S G → IsWholeRewrap s draws left_draws S G new report)
succeeds s draws left_draws old new (Ok report) r = λ S G t. rewrapped s draws left_draws S G old new report r t
succeeds s draws left_draws old new (Err e) r = tt

-- ---- no end where there is none

-- two keysets that load, and known bytes
module _ (s : Sides) (draws S G : List ℕ) (old new : Outside) (told : AreKnown old S G) (l m : Loaded) (from : load s.from ≡ Ok l) (to : load s.to ≡ Ok m) where
  abbrev keys : List OpeningKey
  keys = opening_keys s.from_aad l

  abbrev made : List ℕ → List ℕ
  made = part m.primary s.to_aad (salt_of m.primary draws) (nonce_prefix_of m.primary draws)

  abbrev Passes : Result Report TinkError → Type 0
  Passes answer = PassMeans (OpeningMeans keys) (IsBroken keys) (HasKey keys) (bytes_under m.primary s.to_aad draws) old new answer

  abbrev Refused : Kind → Type 0
  Refused kind = PassRefused (OpeningMeans keys) (IsBroken keys) (HasKey keys) (bytes_under m.primary s.to_aad draws) old new kind

  first_some : 0 < first_room m.primary
  first_some = let u = (loaded_usable s.to m to).1.usable in omega (arith, u.room)

  later_some : 0 < room m.primary
  later_some = let u = (loaded_usable s.to m to).1.usable in omega (arith, u.room)

  -- where a key is chosen
  module _ (key : OpeningKey) (texts : List (List ℕ)) (chosen : IsChosen keys S (Some key)) (agreed : IsAgreed key S texts) where
    of_agreed : (text : List ℕ) → IsOfAgreeing s.from s.from_aad S (into [] old) (into text new) → AppendsPrefix old.got new.got (made text) → AppendsPrefix old.got new.got (made (joined texts))
    of_agreed text a w =
        let f = a.under_a_key l key texts from chosen agreed in
        part_prefix m.primary s.to_aad (salt_of m.primary draws) (nonce_prefix_of m.primary draws) f.0 text (joined texts) old.got new.got first_some later_some f.2 w

    of_led : (text : List ℕ) → IsBroken keys (into [] old) (into text new) → AppendsPrefix old.got new.got (made text) → AppendsPrefix old.got new.got (made (joined texts))
    of_led text b w =
        let f = broken_agreeing s.from s.from_aad S G l old new told from text key texts b chosen agreed in
        part_prefix m.primary s.to_aad (salt_of m.primary draws) (nonce_prefix_of m.primary draws) f.0 text (joined texts) old.got new.got first_some later_some f.2 w

    is_stream : (text : List ℕ) (accepted : ℕ) → OpeningMeans keys (into [] old) (into text new) (Ok (record { segments = accepted; bytes = length text })) → (ts : List (List ℕ)) × IsStream key S ts
    is_stream text accepted o =
        let w = whole_text s.from s.from_aad S G l old new told from text accepted o in
        let loaded : w.loaded ≡ l = same_loaded s.from w.loaded l w.loads from in
        let one : Some w.key ≡ Some key = IsChosen-unique keys S (Some w.key) (Some key) (subst (λ (x : Loaded). IsChosen (opening_keys s.from_aad x) S (Some w.key)) loaded w.chosen) chosen in
        let same : w.key ≡ key = cc in
        (w.texts, subst (λ (k : OpeningKey). IsStream k S w.texts) same w.stream)

    stops : (kind : Kind) → StopsBy (OpeningMeans keys) (IsBroken keys) (HasKey keys) (bytes_under m.primary s.to_aad draws) old new kind → AppendsPrefix old.got new.got (made (joined texts))
    stops kind x = of_agreed x.text (agreeing s.from s.from_aad S G l old new told from x.text (Err (record { kind = kind })) x.opened) (whole_prefix old.got new.got (made x.text) x.written)

    refused_unended : (e : TinkError) → (MayEnd (Err e) key S → ⊥) → (kind : Kind) → e.kind ≡ kind → Refused kind → AppendsPrefix old.got new.got (made (joined texts))
    refused_unended e may NoMatchingKey same x = kept_prefix old.got new.got (made (joined texts)) x.written
    refused_unended e may TooManySegments same (inl x) = of_led x.text x.opened (longest_prefix m.primary s.to_aad (salt_of m.primary draws) (nonce_prefix_of m.primary draws) x.text old.got new.got x.written)
    refused_unended e may TooManySegments same (inr x) = stops TooManySegments x
    refused_unended e may (Truncated n) same x = stops (Truncated n) x
    refused_unended e may (BadSegment n) same x = stops (BadSegment n) x
    refused_unended e may ReadFault same x = elim x.written [
      | inl w ↦ kept_prefix old.got new.got (made (joined texts)) w.1
      | inr w ↦ of_agreed x.text (agreeing s.from s.from_aad S G l old new told from x.text (Err (record { kind = ReadFault })) x.opened) (whole_prefix old.got new.got (made x.text) w.1)
    ]
    refused_unended e may WriteFault same x = elim x.written [
      | inl w ↦ of_agreed x.text (agreeing s.from s.from_aad S G l old new told from x.text (Err (record { kind = WriteFault })) x.opened) w
      | inr w ↦ let whole = is_stream x.text w.accepted w.opened in absurd (may (same, whole.0, whole.1))
    ]
    refused_unended e may _ same x = absurd x

    pass_unended : (answer : Result Report TinkError) → (MayEnd answer key S → ⊥) → Passes answer → AppendsPrefix old.got new.got (made (joined texts))
    pass_unended (Ok report) may x = absurd (may (is_stream x.text x.accepted x.opened))
    pass_unended (Err e) may x = refused_unended e may e.kind refl x

  -- where none is chosen
  module _ (none : IsChosen keys S None) where
    not_chosen : (key : OpeningKey) → IsChosen keys S (Some key) → ⊥
    not_chosen key chosen = let one : None ≡ Some key = IsChosen-unique keys S None (Some key) none chosen in cc

    no_key : HasKey keys old → ⊥
    no_key x = let c = told_if (λ X. (key : OpeningKey) × IsChosen keys X (Some key)) old.left S told.left x in not_chosen c.0 c.1

    none_until : (texts : List (List ℕ)) (P : List ℕ → OpeningKey → Type 0) → IfSome old.left (λ X. AgreesUntil keys X texts (P X)) → ⊥
    none_until texts P x = let a = told_if (λ X. AgreesUntil keys X texts (P X)) old.left S told.left x in not_chosen a.key a.chosen

    no_lead : (texts : List (List ℕ)) (text : List ℕ) → Lead keys S texts → AppendsPrefix (Some []) (Some text) (joined texts) → 2 ^ 32 < chunk_count m.primary text → ⊥
    no_lead [] text lead w many =
        let empty : text ≡ [] = w.2 ∙ take_none w.0 in
        omega (arith, many, ap (chunk_count m.primary) empty, length-chunks (first_room m.primary) (room m.primary) [], ap length (full_chunks_fits (first_room m.primary) (room m.primary) [] (omega arith)))
      where
        take_none : (n : ℕ) → take {A = ℕ} n [] ≡ []
        take_none zero = refl
        take_none (suc n) = refl
    no_lead (t ∷ ts) text lead w many = not_chosen lead.0 lead.1

    refused_none : (kind : Kind) → Refused kind → Keeps old.got new.got
    refused_none NoMatchingKey x = x.written
    refused_none TooManySegments (inl x) = absurd (no_lead x.opened.texts x.text (told_if (λ X. Lead keys X x.opened.texts) old.left S told.left x.opened.lead) x.opened.written x.many)
    refused_none TooManySegments (inr x) = absurd (none_until x.opened.texts _ x.opened.stream)
    refused_none (Truncated n) x = absurd (none_until x.opened.texts _ x.opened.stream)
    refused_none (BadSegment n) x = absurd (none_until x.opened.texts _ x.opened.stream)
    refused_none ReadFault x = elim x.written [ inl w ↦ w.1 | inr w ↦ absurd (no_key w.0) ]
    refused_none WriteFault x = absurd (no_key x.begun)
    refused_none _ x = absurd x

    pass_none : (answer : Result Report TinkError) → Passes answer → Keeps old.got new.got
    pass_none (Ok report) x =
        let w = whole_text s.from s.from_aad S G l old new told from x.text x.accepted x.opened in
        let loaded : w.loaded ≡ l = same_loaded s.from w.loaded l w.loads from in
        absurd (not_chosen w.key (subst (λ (x : Loaded). IsChosen (opening_keys s.from_aad x) S (Some w.key)) loaded w.chosen))
    pass_none (Err e) x = refused_none e.kind x

-- two keysets that were loaded are those that load
rewraps_loaded : (s : Sides) (draws left_draws : List ℕ) (old new : Outside) (answer : Result Report TinkError) (l m : Loaded) → load s.from ≡ Ok l → load s.to ≡ Ok m → RewrapsLoaded s draws left_draws old new answer
    → RewrapsUnder (opening_keys s.from_aad l) m.primary s.to_aad draws left_draws old new answer
rewraps_loaded s draws left_draws old new answer l m from to r =
    subst (λ (x : Loaded). RewrapsUnder (opening_keys s.from_aad x) m.primary s.to_aad draws left_draws old new answer) (same_loaded s.from r.from_loaded l r.from_loads from)
    (subst (λ (x : Loaded). RewrapsUnder (opening_keys s.from_aad r.from_loaded) x.primary s.to_aad draws left_draws old new answer) (same_loaded s.to r.to_loaded m r.to_loads to) r.means)

-- nothing was written, or the text was passed on
data Wrote (s : Sides) (draws : List ℕ) (old new : Outside) (answer : Result Report TinkError) : Type 0 where
  Nothing : IsUntouched old new → Wrote s draws old new answer
  Passed : (l m : Loaded) → load s.from ≡ Ok l → load s.to ≡ Ok m
      → PassMeans (OpeningMeans (opening_keys s.from_aad l)) (IsBroken (opening_keys s.from_aad l)) (HasKey (opening_keys s.from_aad l)) (bytes_under m.primary s.to_aad draws) old new answer
      → Wrote s draws old new answer

passed : (s : Sides) (draws : List ℕ) (old new : Outside) (answer : Result Report TinkError) (l m : Loaded) → load s.from ≡ Ok l → load s.to ≡ Ok m → PassesUnder (opening_keys s.from_aad l) (bytes_under m.primary s.to_aad draws) old new answer
    → Wrote s draws old new answer
passed s draws old new answer l m from to x = Passed l m from to (means_alone (opening_keys s.from_aad l) (bytes_under m.primary s.to_aad draws) old new answer x)

wrote_loaded : (s : Sides) (draws left_draws : List ℕ) (old new : Outside) (answer : Result Report TinkError) → RewrapsLoaded s draws left_draws old new answer → Wrote s draws old new answer
wrote_loaded s draws left_draws old new (Ok report) r = passed s draws old new (Ok report) r.from_loaded r.to_loaded r.from_loads r.to_loads r.means.means
wrote_loaded s draws left_draws old new (Err e) r = go e.kind r.means
  where
    go : (kind : Kind) → RewrapsUnderRefused (opening_keys s.from_aad r.from_loaded) r.to_loaded.primary s.to_aad draws left_draws old new e kind → Wrote s draws old new (Err e)
    go OutOfMemory x = Nothing x.untouched
    go RandomFault x = Nothing x.untouched
    go UnsupportedHash x = Nothing x.untouched
    go NoMatchingKey x = passed s draws old new (Err e) r.from_loaded r.to_loaded r.from_loads r.to_loads x.means
    go TooManySegments x = passed s draws old new (Err e) r.from_loaded r.to_loaded r.from_loads r.to_loads x.means
    go (Truncated n) x = passed s draws old new (Err e) r.from_loaded r.to_loaded r.from_loads r.to_loads x.means
    go (BadSegment n) x = passed s draws old new (Err e) r.from_loaded r.to_loaded r.from_loads r.to_loads x.means
    go ReadFault x = passed s draws old new (Err e) r.from_loaded r.to_loaded r.from_loads r.to_loads x.means
    go WriteFault x = passed s draws old new (Err e) r.from_loaded r.to_loaded r.from_loads r.to_loads x.means
    go _ x = absurd x

wrote_of : (s : Sides) (draws left_draws : List ℕ) (old new : Outside) (answer : Result Report TinkError) → RewrapMeans s draws left_draws old new answer → Wrote s draws old new answer
wrote_of s draws left_draws old new (Ok report) r = wrote_loaded s draws left_draws old new (Ok report) r
wrote_of s draws left_draws old new (Err e) r = go e.kind r
  where
    go : (kind : Kind) → RewrapRefused s draws left_draws old new e kind → Wrote s draws old new (Err e)
    go OutOfMemory x = Nothing x.untouched
    go BadKeyset x = Nothing x.untouched
    go InvalidKeyset x = Nothing x.untouched
    go UnsupportedKeyType x = Nothing x.untouched
    go InvalidKey x = Nothing x.untouched
    go NoPrimary x = Nothing x.untouched
    go WrongPrimitive x = Nothing x.untouched
    go RandomFault x = wrote_loaded s draws left_draws old new (Err e) x
    go UnsupportedHash x = wrote_loaded s draws left_draws old new (Err e) x
    go NoMatchingKey x = wrote_loaded s draws left_draws old new (Err e) x
    go TooManySegments x = wrote_loaded s draws left_draws old new (Err e) x
    go (Truncated n) x = wrote_loaded s draws left_draws old new (Err e) x
    go (BadSegment n) x = wrote_loaded s draws left_draws old new (Err e) x
    go ReadFault x = wrote_loaded s draws left_draws old new (Err e) x
    go WriteFault x = wrote_loaded s draws left_draws old new (Err e) x
    go _ x = absurd x

ended_nowhere : (s : Sides) (draws S G : List ℕ) (old new : Outside) (answer : Result Report TinkError) → AreKnown old S G → Wrote s draws old new answer → IsUnended s draws S old new answer
ended_nowhere s draws S G old new answer t (Nothing u) = record {
  under_a_key = λ l m key texts from to chosen agreed may. kept_prefix old.got new.got _ (untouched_keeps old new u);
  under_none = λ l from none. untouched_keeps old new u;
  from_unloaded = λ kind e. untouched_keeps old new u;
  to_unloaded = λ kind e. untouched_keeps old new u;
}
ended_nowhere s draws S G old new answer t (Passed l m from to x) = record {
  under_a_key = λ i j key texts p q chosen agreed may.
      let of_from : i ≡ l = same_loaded s.from i l p from in
      let of_to : m ≡ j = same_loaded s.to m j to q in
      subst (λ (y : Loaded). AppendsPrefix old.got new.got (part y.primary s.to_aad (salt_of y.primary draws) (nonce_prefix_of y.primary draws) (joined texts))) of_to
      (pass_unended s draws S G old new t l m from to key texts (subst (λ (y : Loaded). IsChosen (opening_keys s.from_aad y) S (Some key)) of_from chosen) agreed answer may x);
  under_none = λ i p none.
      let of_from : i ≡ l = same_loaded s.from i l p from in
      pass_none s draws S G old new t l m from to (subst (λ (y : Loaded). IsChosen (opening_keys s.from_aad y) S None) of_from none) answer x;
  from_unloaded = λ kind e. absurd (let f = from in cc);
  to_unloaded = λ kind e. absurd (let f = to in cc);
}

-- where the stream may have no end, none was written
pub unended : (s : Sides) (draws left_draws : List ℕ) (old new : Outside) (answer : Result Report TinkError) → RewrapMeans s draws left_draws old new answer → LeavesUnended s draws old new answer
unended s draws left_draws old new answer r = λ S G t. ended_nowhere s draws S G old new answer t (wrote_of s draws left_draws old new answer r)

-- ---- success

-- a text that can be passed on is refused for no other cause than a fault
pass_complete : (s : Sides) (draws S G : List ℕ) (old new : Outside) (kind : Kind) (c : CanRewrap s draws S) → AreKnown old S G → HasNoFault old new
    → PassRefused (OpeningMeans (opening_keys s.from_aad c.from_loaded)) (IsBroken (opening_keys s.from_aad c.from_loaded)) (HasKey (opening_keys s.from_aad c.from_loaded)) (bytes_under c.to_loaded.primary s.to_aad draws) old new kind → ⊥
pass_complete s draws S G old new kind c t n x = go kind x
  where
    refused : (text : List ℕ) (kind : Kind) → OpeningRefused (opening_keys s.from_aad c.from_loaded) (into [] old) (into text new) kind → ⊥
    refused text kind o =
        stream_complete s.from s.from_aad S [] c.from_loaded (into [] old) (into text new) kind c.from_loads (record { left = t.left; got = refl }) (record { reads = n.reads; writes = n.writes })
        (record { loaded = c.from_loaded; loads = c.from_loads; key = c.key; chosen = c.chosen; texts = c.texts; stream = c.stream }) o

    go : (kind : Kind) → PassRefused (OpeningMeans (opening_keys s.from_aad c.from_loaded)) (IsBroken (opening_keys s.from_aad c.from_loaded)) (HasKey (opening_keys s.from_aad c.from_loaded)) (bytes_under c.to_loaded.primary s.to_aad draws) old new kind → ⊥
    go NoMatchingKey x = refused [] NoMatchingKey x.opened
    go TooManySegments (inl x) =
        let law = chosen_lawful s.from s.from_aad S c.from_loaded c.key c.from_loads c.chosen in
        let f = broken_agreeing s.from s.from_aad S G c.from_loaded old new t c.from_loads x.text c.key c.texts x.opened c.chosen (stream_is_agreed c.key S c.texts law c.stream) in
        let k : StreamKey = c.to_loaded.primary in
        let u = (loaded_usable s.to c.to_loaded c.to_loads).1.usable in
        omega (arith, x.many, c.few, count_prefix k f.0 x.text (joined c.texts) (omega (arith, u.room)) (omega (arith, u.room)) f.2)
    go TooManySegments (inr x) = refused x.text TooManySegments x.opened
    go (Truncated i) x = refused x.text (Truncated i) x.opened
    go (BadSegment i) x = refused x.text (BadSegment i) x.opened
    go ReadFault x = refused x.text ReadFault x.opened
    go WriteFault x = refused x.text WriteFault x.opened
    go _ x = x

-- a refusal of a stream that can be moved
module _ (s : Sides) (draws left_draws S G : List ℕ) (old new : Outside) (e : TinkError) (t : AreKnown old S G) (n : HasNoFault old new) (c : CanRewrap s draws S) where
  loads_not : (kind : Kind) → IsUnloaded s kind draws left_draws old new → ⊥
  loads_not kind x = elim x.cause [ inl e ↦ (let f = c.from_loads in cc) | inr e ↦ (let g = e.cause in let f = c.to_loads in cc) ]

  passes_not : PassesUnder (opening_keys s.from_aad c.from_loaded) (bytes_under c.to_loaded.primary s.to_aad draws) old new (Err e) → ⊥
  passes_not x = pass_complete s draws S G old new e.kind c t n (means_alone (opening_keys s.from_aad c.from_loaded) (bytes_under c.to_loaded.primary s.to_aad draws) old new (Err e) x)

  under : (kind : Kind) → RewrapsUnderRefused (opening_keys s.from_aad c.from_loaded) c.to_loaded.primary s.to_aad draws left_draws old new e kind → e.kind ≡ kind → e.kind ≡ OutOfMemory
  under OutOfMemory x same = same
  under RandomFault x same = absurd (omega (arith, x.few, c.enough))
  under UnsupportedHash x same = absurd (c.derives x.none)
  under NoMatchingKey x same = absurd (passes_not x.means)
  under TooManySegments x same = absurd (passes_not x.means)
  under (Truncated i) x same = absurd (passes_not x.means)
  under (BadSegment i) x same = absurd (passes_not x.means)
  under ReadFault x same = absurd (passes_not x.means)
  under WriteFault x same = absurd (passes_not x.means)
  under _ x same = absurd x

  loaded : RewrapsLoaded s draws left_draws old new (Err e) → e.kind ≡ OutOfMemory
  loaded x = under e.kind (rewraps_loaded s draws left_draws old new (Err e) c.from_loaded c.to_loaded c.from_loads c.to_loads x) refl

  wants : (kind : Kind) → e.kind ≡ kind → RewrapRefused s draws left_draws old new e kind → e.kind ≡ OutOfMemory
  wants OutOfMemory same x = same
  wants BadKeyset same x = absurd (loads_not BadKeyset x)
  wants InvalidKeyset same x = absurd (loads_not InvalidKeyset x)
  wants UnsupportedKeyType same x = absurd (loads_not UnsupportedKeyType x)
  wants InvalidKey same x = absurd (loads_not InvalidKey x)
  wants NoPrimary same x = absurd (loads_not NoPrimary x)
  wants WrongPrimitive same x = absurd (loads_not WrongPrimitive x)
  wants RandomFault same x = loaded x
  wants UnsupportedHash same x = loaded x
  wants NoMatchingKey same x = loaded x
  wants TooManySegments same x = loaded x
  wants (Truncated i) same x = loaded x
  wants (BadSegment i) same x = loaded x
  wants ReadFault same x = loaded x
  wants WriteFault same x = loaded x
  wants _ same x = absurd x

-- a stream that can be moved is, or there is no memory
pub complete : (s : Sides) (draws left_draws : List ℕ) (old new : Outside) (answer : Result Report TinkError) → RewrapMeans s draws left_draws old new answer → CompletesRewrap s draws old new answer
complete s draws left_draws old new (Ok report) r = λ S G t n c. tt
complete s draws left_draws old new (Err e) r = λ S G t n c. wants s draws left_draws S G old new e t n c e.kind refl r
