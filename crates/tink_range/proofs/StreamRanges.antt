-- Ranges of an object that is a stream of a key.
use Rattle.std.proofs.Common.{◌≡◌, inl, inr, ◌<◌, ◌≤◌, ◌+◌, ◌-◌, ◌^◌, min, ℕ, zero, suc, Bool, true, List, [], ◌∷◌, length, take, drop, refl, sym, ap, subst, ◌∙◌, arith, Some, None, IfSome, length-append, length-drop}
use Rattle.std.specs.Prelude.{Ok}
use Rattle.std.specs.declared.option.Option.{Option}
use Rattle.std.proofs.lemmas.List.{drop_all, length-take, take_all}
use Rattle.std.specs.Io.KnownBytes.{Appends}
use Rattle.tink_io.specs.Faults.{Rose}
use Rattle.tink_io.specs.declared.error.Kind.{Kind}
use Rattle.tink_io.specs.declared.error.Kind.TheVariants.{BadSegment, NoMatchingKey, ReadFault, TooManySegments, Truncated, WriteFault}
use Rattle.stream_model.specs.Agree.{AreTexts, is_last, joined}
use Rattle.stream_model.specs.Cut.{cut, last_chunk}
use Rattle.stream_model.specs.Opening.{AreSegments, AreSegmentsBy, IsChosen, IsStream, OpeningKey, behind_front, chunks_of, header_of}
use Rattle.stream_model.proofs.KeyFacts.{CanOpen, IsLawful}
use Rattle.stream_model.proofs.OpeningFacts.{IsChosen-unique}
use Rattle.tink_streaming_io.specs.Choosing.{Found, IsOpenerOf}
use Rattle.tink_range.specs.ChunkReading.{Moments}
use Rattle.tink_range.specs.Giving.{Cutting, chunks_in}
use Rattle.tink_range.specs.KeyRanges.{CutRefused, IsCutUnder, RangesUnder, RangesUnderRefused}
use Rattle.tink_range.specs.StreamSizes.{Measures, SizesRefused}
use Rattle.tink_range.specs.RangeReading.{RangeRefused, range_end, range_start}
use Rattle.tink_range.specs.Ranges.{AllGive, Gives, StopsAtChunk, all_places, chunk_count, places, text_length, within}
use Rattle.tink_range.proofs.ShapeFacts.{shape_of_any}
use Rattle.tink_range.proofs.SliceFacts.{agree_by, all_given, fits_or_not}

pub told_if : (P : List ℕ → Type 0) (a : Option (List ℕ)) (S : List ℕ) → a ≡ Some S → IfSome a P → P S
told_if P a S e h = rw e at h

-- a slice whose ends are cut at the text's length
same_slice : (s e n : ℕ) (xs : List ℕ) → n ≡ length xs → within (min s n) (min e n) 0 xs ≡ drop s (take e xs)
same_slice s e n xs long = ap (drop (min s n - 0)) taken ∙ dropped
  where
    taken : take (min e n - 0) xs ≡ take e xs
    taken = elim (fits_or_not e n) [
      | inl within ↦ let same : min e n - 0 ≡ e = omega arith in ap (λ m. take m xs) same
      | inr past ↦ take_all (min e n - 0) xs (omega arith) ∙ sym (take_all e xs (omega arith))
    ]

    dropped : drop (min s n - 0) (take e xs) ≡ drop s (take e xs)
    dropped = elim (fits_or_not s n) [
      | inl within ↦ let same : min s n - 0 ≡ s = omega arith in ap (λ m. drop m (take e xs)) same
      | inr past ↦ drop_all (min s n - 0) (take e xs) (omega (arith, length-take e xs)) ∙ sym (drop_all s (take e xs) (omega (arith, length-take e xs)))
    ]

-- the places of the segments of texts are as many as the texts have
places_of_texts : (seg : ℕ → Bool → List ℕ → List ℕ) (over i : ℕ) (cs ts : List (List ℕ)) → IsLawful over seg → AreTexts seg i cs ts → length cs ≡ length ts → all_places over cs ≡ length (joined ts)
places_of_texts seg over i [] [] lawful are size = refl
places_of_texts seg over i [] (t ∷ ts) lawful are size = absurd are
places_of_texts seg over i (c ∷ cs) [] lawful are size = absurd (omega arith)
places_of_texts seg over i (c ∷ cs) (t ∷ ts) lawful are size =
    omega (arith, lawful.longer i (is_last cs) t, ap length are.1, places_of_texts seg over (i + 1) cs ts lawful are.2 (omega arith), length-append t (joined ts))

-- a stream has at most 2^32 segments
few_segments : (seg : ℕ → Bool → List ℕ → List ℕ) (i a b : ℕ) (X : List ℕ) (ts : List (List ℕ)) → AreSegments seg i a b X ts → (0 < length ts) × (i + length ts ≤ 2 ^ 32)
few_segments seg i a b X [] h = absurd h
few_segments seg i a b X (t ∷ []) h = (omega arith, omega (arith, h.0))
few_segments seg i a b X (t ∷ u ∷ ts) h = (omega arith, omega (arith, (few_segments seg (i + 1) b b h.2.0 (u ∷ ts) h.2.2).1))

few_by : (o : Option (ℕ → Bool → List ℕ → List ℕ)) (a b : ℕ) (X : List ℕ) (ts : List (List ℕ)) → AreSegmentsBy o a b X ts → (0 < length ts) × (length ts ≤ 2 ^ 32)
few_by None a b X ts h = absurd h
few_by (Some seg) a b X ts h =
    let few = few_segments seg 0 a b X ts h in
    (few.0, omega (arith, few.1))

-- the last of the segments of texts is one
last_of_texts : (seg : ℕ → Bool → List ℕ → List ℕ) (i n : ℕ) (cs ts : List (List ℕ)) → AreTexts seg i cs ts → length cs ≡ length ts → n + 1 ≡ length cs → (t : List ℕ) × (seg (i + n) true t ≡ last_chunk cs)
last_of_texts seg i n [] ts are size count = absurd (omega arith)
last_of_texts seg i n (c ∷ cs) [] are size count = absurd (omega arith)
last_of_texts seg i n (c ∷ []) (t ∷ ts) are size count =
    let first : i + n ≡ i = omega arith in
    (t, ap (λ j. seg j true t) first ∙ are.1)
last_of_texts seg i zero (c ∷ d ∷ cs) (t ∷ ts) are size count = absurd (omega arith)
last_of_texts seg i (suc n) (c ∷ d ∷ cs) (t ∷ ts) are size count =
    let rest = last_of_texts seg (i + 1) n (d ∷ cs) ts are.2 (omega arith) (omega arith) in
    let number : i + suc n ≡ (i + 1) + n = omega arith in
    (rest.0, ap (λ j. seg j true rest.0) number ∙ rest.1)

-- and so is each that some others lead to
next_of_texts : (seg : ℕ → Bool → List ℕ → List ℕ) (over lo hi i at : ℕ) (cs ts : List (List ℕ)) (n : ℕ) (bytes : List ℕ) (end : ℕ) (c : List ℕ) (rest : List (List ℕ)) → AreTexts seg i cs ts → length cs ≡ length ts
    → Gives seg over lo hi i at cs n bytes end (c ∷ rest) → (t : List ℕ) × (seg (i + n) (is_last rest) t ≡ c)
next_of_texts seg over lo hi i at cs ts zero bytes end c rest are size given =
    first ts (subst (λ (ks : List (List ℕ)). AreTexts seg i ks ts) (sym given.2) are) (ap length given.2 ∙ size)
  where
    first : (ts : List (List ℕ)) → AreTexts seg i (c ∷ rest) ts → length (c ∷ rest) ≡ length ts → (t : List ℕ) × (seg (i + 0) (is_last rest) t ≡ c)
    first [] are size = absurd (omega arith)
    first (t ∷ ts) are size =
        let number : i + 0 ≡ i = omega arith in
        (t, ap (λ j. seg j (is_last rest) t) number ∙ are.1)
next_of_texts seg over lo hi i at [] ts (suc n) bytes end c rest are size given = absurd given
next_of_texts seg over lo hi i at (d ∷ cs) [] (suc n) bytes end c rest are size given = absurd (omega arith)
next_of_texts seg over lo hi i at (d ∷ cs) (t ∷ ts) (suc n) bytes end c rest are size given =
    let found = next_of_texts seg over lo hi (i + 1) (at + places over d) cs ts n given.1 end c rest are.2 (omega arith) given.4 in
    let number : i + suc n ≡ (i + 1) + n = omega arith in
    (found.0, ap (λ j. seg j (is_last rest) found.0) number ∙ found.1)

-- an object is a stream of a key, and is cut by it
module _ (k : OpeningKey) (S : List ℕ) (texts : List (List ℕ)) (c : Cutting) (behind : ℕ) (can : CanOpen k) (stream : IsStream k S texts) (opener : IsOpenerOf k S c.seg c.front c.first c.size c.over) (whole : c.front + behind ≡ length S) where
  lawful : IsLawful k.overhead c.seg
  lawful = can.lawful (header_of k S) c.seg opener.map

  lawful_here : IsLawful c.over c.seg
  lawful_here = subst (λ (n : ℕ). IsLawful n c.seg) (sym opener.overhead_is) lawful

  same_chunks : chunks_in c S ≡ chunks_of k S
  same_chunks = ap (λ n. cut n c.size (drop c.front S)) opener.first_is ∙ ap (λ n. cut k.first n (drop c.front S)) opener.size_is ∙ ap (λ n. cut k.first k.size (drop n S)) opener.front_is

  are : AreTexts c.seg 0 (chunks_in c S) texts × (length (chunks_in c S) ≡ length texts)
  are = subst (λ (cs : List (List ℕ)). AreTexts c.seg 0 cs texts × (length cs ≡ length texts)) (sym same_chunks)
      (agree_by k (k.seg (header_of k S)) c.seg (behind_front k S) texts can lawful opener.map stream.segments)

  few : (0 < length texts) × (length texts ≤ 2 ^ 32)
  few = few_by (k.seg (header_of k S)) (k.first - k.overhead) (k.size - k.overhead) (behind_front k S) texts stream.segments

  shape : (text_length c.first c.size c.over behind ≡ all_places c.over (chunks_in c S)) × (chunk_count c.first c.size behind ≡ length (chunks_in c S))
  shape =
      let size : length (drop c.front S) ≡ behind = omega (arith, length-drop c.front S, whole) in
      subst (λ (n : ℕ). (text_length c.first c.size c.over n ≡ all_places c.over (chunks_in c S)) × (chunk_count c.first c.size n ≡ length (chunks_in c S))) size
      (shape_of_any c.first c.size c.over (drop c.front S) (omega (arith, can.room, opener.first_is, opener.overhead_is)) (omega (arith, can.fits, opener.first_is, opener.size_is)))

  long : text_length c.first c.size c.over behind ≡ length (joined texts)
  long = shape.0 ∙ places_of_texts c.seg c.over 0 (chunks_in c S) texts lawful_here are.0 are.1

  -- there are as many chunks and places as texts, and as their bytes
  pub sizes : (chunk_count c.first c.size behind ≡ length texts) × (text_length c.first c.size c.over behind ≡ length (joined texts))
  sizes = (shape.1 ∙ are.1, long)

  -- what a range gives is that slice of the text
  pub slice_of_range : (start len : ℕ) (bytes : List ℕ) → AllGive c.seg c.over (range_start c behind start) (range_end c behind start len) (chunks_in c S) bytes → bytes ≡ drop start (take (start + len) (joined texts))
  slice_of_range start len bytes given =
      all_given c.seg c.over (range_start c behind start) (range_end c behind start len) lawful_here 0 0 (chunks_in c S) texts bytes given.0 are.0 are.1 given.1
      ∙ same_slice start (start + len) (text_length c.first c.size c.over behind) (joined texts) long

  last_is_one : (n : ℕ) → n + 1 ≡ chunk_count c.first c.size behind → ((t : List ℕ) → c.seg n true t ≡ last_chunk (chunks_in c S) → ⊥) → ⊥
  last_is_one n count none =
      let last = last_of_texts c.seg 0 n (chunks_in c S) texts are.0 are.1 (count ∙ shape.1) in
      let number : n ≡ 0 + n = omega arith in
      none last.0 (ap (λ j. c.seg j true last.0) number ∙ last.1)

  next_is_one : (lo hi n : ℕ) (bytes : List ℕ) → StopsAtChunk c.seg c.over lo hi (chunks_in c S) bytes n → ⊥
  next_is_one lo hi n bytes s =
      let next = next_of_texts c.seg c.over lo hi 0 0 (chunks_in c S) texts n bytes s.at s.chunk s.behind are.0 are.1 s.before in
      let number : n ≡ 0 + n = omega arith in
      s.none next.0 (ap (λ j. c.seg j (is_last s.behind) next.0) number ∙ next.1)

  module _ {W : Type 0} (got : W → Option (List ℕ)) (faults : W → ℕ) (start len : ℕ) (e : Moments W) (told : e.all ≡ Some S) (reads : Rose e.reads_before e.reads_after → ⊥) (writes : Rose (faults e.old) (faults e.new) → ⊥) where
    -- and it is refused for no other cause than a fault
    pub range_not_refused : (kind : Kind) → RangeRefused got faults c behind start len e kind → ⊥
    range_not_refused ReadFault r = reads r.gave.rose
    range_not_refused WriteFault r = writes r.gave.rose
    range_not_refused TooManySegments r = omega (arith, r.many, shape.1, are.1, few.1)
    range_not_refused (Truncated n) r = last_is_one n r.last.number (told_if _ e.all S told r.last.none)
    range_not_refused (BadSegment n) (inl r) = last_is_one n r.last.number (told_if _ e.all S told r.last.none)
    range_not_refused (BadSegment n) (inr r) = next_is_one (range_start c behind start) (range_end c behind start len) n r.gave.bytes (told_if _ e.all S told r.gave.stops)
    range_not_refused _ r = r

-- the same under keys of which this one is chosen
module _ {W : Type 0} (got : W → Option (List ℕ)) (faults : W → ℕ) (keys : List OpeningKey) (whole start len : ℕ) (e : Moments W) (S : List ℕ) (k : OpeningKey) (texts : List (List ℕ)) (told : e.all ≡ Some S) (size : length S ≡ whole)
    (chosen : IsChosen keys S (Some k)) (can : CanOpen k) (stream : IsStream k S texts) where
  opener_here : (c : Cutting) → Found keys S c.seg c.front c.first c.size c.over → IsOpenerOf k S c.seg c.front c.first c.size c.over
  opener_here c found =
      let one : Some found.key ≡ Some k = IsChosen-unique keys S (Some found.key) (Some k) found.chosen chosen in
      let same : found.key ≡ k = cc in
      subst (λ (j : OpeningKey). IsOpenerOf j S c.seg c.front c.first c.size c.over) same found.opener

  -- the range's slice of the text was written
  pub gives_slice : (n : ℕ) → RangesUnder got faults keys whole start len e (Ok n) → Appends (got e.old) (got e.new) (drop start (take (start + len) (joined texts))) × (n ≡ length (drop start (take (start + len) (joined texts))))
  gives_slice n r =
      let opener = opener_here r.cutting (told_if _ e.all S told r.found) in
      let gave = r.then.gave in
      let bytes = slice_of_range k S texts r.cutting r.behind can stream opener (r.whole_is ∙ sym size) start len gave.bytes (told_if _ e.all S told gave.gives) in
      (subst (Appends (got e.old) (got e.new)) bytes gave.written, gave.count ∙ ap length bytes)

  -- and it is refused for no other cause than a fault
  pub under_not_refused : (reads : Rose e.reads_before e.reads_after → ⊥) (writes : Rose (faults e.old) (faults e.new) → ⊥) (kind : Kind) → RangesUnderRefused got faults keys whole start len e kind → ⊥
  under_not_refused reads writes = go
    where
      cut_not_refused : (kind : Kind) → CutRefused got faults keys whole start len e kind → ⊥
      cut_not_refused kind r =
          range_not_refused k S texts r.cutting r.behind can stream (opener_here r.cutting (told_if _ e.all S told r.found)) (r.whole_is ∙ sym size) got faults start len e told reads writes kind r.then

      go : (kind : Kind) → RangesUnderRefused got faults keys whole start len e kind → ⊥
      go NoMatchingKey r =
          let one : None ≡ Some k = IsChosen-unique keys S None (Some k) (told_if (λ X. IsChosen keys X None) e.all S told r.none) chosen in
          cc
      go ReadFault (inl r) = reads r.rose
      go ReadFault (inr r) = cut_not_refused ReadFault r
      go WriteFault r = cut_not_refused WriteFault r
      go TooManySegments r = cut_not_refused TooManySegments r
      go (Truncated n) r = cut_not_refused (Truncated n) r
      go (BadSegment n) r = cut_not_refused (BadSegment n) r
      go _ r = r

-- the same of what is told without the text
module _ (keys : List OpeningKey) (all : Option (List ℕ)) (whole before after : ℕ) (S : List ℕ) (k : OpeningKey) (texts : List (List ℕ)) (told : all ≡ Some S) (size : length S ≡ whole)
    (chosen : IsChosen keys S (Some k)) (can : CanOpen k) (stream : IsStream k S texts) where
  -- an empty range, to a sink that is nothing
  abbrev nothing : Moments (Unit {0})
  nothing = record { all = all; reads_before = before; reads_after = after; old = tt; new = tt }

  abbrev Refuses : Kind → Type 0
  Refuses kind = RangesUnderRefused {W = Unit {0}} (λ w. None) (λ w. 0) keys whole 0 0 nothing kind

  same_cut : (P Q : Cutting → ℕ → Type 0) → ((c : Cutting) (behind : ℕ) → P c behind → Q c behind) → IsCutUnder keys all whole P → IsCutUnder keys all whole Q
  same_cut P Q further r = record { cutting = r.cutting; behind = r.behind; found = r.found; whole_is = r.whole_is; then = further r.cutting r.behind r.then }

  as_range : (kind : Kind) → SizesRefused keys all whole before after kind → Refuses kind
  as_range NoMatchingKey h = record { none = h; same = refl }
  as_range ReadFault h = inl (record { rose = h; same = refl })
  as_range TooManySegments r = same_cut _ _ (λ c behind x. record { many = x; same = refl }) r
  as_range (Truncated n) r = same_cut _ _ (λ c behind x. record { few = x.0; last = x.1; same = refl }) r
  as_range (BadSegment n) r = same_cut _ _ (λ c behind x. inl (record { few = x.0; last = x.1; same = refl })) r
  as_range _ h = absurd h

  -- it is refused for no other cause than a fault
  pub sizes_not_refused : (Rose before after → ⊥) → (kind : Kind) → SizesRefused keys all whole before after kind → ⊥
  sizes_not_refused reads kind r =
      under_not_refused {W = Unit {0}} (λ w. None) (λ w. 0) keys whole 0 0 nothing S k texts told size chosen can stream reads (λ rose. omega (arith, rose)) kind (as_range kind r)

  -- and there are as many segments and bytes as the texts have
  pub sizes_of_stream : (c : Cutting) (behind segments text_len : ℕ) → Found keys S c.seg c.front c.first c.size c.over → c.front + behind ≡ whole → Measures c behind all segments text_len
      → (segments ≡ length texts) × (text_len ≡ length (joined texts)) × (c.size ≡ k.size)
  sizes_of_stream c behind segments text_len found whole_is m =
      let one : Some found.key ≡ Some k = IsChosen-unique keys S (Some found.key) (Some k) found.chosen chosen in
      let same : found.key ≡ k = cc in
      let opener : IsOpenerOf k S c.seg c.front c.first c.size c.over = subst (λ (j : OpeningKey). IsOpenerOf j S c.seg c.front c.first c.size c.over) same found.opener in
      let here = sizes k S texts c behind can stream opener (whole_is ∙ sym size) in
      (m.segments_is ∙ here.0, m.text_is ∙ here.1, opener.size_is)
