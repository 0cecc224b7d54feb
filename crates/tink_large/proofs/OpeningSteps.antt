-- Opening what remains, segment by segment.
use Rattle.std.proofs.Common.{◌≡◌, ◌⊎◌, ◌<◌, ◌≤◌, ◌+◌, ℕ, zero, suc, Bool, List, [], ◌∷◌, length, take, refl, sym, ap, subst, ◌∙◌, arith, Some, None, IfSome, length-append}
use Rattle.std.proofs.lemmas.List.{length-take}
use Rattle.std.specs.declared.option.Option.{Option}
use Rattle.std.specs.Io.KnownBytes.{IsAtEnd}
use Rattle.stream_model.specs.Agree.{AreTexts, Agree, Leads, is_last, joined}
use Rattle.stream_model.specs.Cut.{cut, room_at}
use Rattle.stream_model.proofs.CutFacts.{cut_none, cut_some}
use Rattle.tink_io.specs.declared.error.Kind.{Kind}
use Rattle.tink_io.specs.declared.error.Kind.TheVariants.{ReadFault, TooManySegments, BadSegment, Truncated}
use Rattle.tink_streaming_io.specs.Reading.{ReaderMoment, OpensNext, OpenNextRefused, NothingComes, TellsLeads}
use Rattle.tink_large.specs.Opening.{Remains}
use Rattle.tink_large.proofs.SealedSteps.{IsLonger}

-- the texts behind the one that was opened
record Behind (seg : ℕ → Bool → List ℕ → List ℕ) (i : ℕ) (ds ts : List (List ℕ)) (t : List ℕ) : Type 0 where
  texts : List (List ℕ)
  are : AreTexts seg (i + 1) ds texts
  all : length ds ≡ length texts
  bytes : length (joined ts) ≡ length t + length (joined texts)
  count : length ts ≡ 1 + length texts

behind : (seg : ℕ → Bool → List ℕ → List ℕ) (o i : ℕ) (cs ds ts : List (List ℕ)) (t : List ℕ) → IsLonger seg o → Leads seg i cs (t ∷ []) ds → AreTexts seg i cs ts → length cs ≡ length ts → Behind seg i ds ts t
behind seg o i [] ds ts t long p q e = absurd p
behind seg o i (c ∷ cs) ds [] t long p q e = absurd (omega arith)
behind seg o i (c ∷ cs) ds (u ∷ us) t long p q e =
    let here = ap length p.1 in
    let there = ap length q.1 in
    record {
      texts = us;
      are = subst (λ (xs : List (List ℕ)). AreTexts seg (i + 1) xs us) (sym p.2) q.2;
      all = omega (arith, ap length p.2);
      bytes = omega (arith, length-append u (joined us), here, there, long i (is_last cs) t, long i (is_last cs) u);
      count = omega arith;
    }

remains_told : (seg : ℕ → Bool → List ℕ → List ℕ) (a b o i j : ℕ) (X t : List ℕ) (later : Option (List ℕ)) (bytes total count : ℕ) → IsLonger seg o → j ≡ i + 1 → (r : Remains seg a b i (Some X) bytes total count) → r.stream ≡ X → TellsLeads seg a b i (Some X) (t ∷ []) later
    → Remains seg a b j later (bytes + length t) total count
remains_told seg a b o i j X t None bytes total count long next r same p = absurd p
remains_told seg a b o i j X t (Some Y) bytes total count long next r same p =
    let at : i + length (t ∷ []) ≡ j = omega (arith, next) in
    let cs : List (List ℕ) = cut (room_at a b i) b X in
    let ds : List (List ℕ) = cut (room_at a b j) b Y in
    let leads : Leads seg i cs (t ∷ []) ds = subst (λ (k : ℕ). Leads seg i cs (t ∷ []) (cut (room_at a b k) b Y)) at p in
    let are : AreTexts seg i cs r.texts = subst (λ (x : List ℕ). AreTexts seg i (cut (room_at a b i) b x) r.texts) same r.are in
    let all : length cs ≡ length r.texts = ap (λ x. length (cut (room_at a b i) b x)) (sym same) ∙ r.all in
    let v = behind seg o i cs ds r.texts t long leads are all in
    record {
      stream = Y;
      told = refl;
      texts = v.texts;
      are = subst (λ (k : ℕ). AreTexts seg k ds v.texts) (sym next) v.are;
      all = v.all;
      bytes_are = omega (arith, r.bytes_are, v.bytes);
      segments_are = omega (arith, r.segments_are, v.count, next);
      some = λ first. absurd (omega (arith, first, next));
    }

-- the next segment was opened
pub remains_next : (seg : ℕ → Bool → List ℕ → List ℕ) (a b o : ℕ) (m n : ReaderMoment) (bytes total count : ℕ) → IsLonger seg o → Remains seg a b m.number m.rest bytes total count → OpensNext seg a b m n
    → Remains seg a b n.number n.rest (bytes + length n.opened) total count
remains_next seg a b o m n bytes total count long r next =
    let told : Remains seg a b m.number (Some r.stream) bytes total count = record { stream = r.stream; told = refl; texts = r.texts; are = r.are; all = r.all; bytes_are = r.bytes_are; segments_are = r.segments_are; some = r.some } in
    remains_told seg a b o m.number n.number r.stream n.opened n.rest bytes total count long next.number told refl
    (subst (λ (x : Option (List ℕ)). TellsLeads seg a b m.number x (n.opened ∷ []) n.rest) r.told next.leads)

-- what is told of a rest holds of what remains
of_rest : (P : List ℕ → Type 0) (rest : Option (List ℕ)) (X : List ℕ) → rest ≡ Some X → IfSome rest P → P X
of_rest P rest X e h = subst (λ (x : Option (List ℕ)). IfSome x P) e h

no_bytes : (a b : ℕ) (X : List ℕ) → length (cut a b X) ≡ 0 → length X ≡ 0
no_bytes a b [] e = refl
no_bytes a b (x ∷ X) e = let some = cut_some a b (x ∷ X) (omega arith) in absurd (omega (arith, e, ap length some.2))

-- where no text agrees, nothing remains
record IsNothing (texts : List (List ℕ)) (X : List ℕ) : Type 0 where
  no_text : length texts ≡ 0
  no_byte : length X ≡ 0

nothing_remains : (seg : ℕ → Bool → List ℕ → List ℕ) (a b : ℕ) (m : ReaderMoment) (bytes total count : ℕ) → (r : Remains seg a b m.number m.rest bytes total count) → NothingComes seg a b m → IsNothing r.texts r.stream
nothing_remains seg a b m bytes total count r none =
    let agree = of_rest (λ X. Agree seg m.number (cut (room_at a b m.number) b X) []) m.rest r.stream r.told none in
    let few : length r.texts ≤ 0 = agree.longest r.texts r.are in
    record { no_text = omega arith; no_byte = no_bytes (room_at a b m.number) b r.stream (omega (arith, r.all)) }

at_first : (i : ℕ) (P : Type 0) → (i ≡ 0 → ⊥) → (0 < i → ⊥) → ⊥
at_first zero P p q = p refl
at_first (suc i) P p q = q (omega arith)

-- what remains is refused for no cause but a fault of its source
pub not_refused : (seg : ℕ → Bool → List ℕ → List ℕ) (a b o : ℕ) (m n : ReaderMoment) (bytes total count : ℕ) (k : Kind) → 0 < o → m.faults ≡ 0 → n.faults ≡ 0 → Remains seg a b m.number m.rest bytes total count → OpenNextRefused seg a b o m n k → ⊥
not_refused seg a b o m n bytes total count ReadFault some before now r x = let rose = x.rose in omega (arith, before, now)
not_refused seg a b o m n bytes total count TooManySegments some before now r x =
    let none = nothing_remains seg a b m bytes total count r x.nothing in
    let more = of_rest (λ X. 0 < length X) m.rest r.stream r.told x.more in
    omega (arith, none.no_byte, more)
not_refused seg a b o m n bytes total count (BadSegment i) some before now r x =
    let none = nothing_remains seg a b m bytes total count r x.nothing in
    let long = of_rest (λ X. o ≤ length (take (room_at a b m.number) X)) m.rest r.stream r.told x.long in
    omega (arith, none.no_byte, long, length-take (room_at a b m.number) r.stream)
not_refused seg a b o m n bytes total count (Truncated i) some before now r x =
    let none = nothing_remains seg a b m bytes total count r x.nothing in
    let short = of_rest (λ X. ((length (take (room_at a b m.number) X) < o) ⊎ (X ≡ [])) × (0 < m.number → 0 < length X)) m.rest r.stream r.told x.short in
    at_first m.number ⊥ (λ first. omega (arith, none.no_text, r.some first)) (λ later. omega (arith, none.no_byte, short.1 later))
not_refused seg a b o m n bytes total count _ some before now r x = absurd x

no_texts : (ts : List (List ℕ)) → length ts ≡ 0 → length (joined ts) ≡ 0
no_texts [] e = refl
no_texts (t ∷ ts) e = absurd (omega (arith, e))

-- at the end all bytes and segments were opened
pub all_opened : (seg : ℕ → Bool → List ℕ → List ℕ) (a b i : ℕ) (rest : Option (List ℕ)) (bytes total count : ℕ) → Remains seg a b i rest bytes total count → IsAtEnd rest → (bytes ≡ total) × (i ≡ count)
all_opened seg a b i rest bytes total count r end =
    let none : r.stream ≡ [] = subst IsAtEnd r.told end in
    let chunks : length (cut (room_at a b i) b r.stream) ≡ 0 = ap (λ x. length (cut (room_at a b i) b x)) none ∙ ap length (cut_none (room_at a b i) b) in
    let texts : length r.texts ≡ 0 = omega (arith, chunks, r.all) in
    (omega (arith, r.bytes_are, no_texts r.texts texts), omega (arith, r.segments_are, texts))
