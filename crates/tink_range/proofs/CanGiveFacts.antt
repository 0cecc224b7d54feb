-- Where a range can be given, it is.
use Rattle.std.proofs.Common.{◌≡◌, inl, inr, ◌<◌, ◌≤◌, ◌+◌, ◌-◌, ℕ, zero, suc, Bool, true, List, [], ◌∷◌, length, drop, refl, sym, ap, subst, ◌∙◌, arith, Some, length-drop}
use Rattle.std.specs.Prelude.{◌↔◌, IfSome, IsOk, Result, Ok, Err}
use Rattle.std.specs.declared.option.Option.{Option}
use Rattle.tink_io.specs.Faults.{Rose}
use Rattle.tink_io.specs.declared.error.Kind.{Kind}
use Rattle.tink_io.specs.declared.error.Kind.TheVariants.{BadSegment, ReadFault, TooManySegments, Truncated, WriteFault}
use Rattle.tink_io.specs.declared.error.TinkError.{TinkError}
use Rattle.stream_model.specs.Agree.{is_last}
use Rattle.stream_model.specs.Cut.{last_chunk}
use Rattle.tink_range.specs.ChunkReading.{Moments}
use Rattle.tink_range.specs.Giving.{Cutting, chunks_in}
use Rattle.tink_range.specs.RangeReading.{CanGive, IsGivenExactly, RangeMeans, RangeRefused}
use Rattle.tink_range.specs.Ranges.{Gives, GivesOne, LastAgrees, chunk_count, is_touched, places}
use Rattle.tink_range.proofs.ShapeFacts.{shape_of_any}
use Rattle.tink_range.proofs.StreamRanges.{told_if}

abbrev first_of : List (List ℕ) → List ℕ
first_of [] = []
first_of (c ∷ cs) = c

abbrev others_of : List (List ℕ) → List (List ℕ)
others_of [] = []
others_of (c ∷ cs) = cs

-- chunks that all give have none that is touched and the segment of no text
none_stops : (seg : ℕ → Bool → List ℕ → List ℕ) (over lo hi i at : ℕ) (cs : List (List ℕ)) (xs : List ℕ) (end : ℕ) → Gives seg over lo hi i at cs (length cs) xs end []
    → (n : ℕ) (ys : List ℕ) (mid : ℕ) (chunk : List ℕ) (behind : List (List ℕ)) → Gives seg over lo hi i at cs n ys mid (chunk ∷ behind)
    → is_touched lo hi mid (places over chunk) ≡ true → ((t : List ℕ) → seg (i + n) (is_last behind) t ≡ chunk → ⊥) → ⊥
none_stops seg over lo hi i at [] xs end all zero ys mid chunk behind some touched none = omega (arith, ap length some.2)
none_stops seg over lo hi i at [] xs end all (suc n) ys mid chunk behind some touched none = some
none_stops seg over lo hi i at (c ∷ cs) xs end all zero ys mid chunk behind some touched none =
    let same : chunk ≡ c = ap first_of some.2 in
    let others : behind ≡ cs = ap others_of some.2 in
    let here : is_touched lo hi at (places over c) ≡ true = subst (λ (m : ℕ). is_touched lo hi m (places over c) ≡ true) some.1 (subst (λ (k : List ℕ). is_touched lo hi mid (places over k) ≡ true) same touched) in
    let one : GivesOne seg lo hi true i (is_last cs) at c all.0 = subst (λ (b : Bool). GivesOne seg lo hi b i (is_last cs) at c all.0) here all.3 in
    let number : i + 0 ≡ i = omega arith in
    none one.0 (ap (λ m. seg m (is_last behind) one.0) number ∙ ap (λ ks. seg i (is_last ks) one.0) others ∙ one.1 ∙ sym same)
none_stops seg over lo hi i at (c ∷ cs) xs end all (suc n) ys mid chunk behind some touched none =
    let number : i + suc n ≡ (i + 1) + n = omega arith in
    none_stops seg over lo hi (i + 1) (at + places over c) cs all.1 end all.4 n some.1 mid chunk behind some.4 touched
    (λ t e. none t (ap (λ m. seg m (is_last behind) t) number ∙ e))

module _ {W : Type 0} (got : W → Option (List ℕ)) (faults : W → ℕ) (c : Cutting) (behind start len : ℕ) (e : Moments W) (over : c.over < c.first) (fits : c.first ≤ c.size) (long : IfSome e.all (λ S. length S ≡ c.front + behind)) where
  count_is : (S : List ℕ) → length S ≡ c.front + behind → chunk_count c.first c.size behind ≡ length (chunks_in c S)
  count_is S whole =
      let size : length (drop c.front S) ≡ behind = omega (arith, length-drop c.front S, whole) in
      subst (λ (n : ℕ). chunk_count c.first c.size n ≡ length (chunks_in c S)) size (shape_of_any c.first c.size c.over (drop c.front S) over fits).1

  last_is_one : (S : List ℕ) → length S ≡ c.front + behind → LastAgrees c.seg (chunks_in c S) → (n : ℕ) → n + 1 ≡ chunk_count c.first c.size behind
      → ((t : List ℕ) → c.seg n true t ≡ last_chunk (chunks_in c S) → ⊥) → ⊥
  last_is_one S whole last n number none =
      let same : n ≡ length (chunks_in c S) - 1 = omega (arith, number, count_is S whole) in
      none last.0 (ap (λ m. c.seg m true last.0) same ∙ last.1)

  module _ (S : List ℕ) (told : e.all ≡ Some S) (reads : Rose e.reads_before e.reads_after → ⊥) (writes : Rose (faults e.old) (faults e.new) → ⊥) where
    not_refused : CanGive c behind start len S → (kind : Kind) → RangeRefused got faults c behind start len e kind → ⊥
    not_refused can ReadFault r = reads r.gave.rose
    not_refused can WriteFault r = writes r.gave.rose
    not_refused can TooManySegments r = omega (arith, r.many, can.few)
    not_refused can (Truncated n) r = last_is_one S (told_if _ e.all S told long) can.last n r.last.number (told_if _ e.all S told r.last.none)
    not_refused can (BadSegment n) (inl r) = last_is_one S (told_if _ e.all S told long) can.last n r.last.number (told_if _ e.all S told r.last.none)
    not_refused can (BadSegment n) (inr r) =
        let stops = told_if _ e.all S told r.gave.stops in
        let number : n ≡ 0 + n = omega arith in
        none_stops c.seg c.over _ _ 0 0 (chunks_in c S) can.bytes can.gives.0 can.gives.1 n r.gave.bytes stops.at stops.chunk stops.behind stops.before stops.touched
        (λ t is. stops.none t (ap (λ m. c.seg m (is_last stops.behind) t) number ∙ is))
    not_refused can _ r = r

    given_if_can : (r : Result ℕ TinkError) → RangeMeans got faults c behind start len e r → IsOk r ↔ CanGive c behind start len S
    given_if_can (Ok n) m = (
      (λ _. record { few = m.few; last = told_if _ e.all S told m.checked; bytes = m.gave.bytes; gives = told_if _ e.all S told m.gave.gives }),
      (λ _. refl),
    )
    given_if_can (Err error) m = ((λ ok. absurd cc), (λ can. absurd (not_refused can error.kind m)))

  -- what a range answers of known bytes where neither end failed
  pub is_given : (r : Result ℕ TinkError) → RangeMeans got faults c behind start len e r → IsGivenExactly faults c behind start len e r
  is_given r m = λ S told reads writes. given_if_can S told reads writes r m
