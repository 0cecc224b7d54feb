-- The bytes of a range are a slice of the stream's text.
use Rattle.std.proofs.Common.{◌≡◌, ◌⊎◌, inl, inr, ◌<◌, ◌≤◌, ◌+◌, ◌-◌, max, min, ℕ, zero, suc, Bool, true, false, List, [], ◌∷◌, ◌++◌, length, take, drop, sym, ap, subst, ◌∙◌, arith, Some, None, length-drop}
use Rattle.std.specs.declared.option.Option.{Option}
use Rattle.std.proofs.lemmas.Bool.Decides.{nat_tests}
use Rattle.std.proofs.lemmas.List.{append-nil, drop-append-le, drop_all, drop-take, length-take, take-append-le, take_all}
use Rattle.std.proofs.Math.Seq.{drop-append-add, take-append-add, take-nil, drop-nil}
use Rattle.stream_model.specs.Cut.{cut}
use Rattle.stream_model.specs.Agree.{AreTexts, is_last, joined}
use Rattle.stream_model.specs.Opening.{AreSegments, AreSegmentsBy, OpeningKey, behind_front, header_of, opening_key}
use Rattle.stream_model.proofs.KeyFacts.{CanOpen, IsLawful, opening_key_lawful}
use Rattle.stream_model.proofs.OpeningFacts.{all_agree}
use Rattle.tink_range.specs.Ranges.{AllGive, Gives, GivesOne, is_touched, places, within}
use Rattle.tink_range.specs.Slices.{IsSliceOfStream}

pub fits_or_not : (m n : ℕ) → (m ≤ n) ⊎ (n < m)
fits_or_not zero n = inl (omega arith)
fits_or_not (suc m) zero = inr (omega arith)
fits_or_not (suc m) (suc n) = elim (fits_or_not m n) [ inl h ↦ inl (omega arith) | inr h ↦ inr (omega arith) ]

-- the part of a longer text where it goes on past the first of two
part_past : (lo hi at : ℕ) (t r : List ℕ) → length t ≤ hi - at → within lo hi at (t ++ r) ≡ within lo hi at t ++ within lo hi (at + length t) r
part_past lo hi at t r past =
    let m : ℕ = hi - (at + length t) in
    let whole : hi - at ≡ length t + m = omega arith in
    let both : take (hi - at) (t ++ r) ≡ t ++ take m r = ap (λ n. take n (t ++ r)) whole ∙ take-append-add t r m in
    let first : take (hi - at) t ≡ t = take_all (hi - at) t past in
    ap (drop (lo - at)) both ∙ elim (fits_or_not (lo - at) (length t)) [
      | inl early ↦
          let none : lo - (at + length t) ≡ 0 = omega arith in
          drop-append-le (lo - at) t (take m r) early ∙ ap (λ x. drop (lo - at) x ++ take m r) (sym first)
          ∙ ap (λ n. drop (lo - at) (take (hi - at) t) ++ drop n (take m r)) (sym none)
      | inr late ↦
          let more : lo - at ≡ length t + (lo - (at + length t)) = omega arith in
          let gone : drop (lo - at) (take (hi - at) t) ≡ [] = ap (drop (lo - at)) first ∙ drop_all (lo - at) t (omega arith) in
          ap (λ n. drop n (t ++ take m r)) more ∙ drop-append-add t (take m r) (lo - (at + length t))
          ∙ ap (λ x. x ++ drop (lo - (at + length t)) (take m r)) (sym gone)
    ]

-- and where it ends in the first
part_within : (lo hi at : ℕ) (t r : List ℕ) → hi - at ≤ length t → within lo hi at (t ++ r) ≡ within lo hi at t ++ within lo hi (at + length t) r
part_within lo hi at t r ends =
    let none : hi - (at + length t) ≡ 0 = omega arith in
    let gone : within lo hi (at + length t) r ≡ [] = ap (λ n. drop (lo - (at + length t)) (take n r)) none ∙ drop-nil (lo - (at + length t)) in
    ap (drop (lo - at)) (take-append-le (hi - at) t r ends) ∙ sym (append-nil (within lo hi at t)) ∙ ap (λ x. within lo hi at t ++ x) (sym gone)

pub part_of_joined : (lo hi at : ℕ) (t r : List ℕ) → within lo hi at (t ++ r) ≡ within lo hi at t ++ within lo hi (at + length t) r
part_of_joined lo hi at t r = elim (fits_or_not (length t) (hi - at)) [
  | inl past ↦ part_past lo hi at t r past
  | inr ends ↦ part_within lo hi at t r (omega arith)
]

-- a text that is not touched has no part in the range
no_part : (lo hi at : ℕ) (t : List ℕ) → is_touched lo hi at (length t) ≡ false → within lo hi at t ≡ []
no_part lo hi at t not =
    let apart : min hi (at + length t) ≤ max lo at = grind (arith, nat_tests) in
    elim (fits_or_not (length t) (hi - at)) [
      | inl past ↦ ap (drop (lo - at)) (take_all (hi - at) t past) ∙ drop_all (lo - at) t (omega arith)
      | inr ends ↦ drop_all (lo - at) (take (hi - at) t) (omega (arith, length-take (hi - at) t))
    ]

module _ (seg : ℕ → Bool → List ℕ → List ℕ) (over lo hi : ℕ) (lawful : IsLawful over seg) where
  one_given : (touched : Bool) (i at : ℕ) (last : Bool) (t here : List ℕ) → is_touched lo hi at (length t) ≡ touched → GivesOne seg lo hi touched i last at (seg i last t) here → here ≡ within lo hi at t
  one_given true i at last t here e given =
      given.2 ∙ ap (within lo hi at) (lawful.one_text i last given.0 t given.1)
  one_given false i at last t here e given = given ∙ sym (no_part lo hi at t e)

  -- what all chunks of some texts give is the range's part of the joined texts
  pub all_given : (i at : ℕ) (cs ts : List (List ℕ)) (bytes : List ℕ) (end : ℕ) → AreTexts seg i cs ts → length cs ≡ length ts
      → Gives seg over lo hi i at cs (length cs) bytes end [] → bytes ≡ within lo hi at (joined ts)
  all_given i at [] [] bytes end are size given = given.0 ∙ sym (ap (drop (lo - at)) (take-nil (hi - at)) ∙ drop-nil (lo - at))
  all_given i at [] (t ∷ ts) bytes end are size given = absurd are
  all_given i at (c ∷ cs) [] bytes end are size given = absurd (omega arith)
  all_given i at (c ∷ cs) (t ∷ ts) bytes end are size given =
      let long : places over c ≡ length t = omega (arith, lawful.longer i (is_last cs) t, ap length are.1) in
      let here : given.0 ≡ within lo hi at t = one_given (is_touched lo hi at (places over c)) i at (is_last cs) t given.0 (ap (is_touched lo hi at) (sym long))
      (subst (λ (x : List ℕ). GivesOne seg lo hi (is_touched lo hi at (places over c)) i (is_last cs) at x given.0) (sym are.1) given.3) in
      let later : given.1 ≡ within lo hi (at + places over c) (joined ts) = all_given (i + 1) (at + places over c) cs ts given.1 end are.2 (omega arith) given.4 in
      given.2 ∙ ap (λ x. x ++ given.1) here ∙ ap (λ x. within lo hi at t ++ x) (later ∙ ap (λ n. within lo hi (at + n) (joined ts)) long)
      ∙ sym (part_of_joined lo hi at t (joined ts))

-- the chunks behind the front of a stream are the segments of its texts
pub agree_by : (k : OpeningKey) (o : Option (ℕ → Bool → List ℕ → List ℕ)) (seg : ℕ → Bool → List ℕ → List ℕ) (X : List ℕ) (texts : List (List ℕ)) → CanOpen k → IsLawful k.overhead seg → o ≡ Some seg
    → AreSegmentsBy o (k.first - k.overhead) (k.size - k.overhead) X texts → AreTexts seg 0 (cut k.first k.size X) texts × (length (cut k.first k.size X) ≡ length texts)
agree_by k None seg X texts can lawful e segments = absurd segments
agree_by k (Some own) seg X texts can lawful e segments =
    let same : own ≡ seg = cc in
    let are : AreSegments seg 0 (k.first - k.overhead) (k.size - k.overhead) X texts = subst (λ (s : ℕ → Bool → List ℕ → List ℕ). AreSegments s 0 (k.first - k.overhead) (k.size - k.overhead) X texts) same segments in
    let agree = all_agree seg k.overhead 0 (k.first - k.overhead) (k.size - k.overhead) texts X lawful.longer (omega (arith, can.room)) (omega (arith, can.room, can.fits)) can.some are in
    let first : (k.first - k.overhead) + k.overhead ≡ k.first = omega (arith, can.room) in
    let size : (k.size - k.overhead) + k.overhead ≡ k.size = omega (arith, can.room, can.fits) in
    rw (first, size) at agree

slice_by : (k : OpeningKey) (o : Option (ℕ → Bool → List ℕ → List ℕ)) (seg : ℕ → Bool → List ℕ → List ℕ) (X bytes : List ℕ) (texts : List (List ℕ)) (lo hi : ℕ) → CanOpen k → IsLawful k.overhead seg → o ≡ Some seg
    → AreSegmentsBy o (k.first - k.overhead) (k.size - k.overhead) X texts → AllGive seg k.overhead lo hi (cut k.first k.size X) bytes → bytes ≡ within lo hi 0 (joined texts)
slice_by k o seg X bytes texts lo hi can lawful e segments given =
    let here = agree_by k o seg X texts can lawful e segments in
    all_given seg k.overhead lo hi lawful 0 0 (cut k.first k.size X) texts bytes given.0 here.0 here.1 given.1

pub slice_of_stream : IsSliceOfStream
slice_of_stream aad k S bytes texts seg lo hi usable stream map given =
    let can = opening_key_lawful aad k usable in
    let low : lo - 0 ≡ lo = omega arith in
    let high : hi - 0 ≡ hi = omega arith in
    slice_by (opening_key aad k) ((opening_key aad k).seg (header_of (opening_key aad k) S)) seg (behind_front (opening_key aad k) S) bytes texts lo hi can
    (can.lawful (header_of (opening_key aad k) S) seg map) map stream.segments given
    ∙ ap (λ n. drop n (take (hi - 0) (joined texts))) low ∙ ap (λ n. drop lo (take n (joined texts))) high

-- the range's part of a text, between its first place in the text and that behind its last
pub part_is : (lo hi at from to : ℕ) (t : List ℕ) → from ≡ lo - at → to ≡ min (hi - at) (length t) → lo ≤ hi → lo ≤ at + length t
    → take (to - from) (drop from t) ≡ within lo hi at t
part_is lo hi at from to t f e range touched =
    let whole : from + (to - from) ≡ to = omega arith in
    sym (drop-take from (to - from) t) ∙ ap (λ n. drop from (take n t)) whole ∙ ap (λ n. drop n (take to t)) f ∙ ap (drop (lo - at)) (elim (fits_or_not (length t) (hi - at)) [
      | inl past ↦ take_all to t (omega arith) ∙ sym (take_all (hi - at) t past)
      | inr ends ↦ let same : to ≡ hi - at = omega arith in ap (λ n. take n t) same
    ])

pub part_length : (from to n : ℕ) (t : List ℕ) → to ≡ min n (length t) → length (take (to - from) (drop from t)) ≡ to - from
part_length from to n t e = omega (arith, length-take (to - from) (drop from t), length-drop from t)
