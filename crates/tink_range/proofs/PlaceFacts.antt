-- Where chunks begin: bounds, and the step from one to the next.
use Rattle.std.proofs.Common.{◌≡◌, ◌⊎◌, inl, inr, ◌<◌, ◌≤◌, ◌+◌, ◌-◌, ◌*◌, ◌/◌, ◌^◌, min, ℕ, zero, suc, List, [], ◌∷◌, length, take, drop, replicate, refl, sym, ap, subst, ◌∙◌, arith, add-one, length-drop}
use Rattle.std.proofs.lemmas.List.{length-replicate, length-take-le, drop-drop, drop_all, take_all}
use Rattle.std.proofs.Math.Nat.{div-mul-le_self, mul-le-mul_left}
use Rattle.std.proofs.lemmas.Nat.{le-div}
use Rattle.stream_model.specs.Cut.{cut, room_at}
use Rattle.stream_model.proofs.CutFacts.{cut_fits, cut_more, cut_none, cut_some}
use Rattle.tink_range.specs.Ranges.{all_places, chunk_count, places, text_length}
use Rattle.tink_range.specs.Shapes.{IsChunkPlace, start_at}

pub fits_or_not : (m n : ℕ) → (m ≤ n) ⊎ (n < m)
fits_or_not zero n = inl (omega arith)
fits_or_not (suc m) zero = inr (omega arith)
fits_or_not (suc m) (suc n) = elim (fits_or_not m n) [ inl h ↦ inl (omega arith) | inr h ↦ inr (omega arith) ]

start_at_same : (b n : ℕ) → start_at b b n ≡ n * b
start_at_same b zero = omega arith
start_at_same b (suc n) = omega arith

room_at_same : (b n : ℕ) → room_at b b n ≡ b
room_at_same b zero = refl
room_at_same b (suc n) = refl

pub start_at_more : (a b n : ℕ) → start_at a b (n + 1) ≡ a + n * b
start_at_more a b n = rw add-one refl

-- the next part begins behind this one
pub start_next : (a b n : ℕ) → start_at a b n + room_at a b n ≡ start_at a b (n + 1)
start_next a b zero = omega arith
start_next a b (suc n) = omega (arith, start_at_more a b (suc n))

-- a part's places are fewer than its bytes
pub room_less : (first size over n : ℕ) → room_at (first - over) (size - over) n ≡ room_at first size n - over
room_less first size over zero = refl
room_less first size over (suc n) = refl

-- some bytes are a chunk and those behind it
pub cut_step : (a b : ℕ) (X : List ℕ) → 0 < length X → 0 < a → 0 < b → cut a b X ≡ take a X ∷ cut b b (drop a X)
cut_step a b X some p q = elim (fits_or_not (length X) a) [
  | inl fits ↦
      let all : take a X ≡ X = take_all a X fits in
      let none : drop a X ≡ [] = drop_all a X fits in
      cut_fits a b X some fits ∙ ap (λ c. c ∷ []) (sym all) ∙ ap (λ cs. take a X ∷ cs) (sym (ap (cut b b) none ∙ cut_none b b))
  | inr more ↦ cut_more a b X more p q
]

-- what is behind the first n chunks
pub record IsSplit (a b over n : ℕ) (X : List ℕ) : Type 0 where
  pub text : all_places over (cut a b X) ≡ start_at (a - over) (b - over) n + all_places over (cut (room_at a b n) b (drop (start_at a b n) X))
  pub count : length (cut a b X) ≡ n + length (cut (room_at a b n) b (drop (start_at a b n) X))

pub split_at : (a b over n : ℕ) (X : List ℕ) → over < a → over < b → start_at a b n < length X → IsSplit a b over n X
split_at a b over zero X p q more = record { text = omega arith; count = omega arith }
split_at a b over (suc n) X p q more =
    let long : a < length X = omega arith in
    let split = cut_more a b X long (omega arith) (omega arith) in
    let start : start_at b b n ≡ n * b = start_at_same b n in
    let text : start_at (b - over) (b - over) n ≡ n * (b - over) = start_at_same (b - over) n in
    let own : places over (take a X) ≡ a - over = ap (λ k. k - over) (length-take-le a X (omega arith)) in
    let rest = split_at b b over n (drop a X) q q (omega (arith, length-drop a X, start)) in
    let tail : cut (room_at b b n) b (drop (start_at b b n) (drop a X)) ≡ cut b b (drop (a + n * b) X) =
    ap (λ k. cut k b (drop (start_at b b n) (drop a X))) (room_at_same b n) ∙ ap (λ k. cut b b (drop k (drop a X))) start ∙ ap (cut b b) (drop-drop (n * b) a X) in
    let whole : all_places over (cut a b X) ≡ places over (take a X) + all_places over (cut b b (drop a X)) = ap (all_places over) split in
    let chunks : length (cut a b X) ≡ suc (length (cut b b (drop a X))) = ap length split in
    record {
      text = omega (arith, whole, own, rest.text, text, ap (all_places over) tail);
      count = omega (arith, chunks, rest.count, ap length tail);
    }

-- bytes that end before the next chunk have no more places than those before it
pub places_most : (a b over n : ℕ) (X : List ℕ) → over < a → over < b → length X ≤ start_at a b n → all_places over (cut a b X) ≤ start_at (a - over) (b - over) n
places_most a b over n [] p q few = rw (cut_none a b) (omega arith)
places_most a b over zero (x ∷ X) p q few = absurd (omega arith)
places_most a b over (suc n) (x ∷ X) p q few = elim (fits_or_not (length (x ∷ X)) a) [
  | inl fits ↦ rw (cut_fits a b (x ∷ X) (omega arith) fits) (omega arith)
  | inr more ↦
      let start : start_at b b n ≡ n * b = start_at_same b n in
      let text : start_at (b - over) (b - over) n ≡ n * (b - over) = start_at_same (b - over) n in
      let rest = places_most b b over n (drop a (x ∷ X)) q q (omega (arith, length-drop a (x ∷ X), start)) in
      let own : places over (take a (x ∷ X)) ≡ a - over = ap (λ k. k - over) (length-take-le a (x ∷ X) (omega arith)) in
      let whole : all_places over (cut a b (x ∷ X)) ≡ places over (take a (x ∷ X)) + all_places over (cut b b (drop a (x ∷ X))) = ap (all_places over) (cut_more a b (x ∷ X) more (omega arith) (omega arith)) in
      omega (arith, whole, own, rest, text)
]

-- a chunk whose places begin below the end is inside
pub inside : (first size over behind lo n : ℕ) → over < first → first ≤ size → start_at (first - over) (size - over) n ≤ lo → lo < text_length first size over behind → start_at first size n < behind
inside first size over behind lo n p q low within = elim (fits_or_not behind (start_at first size n)) [
  | inl past ↦
      let zeros : List ℕ = replicate behind 0 in
      let long : length zeros ≡ behind = length-replicate {A = ℕ} behind 0 in
      absurd (omega (arith, places_most first size over n zeros p (omega arith) (omega (arith, long))))
  | inr there ↦ there
]

-- the chunk that is counted to a place
pub place_inside : (first size over behind lo : ℕ) → over < first → first ≤ size → first - over ≤ lo → lo < text_length first size over behind
    → first + (lo - (first - over)) / (size - over) * size < behind
place_inside first size over behind lo p q later within =
    let room : ℕ = first - over in
    let more : ℕ = (lo - room) / (size - over) in
    let below : more * (size - over) ≤ lo - room = div-mul-le_self (lo - room) (size - over) in
    let text : start_at room (size - over) (more + 1) ≡ room + more * (size - over) = start_at_more room (size - over) more in
    subst (λ (n : ℕ). n < behind) (start_at_more first size more) (inside first size over behind lo (more + 1) p q (omega (arith, text)) within)

-- a place of the text is no further than its byte
pub text_before : (a b over n : ℕ) → start_at (a - over) (b - over) n ≤ start_at a b n
text_before a b over zero = omega arith
text_before a b over (suc n) = let less : b - over ≤ b = omega arith in omega (arith, mul-le-mul_left n less)

module _ (first size over behind lo : ℕ) (p : over < first) (q : first ≤ size) where
  abbrev zeros : List ℕ
  zeros = replicate behind 0

  long : length zeros ≡ behind
  long = length-replicate {A = ℕ} behind 0

  module _ (number start text : ℕ) (here : IsChunkPlace first size over behind lo number start text) where
    abbrev room : ℕ
    room = room_at first size number

    abbrev rest : List ℕ
    rest = drop (start_at first size number) zeros

    split : IsSplit first size over number zeros
    split = split_at first size over number zeros p (omega arith) (omega (arith, here.inside, here.start_is, long))

    length_rest : length rest ≡ behind - start
    length_rest = omega (arith, length-drop (start_at first size number) zeros, long, here.start_is)

    pub room_some : over < room
    room_some = by number
      where
        by : (n : ℕ) → over < room_at first size n
        by zero = p
        by (suc n) = omega arith

    -- the places of the last chunk are the last ones
    pub last_text : behind - start ≤ room → text_length first size over behind ≡ text + (behind - start - over)
    last_text fits =
        let one : cut room size rest ≡ rest ∷ [] = cut_fits room size rest (omega (arith, length_rest, here.inside)) (omega (arith, length_rest)) in
        omega (arith, split.text, ap (all_places over) one, length_rest, here.text_is)

    pub number_few : chunk_count first size behind ≤ 2 ^ 32 → number < 2 ^ 32
    number_few few =
        let some = cut_some room size rest (omega (arith, length_rest, here.inside)) in
        omega (arith, split.count, ap length some.2)

    -- the range has a place of the chunk
    pub is_reached : lo < text_length first size over behind → lo < text + (min (behind - start) room - over)
    is_reached within = elim (fits_or_not (behind - start) room) [
      | inl fits ↦ omega (arith, last_text fits)
      | inr more ↦
          let next : start_at (first - over) (size - over) number + room_at (first - over) (size - over) number ≡ start_at (first - over) (size - over) (number + 1) = start_next (first - over) (size - over) number in
          omega (arith, next, here.reached, here.text_is, room_less first size over number)
    ]

    -- the next chunk, where the range goes on
    pub goes_on : (hi : ℕ) → hi ≤ text_length first size over behind → text + (min (behind - start) room - over) < hi
        → IsChunkPlace first size over behind lo (number + 1) (start + min (behind - start) room) (text + (min (behind - start) room - over))
    goes_on hi within more = elim (fits_or_not (behind - start) room) [
      | inl fits ↦ absurd (omega (arith, last_text fits))
      | inr longer ↦
          let next = start_next first size number in
          let next_text = start_next (first - over) (size - over) number in
          let after = start_next (first - over) (size - over) (number + 1) in
          record {
            start_is = omega (arith, next, here.start_is);
            text_is = omega (arith, next_text, here.text_is, room_less first size over number);
            inside = omega arith;
            reached = omega (arith, here.reached, after);
          }
    ]

-- the number of openings so far is in bounds
pub ticks_few : (m lo hi p : ℕ) → 0 < p → (0 < m → lo + (m - 1) * p < hi) → m ≤ (hi - lo + p - 1) / p
ticks_few zero lo hi p some spaced = omega arith
ticks_few (suc m) lo hi p some spaced =
    let before : suc m - 1 ≡ m = omega arith in
    let far : lo + m * p < hi = subst (λ (k : ℕ). lo + k * p < hi) before (spaced (omega arith)) in
    le-div (suc m) (hi - lo + p - 1) p some (omega (arith, far))
