-- Giving a range, said of an object that may tell its bytes.
use Rattle.std.proofs.Common.{◌≡◌, ◌⊎◌, inl, inr, ◌<◌, ◌≤◌, ◌+◌, ◌-◌, ◌*◌, ◌/◌, min, ℕ, zero, suc, true, false, List, [], ◌++◌, length, take, refl, sym, subst, arith, le_of_eq, Some, None, IfSome, length-append, length-drop}
use Rattle.std.specs.declared.option.Option.{Option}
use Rattle.std.specs.Io.KnownBytes.{Appends}
use Rattle.std.proofs.KnownBytes.{Appends-trans}
use Rattle.std.proofs.lemmas.List.{append-nil, length-take}
use Rattle.stream_model.specs.Cut.{room_at}
use Rattle.tink_range.specs.ChunkReading.{ChunkAt, OpensAt}
use Rattle.tink_range.specs.Giving.{Cutting, chunks_in}
use Rattle.tink_range.specs.Ranges.{StopsAtChunk, text_length, within}
use Rattle.tink_range.specs.Shapes.{IsChunkPlace, start_at}
use Rattle.tink_range.specs.StepCounts.{HasPlace, TouchesSoMany}
use Rattle.tink_range.proofs.GivingSteps.{HasGiven, begins, given_one, stops}
use Rattle.tink_range.proofs.PlaceFacts.{fits_or_not, goes_on, is_reached, last_text, room_less, room_some, start_next, ticks_few}

-- what was given and written so far
pub record Giving (c : Cutting) (lo hi : ℕ) (all got now : Option (List ℕ)) (given number start text : ℕ) : Type 0 where
  pub bytes : List ℕ
  pub gives : IfSome all (HasGiven c lo hi number start text bytes)
  pub written : Appends got now bytes
  pub count : given ≡ length bytes

-- how many chunks were opened so far: behind the first one each has its whole room in the range
pub record Ticks (lo hi p from number text before now : ℕ) : Type 0 where
  pub count : now ≡ before + (number - from)
  pub later : from ≤ number
  pub bound : number - from ≤ (hi - lo + p - 1) / p + 1
  pub spaced : from < number → text < hi → lo + (number - from - 1) * p < text

-- the first chunk that the range touches was not opened yet, or the chunk that was opened last has a place of the range, and
-- has no more places than its room
pub record HasOpened (first size hi from number text : ℕ) : Type 0 where
  pub none : number ≤ from → text < hi
  pub some : from < number → (start_at first size (number - 1) < hi) × (text ≤ start_at first size number)

pub Appends-none : (a : Option (List ℕ)) → Appends a a []
Appends-none None = tt
Appends-none (Some xs) = sym (append-nil xs)

-- nothing was given yet
pub nothing_given : (c : Cutting) (lo hi : ℕ) (all got : Option (List ℕ)) (number start text behind : ℕ) → c.over < c.first → c.first ≤ c.size
    → IfSome all (λ S. length S ≡ c.front + behind) → IsChunkPlace c.first c.size c.over behind lo number start text → text ≤ lo
    → Giving c lo hi all got got 0 number start text
nothing_given c lo hi all got number start text behind p q long place low = record { bytes = []; gives = by all long; written = Appends-none got; count = refl }
  where
    by : (o : Option (List ℕ)) → IfSome o (λ S. length S ≡ c.front + behind) → IfSome o (HasGiven c lo hi number start text [])
    by None h = tt
    by (Some S) h = begins c lo hi p q number start text behind S h place.start_is place.text_is place.inside low

pub nothing_opened : (first size lo hi number text : ℕ) → text ≤ lo → lo < hi → HasOpened first size hi number number text
nothing_opened first size lo hi number text low range = record { none = λ _. omega (arith, low, range); some = λ later. absurd (omega (arith, later)) }

-- the range has a place of the chunk that comes next
pub record IsNext (c : Cutting) (lo hi behind number start text : ℕ) : Type 0 where
  pub over : c.over < c.first
  pub sizes : c.first ≤ c.size
  pub place : IsChunkPlace c.first c.size c.over behind lo number start text
  pub range : lo < hi
  pub within : hi ≤ text_length c.first c.size c.over behind
  pub before : text < hi

module _ (c : Cutting) (lo hi behind number start text : ℕ) (here : IsNext c lo hi behind number start text) where
  abbrev pub room : ℕ
  room = room_at c.first c.size number

  abbrev pub own : ℕ
  own = min (behind - start) room - c.over

  abbrev pub chunk : ChunkAt
  chunk = record { number = number; start = c.front + start; rest = behind - start; room = room }

  reached : lo < text + own
  reached = is_reached c.first c.size c.over behind lo here.over here.sizes number start text here.place (omega (arith, here.range, here.within))

  roomy : c.over < room
  roomy = room_some c.first c.size c.over behind lo here.over here.sizes number start text here.place

  pub own_some : 0 < own
  own_some = elim (fits_or_not (behind - start) room) [
    | inl fits ↦ omega (arith, last_text c.first c.size c.over behind lo here.over here.sizes number start text here.place fits, here.within, here.before)
    | inr more ↦ omega (arith, roomy)
  ]

  long_by : (S : List ℕ) → length S ≡ c.front + behind → length S ≡ c.front + (start + (behind - start))
  long_by S long = omega (arith, here.place.inside)

  pub told_one : (all : Option (List ℕ)) (bytes t : List ℕ) → IfSome all (λ S. length S ≡ c.front + behind) → IfSome all (HasGiven c lo hi number start text bytes) → OpensAt c.seg chunk all true t
      → IfSome all (HasGiven c lo hi (number + 1) (start + min (behind - start) room) (text + own) (bytes ++ within lo hi text t))
  told_one None bytes t long given opens = tt
  told_one (Some S) bytes t long given opens =
      given_one c lo hi here.over here.sizes number start text (behind - start) S (long_by S long) (omega (arith, here.place.inside)) reached here.before here.range roomy bytes t own_some given opens

  pub told_stops : (all : Option (List ℕ)) (bytes : List ℕ) → IfSome all (λ S. length S ≡ c.front + behind) → IfSome all (HasGiven c lo hi number start text bytes) → OpensAt c.seg chunk all false []
      → IfSome all (λ S. StopsAtChunk c.seg c.over lo hi (chunks_in c S) bytes number)
  told_stops None bytes long given opens = tt
  told_stops (Some S) bytes long given opens =
      stops c lo hi here.over here.sizes number start text (behind - start) S (long_by S long) (omega (arith, here.place.inside)) reached here.before here.range roomy bytes own_some given opens

  -- the next chunk's part was written
  pub next_giving : (all got then now : Option (List ℕ)) (given n more first after text_after : ℕ) (t : List ℕ) → more ≡ given + n → first ≡ number + 1 → after ≡ start + min (behind - start) room → text_after ≡ text + own
      → IfSome all (λ S. length S ≡ c.front + behind) → Giving c lo hi all got then given number start text → OpensAt c.seg chunk all true t
      → Appends then now (within lo hi text t) → n ≡ length (within lo hi text t) → Giving c lo hi all got now more first after text_after
  next_giving all got then now given n more first after text_after t m f a x long state opens written count =
      let part : List ℕ = within lo hi text t in
      let next : Giving c lo hi all got now (given + n) (number + 1) (start + min (behind - start) room) (text + own) = record {
        bytes = state.bytes ++ part;
        gives = told_one all state.bytes t long state.gives opens;
        written = Appends-trans got then now state.bytes part state.written written;
        count = omega (arith, state.count, count, length-append state.bytes part);
      } in
      subst (λ (i : ℕ). Giving c lo hi all got now i first after text_after) (sym m)
      (subst (λ (i : ℕ). Giving c lo hi all got now (given + n) i after text_after) (sym f)
      (subst (λ (i : ℕ). Giving c lo hi all got now (given + n) (number + 1) i text_after) (sym a)
      (subst (λ (i : ℕ). Giving c lo hi all got now (given + n) (number + 1) (start + min (behind - start) room) i) (sym x) next)))

  -- the chunk behind it is a place of the range too, where the range goes on
  pub next_place_is : (first after text_after : ℕ) → first ≡ number + 1 → after ≡ start + min (behind - start) room → text_after ≡ text + own → text_after < hi
      → IsChunkPlace c.first c.size c.over behind lo first after text_after
  next_place_is first after text_after f a x more =
      let next = goes_on c.first c.size c.over behind lo here.over here.sizes number start text here.place hi here.within (omega (arith, x, more)) in
      subst (λ (i : ℕ). IsChunkPlace c.first c.size c.over behind lo i after text_after) (sym f)
      (subst (λ (i : ℕ). IsChunkPlace c.first c.size c.over behind lo (number + 1) i text_after) (sym a)
      (subst (λ (i : ℕ). IsChunkPlace c.first c.size c.over behind lo (number + 1) (start + min (behind - start) room) i) (sym x) next))

  -- the chunk that comes next is within what the range's own length fills
  pub before_few : (from before then : ℕ) → Ticks lo hi (c.size - c.over) from number text before then → number - from ≤ (hi - lo + (c.size - c.over) - 1) / (c.size - c.over)
  before_few from before then ticks =
      let p : ℕ = c.size - c.over in
      ticks_few (number - from) lo hi p (omega (arith, here.over, here.sizes)) (λ some. omega (arith, ticks.spaced (omega arith) here.before, here.before))

  -- so that a last one stays in bounds
  pub last_ticks : (from before then now : ℕ) → now ≤ then + 1 → Ticks lo hi (c.size - c.over) from number text before then → now ≤ before + (hi - lo + (c.size - c.over) - 1) / (c.size - c.over) + 1
  last_ticks from before then now one ticks = sum before then now (number - from) ((hi - lo + (c.size - c.over) - 1) / (c.size - c.over)) one (le_of_eq ticks.count) (before_few from before then ticks)
    where
      sum : (before then now n q : ℕ) → now ≤ then + 1 → then ≤ before + n → n ≤ q → now ≤ before + q + 1
      sum before then now n q a b d = omega arith

  -- one chunk more was opened
  pub next_ticks : (from first text_after before then now : ℕ) → first ≡ number + 1 → text_after ≡ text + own → from ≤ number → now ≡ then + 1
      → Ticks lo hi (c.size - c.over) from number text before then → Ticks lo hi (c.size - c.over) from first text_after before now
  next_ticks from first text_after before then now f x later one ticks =
      let few = before_few from before then ticks in
      record {
        count = omega (arith, ticks.count);
        later = omega arith;
        bound = omega (arith, few);
        spaced = λ some more. by (fits_or_not (behind - start) room) (fits_or_not number from) more;
      }
    where
      by : ((behind - start ≤ room) ⊎ (room < behind - start)) → ((number ≤ from) ⊎ (from < number)) → text_after < hi → lo + (first - from - 1) * (c.size - c.over) < text_after
      by (inl fits) old more = absurd (omega (arith, last_text c.first c.size c.over behind lo here.over here.sizes number start text here.place fits, here.within))
      by (inr longer) (inl same) more =
          let none : first - from - 1 ≡ 0 = omega arith in
          subst (λ (k : ℕ). lo + k * (c.size - c.over) < text_after) (sym none) (omega (arith, reached))
      by (inr longer) (inr past) more =
          let full : room ≡ c.size = whole number (omega arith) in
          let steps : first - from - 1 ≡ (number - from - 1) + 1 = omega arith in
          subst (λ (k : ℕ). lo + k * (c.size - c.over) < text_after) (sym steps) (omega (arith, ticks.spaced past here.before, full))
        where
          whole : (n : ℕ) → 0 < n → room_at c.first c.size n ≡ c.size
          whole zero some = absurd (omega arith)
          whole (suc n) some = refl

  -- and it has a place of the range
  pub next_opened : (from first text_after : ℕ) → first ≡ number + 1 → text_after ≡ text + own → from ≤ number → HasOpened (c.first - c.over) (c.size - c.over) hi from first text_after
  next_opened from first text_after f x later =
      let a : ℕ = c.first - c.over in
      let b : ℕ = c.size - c.over in
      let starts : text ≡ start_at a b number = here.place.text_is in
      let place : number + 1 - 1 ≡ number = omega arith in
      subst (λ (n : ℕ). HasOpened a b hi from n text_after) (sym f) (record {
        none = λ none. absurd (omega (arith, later));
        some = λ _. (
          subst (λ (n : ℕ). start_at a b n < hi) (sym place) (subst (λ (n : ℕ). n < hi) starts here.before),
          omega (arith, x, starts, start_next a b number, room_less c.first c.size c.over number),
        );
      })

-- the range's part of a text is no longer than the text
pub within_few : (lo hi at : ℕ) (t : List ℕ) → length (within lo hi at t) ≤ length t
within_few lo hi at t = omega (arith, length-drop (lo - at) (take (hi - at) t), length-take (hi - at) t)

-- all that were opened are in bounds
pub all_ticks : (lo hi p from number text before now : ℕ) → Ticks lo hi p from number text before now → now ≤ before + (hi - lo + p - 1) / p + 1
all_ticks lo hi p from number text before now t = sum before now (number - from) ((hi - lo + p - 1) / p) (le_of_eq t.count) t.bound
  where
    sum : (before now n q : ℕ) → now ≤ before + n → n ≤ q + 1 → now ≤ before + q + 1
    sum before now n q a b = omega arith

-- all that the range touches were opened
pub all_touched : (c : Cutting) (lo hi from number text before now : ℕ) → lo < hi → HasPlace c from lo → hi ≤ text → now ≡ before + (number - from) → HasOpened (c.first - c.over) (c.size - c.over) hi from number text
    → (count : ℕ) × TouchesSoMany c lo hi count × (now ≡ before + count + 0)
all_touched c lo hi from number text before now range begins end count opened = elim (fits_or_not number from) [
  | inl none ↦ absurd (omega (arith, opened.none none))
  | inr some ↦
      let place : number - 1 + 1 ≡ number = omega arith in
      let last = opened.some some in (
        number - from,
        record {
          none = λ empty. absurd (omega arith);
          some = λ _. record {
            first = from;
            last = number - 1;
            begins = begins;
            ends = (below_last (start_at (c.first - c.over) (c.size - c.over) (number - 1)) hi last.0, subst (λ (n : ℕ). hi - 1 < start_at (c.first - c.over) (c.size - c.over) n) (sym place) (last_below hi text lo (start_at (c.first - c.over) (c.size - c.over) number) range end last.1));
            count_is = omega arith;
          };
        },
        omega (arith, count),
      )
]
  where
    below_last : (n hi : ℕ) → n < hi → n ≤ hi - 1
    below_last n hi h = omega arith

    last_below : (hi text lo n : ℕ) → lo < hi → hi ≤ text → text ≤ n → hi - 1 < n
    last_below hi text lo n a b d = omega arith

-- an empty range touches none
pub none_touched_by : (c : Cutting) (lo hi before : ℕ) → hi ≤ lo → (count : ℕ) × TouchesSoMany c lo hi count × (before ≡ before + count + 0)
none_touched_by c lo hi before empty = (0, record { none = λ _. refl; some = λ range. absurd (omega (arith, empty, range)) }, omega arith)
