-- How much is read of an object over several calls, as lemmas over plain numbers.
use Rattle.std.proofs.Common.{◌≡◌, inl, inr, ◌<◌, ◌≤◌, ◌+◌, ◌-◌, ◌*◌, ◌/◌, IfSome, max, min, ℕ, zero, suc, List, length, map, ap, sym, subst, ◌∙◌, arith, le_refl, le_trans, one-mul, add-mul, mul-le-mul, le-add_right}
use Rattle.std.specs.declared.option.Option.{Option}
use Rattle.std.proofs.lemmas.List.{length-map}
use Rattle.stream_model.specs.Cut.{room_at}
use Rattle.stream_model.specs.Opening.{OpeningKey}
use Rattle.tink_streaming_io.specs.Choosing.{Found}
use Rattle.tink_range.specs.Giving.{Cutting}
use Rattle.tink_range.specs.KeyRanges.{range_steps}
use Rattle.tink_range.specs.RangeReading.{range_end, range_start}
use Rattle.tink_range.specs.ReadCounts.{TakesRangeBytes}

-- a read that moved some bytes counts as many
pub one_read : (before then now done count : ℕ) → then ≤ before + done → now ≤ then + max 1 count → 0 < count → now ≤ before + (done + count)
one_read before then now done count a b c = omega arith

-- and one that failed counts one
pub failed_read : (before then now done len : ℕ) → then ≤ before + done → now ≤ then + 1 → done < len → now ≤ before + len
failed_read before then now done len a b c = omega arith

-- a chunk has no more bytes than its room
pub chunk_taken : (before now len n rest room : ℕ) → now ≤ before + len → len ≡ n → n ≡ min rest room → now ≤ before + room
chunk_taken before now len n rest room a b c = omega arith

pub room_most : (first size number : ℕ) → first ≤ size → room_at first size number ≤ size
room_most first size zero fits = fits
room_most first size (suc n) fits = le_refl size

-- a front alone, and a front and a first segment
pub front_taken : (before now n front sealed : ℕ) → now ≤ before + n → n ≡ front → front < sealed → now ≤ before + sealed
front_taken before now n front sealed a b c = omega arith

pub first_taken : (before then now n front first sealed : ℕ) → then ≤ before + n → n ≡ front → now ≤ then + first → front + first < sealed → now ≤ before + sealed
first_taken before then now n front first sealed a b c d = omega arith

-- one time more
next_time : (i r : ℕ) → i * r + r ≡ (i + 1) * r
next_time i r = sym (add-mul i 1 r ∙ ap (λ n. i * r + n) (one-mul r))

pub taken_next : (before then now i r : ℕ) → then ≤ before + i * r → now ≤ then + r → now ≤ before + (i + 1) * r
taken_next before then now i r a b = subst (λ (n : ℕ). now ≤ before + n) (next_time i r) (sum before then now (i * r) r a b)
  where
    sum : (before then now p r : ℕ) → then ≤ before + p → now ≤ then + r → now ≤ before + (p + r)
    sum before then now p r a b = omega arith

-- so many times at most
pub taken_most : (before now i n r : ℕ) → now ≤ before + i * r → i ≤ n → now ≤ before + n * r
taken_most before now i n r a b = sum before now (i * r) (n * r) a (mul-le-mul b (le_refl r))
  where
    sum : (before now p q : ℕ) → now ≤ before + p → p ≤ q → now ≤ before + q
    sum before now p q a b = omega arith

pub taken_last : (before then now i n r : ℕ) → then ≤ before + i * r → now ≤ then + r → i < n → now ≤ before + n * r
taken_last before then now i n r a b c = taken_most before now (i + 1) n r (taken_next before then now i r a b) (omega arith)

-- nothing was read
pub none_taken : (before n : ℕ) → before ≤ before + n
none_taken before n = omega arith

-- the last chunk, and then the others
pub taken_both : (before then now q r : ℕ) → then ≤ before + r → now ≤ then + (q + 1) * r → now ≤ before + (q + 2) * r
taken_both before then now q r a b =
    subst (λ (n : ℕ). now ≤ before + n) (next_time (q + 1) r ∙ ap (λ n. n * r) (two q)) (sum before then now ((q + 1) * r) r a b)
  where
    two : (q : ℕ) → q + 1 + 1 ≡ q + 2
    two q = omega arith

    sum : (before then now p r : ℕ) → then ≤ before + r → now ≤ then + p → now ≤ before + (p + r)
    sum before then now p r a b = omega arith

-- once is no more than several times
pub taken_once : (before now q r : ℕ) → now ≤ before + r → now ≤ before + (q + 2) * r
taken_once before now q r a = taken_most before now 1 (q + 2) r (subst (λ (n : ℕ). now ≤ before + n) (sym (one-mul r)) a) (omega arith)

-- for as many things as there are keys
pub taken_as_many : {B C : Type 0} (h : B → C) (xs : List B) (ks : List C) (before now room most : ℕ) → map h xs ≡ ks → room ≡ most → now ≤ before + length xs * room → now ≤ before + length ks * most
taken_as_many h xs ks before now room most are same a =
    subst (λ (n : ℕ). now ≤ before + n * most) (sym (length-map xs h) ∙ ap length are) (subst (λ (n : ℕ). now ≤ before + length xs * n) same a)

-- the keys that were tried, and the range
pub takes_bytes : (c : Cutting) (behind start len room before then now n whole : ℕ) (all : Option (List ℕ)) (keys : List OpeningKey) → n ≡ length keys → c.front + behind ≡ whole → IfSome all (λ S. Found keys S c.seg c.front c.first c.size c.over)
    → then ≤ before + n * room → now ≤ then + ((range_end c behind start len - range_start c behind start + (c.size - c.over) - 1) / (c.size - c.over) + 2) * c.size → TakesRangeBytes keys all whole start len room before now
takes_bytes c behind start len room before then now n whole all keys count whole_is found tried given =
    inr (record {
      cutting = c;
      behind = behind;
      found = found;
      whole_is = whole_is;
      then = sum before then now (length keys * room) (range_steps c behind start len * c.size) (subst (λ (m : ℕ). then ≤ before + m * room) count tried) given;
    })
  where
    sum : (before then now p q : ℕ) → then ≤ before + p → now ≤ then + q → now ≤ before + p + q
    sum before then now p q a b = omega arith

pub few_bytes : {T : Type 0} (of : T → OpeningKey) (ks : List T) (all : Option (List ℕ)) (whole start len room before now : ℕ) → now ≤ before + length ks * room → TakesRangeBytes (map of ks) all whole start len room before now
few_bytes of ks all whole start len room before now few = inl (subst (λ (n : ℕ). now ≤ before + n * room) (sym (length-map ks of)) few)

-- one chunk more was read behind the first one
pub chunk_more : (before then now from number next r : ℕ) → from ≤ number → next ≡ number + 1 → then ≤ before + (number - from) * r → now ≤ then + r → now ≤ before + (next - from) * r
chunk_more before then now from number next r later is a b =
    subst (λ (n : ℕ). now ≤ before + n * r) (one from number next later is) (taken_next before then now (number - from) r a b)
  where
    one : (from number next : ℕ) → from ≤ number → next ≡ number + 1 → number - from + 1 ≡ next - from
    one from number next later is = omega arith
