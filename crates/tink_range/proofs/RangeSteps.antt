-- From the last chunk's opening and the giving of a range to the answer.
use Rattle.std.proofs.Common.{◌≡◌, inl, inr, ◌<◌, ◌≤◌, ◌+◌, ◌-◌, ◌*◌, ◌/◌, ◌^◌, min, ℕ, List, [], refl, sym, ap, subst, ◌∙◌, arith, Some, None, IfSome}
use Rattle.std.specs.Prelude.{Result, Ok, Err}
use Rattle.std.specs.declared.option.Option.{Option}
use Rattle.tink_io.proofs.FaultLemmas.{Rose-earlier}
use Rattle.tink_io.specs.declared.error.TinkError.{TinkError}
use Rattle.tink_io.specs.declared.error.Kind.{Kind}
use Rattle.tink_io.specs.declared.error.Kind.TheVariants.{BadSegment, ReadFault, TooManySegments, Truncated, WriteFault}
use Rattle.tink_streaming_segment.specs.declared.segment_traits.SegmentDecrypter.{Ghosts}
use Rattle.tink_streaming_io.specs.Openers.{segment_map}
use Rattle.tink_streaming_segment.specs.declared.opener.Opener.{Opener}
use Rattle.tink_range.specs.ChunkReading.{Moments}
use Rattle.tink_range.specs.Giving.{Cutting, GiveMeans, GiveRefused, chunks_in}
use Rattle.tink_range.specs.RangeCores.{IsSameCore, cutting_of}
use Rattle.tink_range.specs.RangeReading.{EndRefused, LastRefused, RangeMeans, RangeRefused, range_end, range_start}
use Rattle.tink_range.specs.Ranges.{LastAgrees, SomeGive, chunk_count, text_length}
use Rattle.tink_range.specs.StepCounts.{TakesTouched, TouchesSoMany}
use Rattle.tink_range.specs.declared.chunks.RangeCore.{RangeCore}
use Rattle.tink_range.proofs.GivingTold.{Appends-none}
use Rattle.tink_range.proofs.TakenFacts.{taken_both}

-- cores that open alike cut alike
pub same_cutting : {D : Type 0} {g : Ghosts D} (old core : RangeCore D g) → IsSameCore old core → cutting_of core ≡ cutting_of old
same_cutting {D} {g} old core same =
    let of : Opener D g → ℕ → Cutting = λ o f. record { seg = segment_map o; front = f; first = o.first; size = o.size; over = o.overhead } in
    ap (λ o. of o core.front) same.opener ∙ ap (of old.opener) same.front

-- and what they cut is as long
module _ {D : Type 0} {g : Ghosts D} (old core : RangeCore D g) (same : IsSameCore old core) where
  pub few_same : chunk_count old.opener.first old.opener.size old.behind ≤ 2 ^ 32 → chunk_count core.opener.first core.opener.size core.behind ≤ 2 ^ 32
  few_same few =
      subst (λ (o : Opener D g). chunk_count o.first o.size core.behind ≤ 2 ^ 32) (sym same.opener)
      (subst (λ (n : ℕ). chunk_count old.opener.first old.opener.size n ≤ 2 ^ 32) (sym same.behind) few)

  pub within_same : (hi : ℕ) → hi ≤ text_length old.opener.first old.opener.size old.opener.overhead old.behind → hi ≤ text_length core.opener.first core.opener.size core.opener.overhead core.behind
  within_same hi most =
      subst (λ (o : Opener D g). hi ≤ text_length o.first o.size o.overhead core.behind) (sym same.opener)
      (subst (λ (n : ℕ). hi ≤ text_length old.opener.first old.opener.size old.opener.overhead n) (sym same.behind) most)

  -- the steps of the last chunk and of a range
  pub range_ticks : (start len lo hi before mid now : ℕ) → lo ≡ range_start (cutting_of old) old.behind start → hi ≡ range_end (cutting_of old) old.behind start len
      → mid ≤ before + 1 → now ≤ mid + (hi - lo + (core.opener.size - core.opener.overhead) - 1) / (core.opener.size - core.opener.overhead) + 1
      → now ≤ before + (range_end (cutting_of old) old.behind start len - range_start (cutting_of old) old.behind start + (old.opener.size - old.opener.overhead) - 1) / (old.opener.size - old.opener.overhead) + 2
  range_ticks start len lo hi before mid now l h one given =
      let of : ℕ → ℕ → ℕ → ℕ = λ a b p. (b - a + p - 1) / p in
      let p : core.opener.size - core.opener.overhead ≡ old.opener.size - old.opener.overhead = ap (λ o. o.size - o.overhead) same.opener in
      let all : of lo hi (core.opener.size - core.opener.overhead) ≡ of (range_start (cutting_of old) old.behind start) (range_end (cutting_of old) old.behind start len) (old.opener.size - old.opener.overhead) =
      ap (λ k. of lo hi k) p ∙ ap (λ k. of lo k (old.opener.size - old.opener.overhead)) h ∙ ap (λ k. of k (range_end (cutting_of old) old.behind start len) (old.opener.size - old.opener.overhead)) l in
      added before mid now (of lo hi (core.opener.size - core.opener.overhead)) (of (range_start (cutting_of old) old.behind start) (range_end (cutting_of old) old.behind start len) (old.opener.size - old.opener.overhead)) one given all
    where
      added : (old mid new q r : ℕ) → mid ≤ old + 1 → new ≤ mid + q + 1 → q ≡ r → new ≤ old + r + 2
      added old mid new q r a b e = omega arith

  -- no more was read than those chunks
  pub range_taken : (start len lo hi before mid now : ℕ) → lo ≡ range_start (cutting_of old) old.behind start → hi ≡ range_end (cutting_of old) old.behind start len
      → mid ≤ before + old.opener.size → now ≤ mid + ((hi - lo + (core.opener.size - core.opener.overhead) - 1) / (core.opener.size - core.opener.overhead) + 1) * core.opener.size
      → now ≤ before + ((range_end (cutting_of old) old.behind start len - range_start (cutting_of old) old.behind start + (old.opener.size - old.opener.overhead) - 1) / (old.opener.size - old.opener.overhead) + 2) * old.opener.size
  range_taken start len lo hi before mid now l h one given =
      let of : ℕ → ℕ → ℕ → ℕ = λ a b p. (b - a + p - 1) / p in
      let p : core.opener.size - core.opener.overhead ≡ old.opener.size - old.opener.overhead = ap (λ o. o.size - o.overhead) same.opener in
      let all : of lo hi (core.opener.size - core.opener.overhead) ≡ of (range_start (cutting_of old) old.behind start) (range_end (cutting_of old) old.behind start len) (old.opener.size - old.opener.overhead) =
      ap (λ k. of lo hi k) p ∙ ap (λ k. of lo k (old.opener.size - old.opener.overhead)) h ∙ ap (λ k. of k (range_end (cutting_of old) old.behind start len) (old.opener.size - old.opener.overhead)) l in
      taken_both before mid now (of (range_start (cutting_of old) old.behind start) (range_end (cutting_of old) old.behind start len) (old.opener.size - old.opener.overhead)) old.opener.size one
      (subst (λ (n : ℕ). now ≤ mid + (n + 1) * old.opener.size) all (subst (λ (n : ℕ). now ≤ mid + (of lo hi (core.opener.size - core.opener.overhead) + 1) * n) (ap (λ o. o.size) same.opener) given))

  -- the last chunk was opened, and then those that the range touches
  pub range_touched : (start len lo hi before mid now : ℕ) (r : Result ℕ TinkError) → lo ≡ range_start (cutting_of old) old.behind start → hi ≡ range_end (cutting_of old) old.behind start len
      → mid ≡ before + 1 → TakesTouched (cutting_of core) lo hi 0 mid now r → TakesTouched (cutting_of old) (range_start (cutting_of old) old.behind start) (range_end (cutting_of old) old.behind start len) 1 before now r
  range_touched start len lo hi before mid now (Err e) l h one given = tt
  range_touched start len lo hi before mid now (Ok n) l h one given = (
    given.0,
    subst (λ (c : Cutting). TouchesSoMany c (range_start (cutting_of old) old.behind start) (range_end (cutting_of old) old.behind start len) given.0) (same_cutting old core same)
        (subst (λ (k : ℕ). TouchesSoMany (cutting_of core) k (range_end (cutting_of old) old.behind start len) given.0) l (subst (λ (k : ℕ). TouchesSoMany (cutting_of core) lo k given.0) h given.1)),
    sum before mid now given.0 one given.2,
  )
    where
      sum : (before mid now count : ℕ) → mid ≡ before + 1 → now ≡ mid + count + 0 → now ≡ before + count + 1
      sum before mid now count a b = omega arith

-- there are no more chunks than numbers, or more
pub few_of : (chunks count most : ℕ) → chunks ≡ count → count - 1 ≤ most → most ≡ 2 ^ 32 - 1 → chunks ≤ 2 ^ 32
few_of chunks count most a b c = omega arith

pub many_of : (chunks count most : ℕ) → chunks ≡ count → most < count - 1 → most ≡ 2 ^ 32 - 1 → 2 ^ 32 < chunks
many_of chunks count most a b c = omega arith

-- a range's end is inside
pub end_inside : (hi a text whole : ℕ) → hi ≡ min a text → whole ≡ text → hi ≤ whole
end_inside hi a text whole e f = omega arith

-- a refusal of the end by this kind
pub end_refusal : (c : Cutting) (behind : ℕ) (all : Option (List ℕ)) (before after : ℕ) (error : TinkError) (kind : Kind) → error ≡ record { kind = kind } → EndRefused c behind all before after kind → EndRefused c behind all before after error.kind
end_refusal c behind all before after error kind is r = subst (λ (x : TinkError). EndRefused c behind all before after x.kind) (sym is) r

-- the refusal of the last chunk, where there are no more chunks than numbers
pub end_refused : (c : Cutting) (behind : ℕ) (all : Option (List ℕ)) (before after : ℕ) (kind : Kind) → chunk_count c.first c.size behind ≤ 2 ^ 32 → LastRefused c behind all before after kind → EndRefused c behind all before after kind
end_refused c behind all before after TooManySegments few last = absurd last
end_refused c behind all before after _ few last = (few, last)

module _ {W : Type 0} (got : W → Option (List ℕ)) (faults : W → ℕ) (c : Cutting) (behind start len : ℕ) (few : chunk_count c.first c.size behind ≤ 2 ^ 32) where
  none_given : (lo hi : ℕ) (all : Option (List ℕ)) → IfSome all (λ S. SomeGive c.seg c.over lo hi (chunks_in c S) [])
  none_given lo hi None = tt
  none_given lo hi (Some S) = (0, 0, chunks_in c S, (refl, refl, refl))

  -- the last chunk is refused, and nothing was written
  last_refused : (all : Option (List ℕ)) (before after : ℕ) (w : W) (kind : Kind) → LastRefused c behind all before after kind
      → RangeRefused got faults c behind start len (record { all = all; reads_before = before; reads_after = after; old = w; new = w }) kind
  last_refused all before after w ReadFault rose = record {
    few = few;
    gave = record { rose = rose; bytes = []; gives = none_given (range_start c behind start) (range_end c behind start len) all; written = (0, omega arith, Appends-none (got w)) };
    checked = inl refl;
  }
  last_refused all before after w (Truncated n) last = record { few = few; last = last; same = refl }
  last_refused all before after w (BadSegment n) last = inl (record { few = few; last = last; same = refl })
  last_refused all before after w _ none = absurd none

  given_refused : (e : Moments W) (then : ℕ) (kind : Kind) → e.reads_before ≤ then → IfSome e.all (λ S. LastAgrees c.seg (chunks_in c S))
      → GiveRefused got faults c (range_start c behind start) (range_end c behind start len) (record e { reads_before = then }) kind → RangeRefused got faults c behind start len e kind
  given_refused e then ReadFault before checked gave = record {
    few = few;
    gave = record { rose = Rose-earlier _ _ _ before gave.rose; bytes = gave.bytes; gives = gave.gives; written = gave.written };
    checked = inr checked;
  }
  given_refused e then WriteFault before checked gave = record {
    few = few;
    gave = record { rose = gave.rose; bytes = gave.bytes; gives = gave.gives; written = gave.written };
    checked = inr checked;
  }
  given_refused e then (BadSegment n) before checked gave = inr (record {
    few = few;
    checked = checked;
    gave = record { bytes = gave.bytes; stops = gave.stops; written = gave.written };
  })
  given_refused e then _ before checked gave = absurd gave

  given_here : (e : Moments W) (then : ℕ) (r : Result ℕ TinkError) → e.reads_before ≤ then → IfSome e.all (λ S. LastAgrees c.seg (chunks_in c S))
      → GiveMeans got faults c (range_start c behind start) (range_end c behind start len) (record e { reads_before = then }) r → RangeMeans got faults c behind start len e r
  given_here e then (Ok n) before checked gave = record {
    few = few;
    checked = checked;
    gave = record { bytes = gave.bytes; gives = gave.gives; written = gave.written; count = gave.count };
  }
  given_here e then (Err error) before checked gave = given_refused e then error.kind before checked gave

  -- what giving the range answers once the last chunk was opened
  pub range_given : (e : Moments W) (other : Cutting) (known : Option (List ℕ)) (then lo hi : ℕ) (r : Result ℕ TinkError) → other ≡ c → known ≡ e.all → lo ≡ range_start c behind start → hi ≡ range_end c behind start len
      → e.reads_before ≤ then → IfSome e.all (λ S. LastAgrees c.seg (chunks_in c S))
      → GiveMeans got faults other lo hi (record { all = known; reads_before = then; reads_after = e.reads_after; old = e.old; new = e.new }) r → RangeMeans got faults c behind start len e r
  range_given e other known then lo hi r cuts told l h before checked gave =
      let of : Cutting → Option (List ℕ) → ℕ → ℕ → Type 0 = λ k all a b. GiveMeans got faults k a b (record { all = all; reads_before = then; reads_after = e.reads_after; old = e.old; new = e.new }) r in
      given_here e then r before checked
      (subst (λ (k : Cutting). of k e.all (range_start c behind start) (range_end c behind start len)) cuts
      (subst (λ (k : Option (List ℕ)). of other k (range_start c behind start) (range_end c behind start len)) told
      (subst (λ (k : ℕ). of other known k (range_end c behind start len)) l
      (subst (λ (k : ℕ). of other known lo k) h gave))))

-- the end is refused, and nothing was written
pub range_not_begun : {W : Type 0} (got : W → Option (List ℕ)) (faults : W → ℕ) (c : Cutting) (behind start len : ℕ) (all : Option (List ℕ)) (before after : ℕ) (w : W) (kind : Kind) → EndRefused c behind all before after kind
    → RangeRefused got faults c behind start len (record { all = all; reads_before = before; reads_after = after; old = w; new = w }) kind
range_not_begun got faults c behind start len all before after w TooManySegments many = record { many = many; same = refl }
range_not_begun got faults c behind start len all before after w ReadFault r = last_refused got faults c behind start len r.0 all before after w ReadFault r.1
range_not_begun got faults c behind start len all before after w (Truncated n) r = last_refused got faults c behind start len r.0 all before after w (Truncated n) r.1
range_not_begun got faults c behind start len all before after w (BadSegment n) r = last_refused got faults c behind start len r.0 all before after w (BadSegment n) r.1
range_not_begun got faults c behind start len all before after w _ r = absurd r.1
