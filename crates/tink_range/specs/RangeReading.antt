-- What reading a range says.
use Rattle.std.specs.Prelude.{◌≡◌, ◌⊎◌, ◌↔◌, ℕ, ◌+◌, ◌-◌, ◌/◌, ◌^◌, ◌<◌, ◌≤◌, min, true, List, [], length, Some, IfSome, IsOk, Result, Ok, Err}
use Rattle.std.specs.declared.option.Option.{Option}
use Rattle.tink_io.specs.Faults.{Rose}
use Rattle.tink_io.specs.declared.error.Kind.{Kind}
use Rattle.tink_io.specs.declared.error.Kind.TheVariants.{BadSegment, ReadFault, TooManySegments, Truncated, WriteFault}
use Rattle.tink_io.specs.declared.error.TinkError.{TinkError}
use Rattle.stream_model.specs.Cut.{last_chunk}
use Rattle.tink_range.specs.ChunkReading.{Moments}
use Rattle.tink_range.specs.Giving.{Cutting, GaveAll, GaveSome, GaveUpTo, chunks_in}
use Rattle.tink_range.specs.Ranges.{AllGive, LastAgrees, chunk_count, text_length}

-- chunk n is the last one and the segment of no text, and this holds of its length
pub record RefusesLast (c : Cutting) (behind : ℕ) (all : Option (List ℕ)) (n : ℕ) (P : ℕ → Type 0) : Type 0 where
  pub number : n + 1 ≡ chunk_count c.first c.size behind
  pub none : IfSome all (λ S. (t : List ℕ) → c.seg n true t ≡ last_chunk (chunks_in c S) → ⊥)
  pub size : IfSome all (λ S. P (length (last_chunk (chunks_in c S))))

-- what the opening of the last chunk answers
abbrev pub LastRefused : Cutting → ℕ → Option (List ℕ) → ℕ → ℕ → Kind → Type 0
LastRefused c behind all before after ReadFault = Rose before after
LastRefused c behind all before after (Truncated n) = RefusesLast c behind all n (λ len. len < c.over)
LastRefused c behind all before after (BadSegment n) = RefusesLast c behind all n (λ len. c.over ≤ len)
LastRefused c behind all before after _ = ⊥

abbrev pub LastMeans : Cutting → ℕ → Option (List ℕ) → ℕ → ℕ → Result (Unit {0}) TinkError → Type 0
LastMeans c behind all before after (Ok _) = IfSome all (λ S. LastAgrees c.seg (chunks_in c S))
LastMeans c behind all before after (Err e) = LastRefused c behind all before after e.kind

-- what checking the end answers: there are no more chunks than numbers, and the last one is the segment of a text
abbrev pub EndRefused : Cutting → ℕ → Option (List ℕ) → ℕ → ℕ → Kind → Type 0
EndRefused c behind all before after TooManySegments = 2 ^ 32 < chunk_count c.first c.size behind
EndRefused c behind all before after kind = (chunk_count c.first c.size behind ≤ 2 ^ 32) × LastRefused c behind all before after kind

abbrev pub EndMeans : {T : Type 0} → Cutting → ℕ → Option (List ℕ) → ℕ → ℕ → Result T TinkError → Type 0
EndMeans c behind all before after (Ok _) = (chunk_count c.first c.size behind ≤ 2 ^ 32) × IfSome all (λ S. LastAgrees c.seg (chunks_in c S))
EndMeans c behind all before after (Err e) = EndRefused c behind all before after e.kind

-- the range's first place, and the one behind its last
abbrev pub range_start : Cutting → ℕ → ℕ → ℕ
range_start c behind start = min start (text_length c.first c.size c.over behind)

abbrev pub range_end : Cutting → ℕ → ℕ → ℕ → ℕ
range_end c behind start len = min (start + len) (text_length c.first c.size c.over behind)

-- how many chunks the text of the range fills, the last one in part
abbrev pub filled_chunks : Cutting → ℕ → ℕ → ℕ → ℕ
filled_chunks c behind start len =
    (range_end c behind start len - range_start c behind start + (c.size - c.over) - 1) / (c.size - c.over)

module _ {W : Type 0} (got : W → Option (List ℕ)) (faults : W → ℕ) (c : Cutting) (behind start len : ℕ) (e : Moments W) where
  -- the last chunk is the segment of a text
  abbrev pub Checked : Type 0
  Checked = IfSome e.all (λ S. LastAgrees c.seg (chunks_in c S))

  -- the last chunk and all touched ones are segments of texts, and the range's parts of these were written
  pub record GaveRange (n : ℕ) : Type 0 where
    pub few : chunk_count c.first c.size behind ≤ 2 ^ 32
    pub checked : Checked
    pub gave : GaveAll got faults c (range_start c behind start) (range_end c behind start len) e n

  -- the object or the sink failed: nothing was written where the last chunk is the segment of no text
  pub record GavePrefixOfRange (before after : ℕ) : Type 0 where
    pub few : chunk_count c.first c.size behind ≤ 2 ^ 32
    pub gave : GaveSome got faults c (range_start c behind start) (range_end c behind start len) e before after
    pub checked : (gave.bytes ≡ []) ⊎ Checked

  -- there are more chunks than numbers, and nothing was written
  pub record HasTooManyChunks : Type 0 where
    pub many : 2 ^ 32 < chunk_count c.first c.size behind
    pub same : e.new ≡ e.old

  -- the last chunk is refused, and nothing was written
  pub record StopsAtLast (n : ℕ) (P : ℕ → Type 0) : Type 0 where
    pub few : chunk_count c.first c.size behind ≤ 2 ^ 32
    pub last : RefusesLast c behind e.all n P
    pub same : e.new ≡ e.old

  -- a touched chunk is refused, and the range's parts of those before it were written
  pub record StopsInRange (n : ℕ) : Type 0 where
    pub few : chunk_count c.first c.size behind ≤ 2 ^ 32
    pub checked : Checked
    pub gave : GaveUpTo got faults c (range_start c behind start) (range_end c behind start len) e n

  -- each refusal
  abbrev pub RangeRefused : Kind → Type 0
  RangeRefused ReadFault = GavePrefixOfRange e.reads_before e.reads_after
  RangeRefused WriteFault = GavePrefixOfRange (faults e.old) (faults e.new)
  RangeRefused TooManySegments = HasTooManyChunks
  RangeRefused (Truncated n) = StopsAtLast n (λ size. size < c.over)
  RangeRefused (BadSegment n) = StopsAtLast n (λ size. c.over ≤ size) ⊎ StopsInRange n
  RangeRefused _ = ⊥

-- what reading a range answers
abbrev pub RangeMeans : {W : Type 0} → (W → Option (List ℕ)) → (W → ℕ) → Cutting → ℕ → ℕ → ℕ → Moments W → Result ℕ TinkError → Type 0
RangeMeans got faults c behind start len e (Ok n) = GaveRange got faults c behind start len e n
RangeMeans got faults c behind start len e (Err error) = RangeRefused got faults c behind start len e error.kind

-- ---- known bytes

-- there are at most 2^32 chunks, and the last one and all that the range touches are segments of texts
pub record CanGive (c : Cutting) (behind start len : ℕ) (S : List ℕ) : Type 0 where
  pub few : chunk_count c.first c.size behind ≤ 2 ^ 32
  pub last : LastAgrees c.seg (chunks_in c S)
  pub bytes : List ℕ
  pub gives : AllGive c.seg c.over (range_start c behind start) (range_end c behind start len) (chunks_in c S) bytes

-- where neither count rose, the answer is Ok exactly where the range can be given
abbrev pub IsGivenExactly : {W : Type 0} → (W → ℕ) → Cutting → ℕ → ℕ → ℕ → Moments W → Result ℕ TinkError → Type 0
IsGivenExactly faults c behind start len e answer =
    (S : List ℕ) → e.all ≡ Some S
    → (Rose e.reads_before e.reads_after → ⊥) → (Rose (faults e.old) (faults e.new) → ⊥)
    → IsOk answer ↔ CanGive c behind start len S
