-- What is told of a stream without its text.
use Rattle.std.specs.Prelude.{◌≡◌, ◌⊎◌, ◌≤◌, ℕ, ◌^◌, List, [], ◌∷◌, map, None, IfSome, Result, Ok, Err}
use Rattle.std.specs.declared.option.Option.{Option}
use Rattle.tink_io.specs.Faults.{Rose}
use Rattle.tink_io.specs.declared.error.Kind.{Kind}
use Rattle.tink_io.specs.declared.error.Kind.TheVariants.{BadSegment, NoMatchingKey, ReadFault, TooManySegments, Truncated}
use Rattle.tink_io.specs.declared.error.TinkError.{TinkError}
use Rattle.stream_model.specs.Opening.{Begins, IsChosen, OpeningKey}
use Rattle.tink_range.specs.ChoosingAt.{IsPlaced}
use Rattle.tink_range.specs.Giving.{Cutting, chunks_in}
use Rattle.tink_range.specs.KeyRanges.{IsCutUnder}
use Rattle.tink_range.specs.RangeReading.{EndRefused}
use Rattle.tink_range.specs.Ranges.{LastAgrees, chunk_count, text_length}
use Rattle.tink_range.specs.declared.stream_sizes.StreamSizes.{StreamSizes}

-- there are no more chunks than numbers, the last one is the segment of a text, and so many chunks and places there are
pub record Measures (c : Cutting) (behind : ℕ) (all : Option (List ℕ)) (segments text_len : ℕ) : Type 0 where
  pub few : chunk_count c.first c.size behind ≤ 2 ^ 32
  pub checked : IfSome all (λ S. LastAgrees c.seg (chunks_in c S))
  pub segments_is : segments ≡ chunk_count c.first c.size behind
  pub text_is : text_len ≡ text_length c.first c.size c.over behind

-- the same of a stream whose key stands in a place of a list
pub record MeasuresUnder {K : Type 0} (of : K → OpeningKey) (ks : List K) (all : Option (List ℕ)) (s : StreamSizes) (c : Cutting) (behind : ℕ) : Type 0 where
  pub measures : Measures c behind all s.segments s.text_len
  pub placed : IsPlaced of ks all s.place c.size

-- each refusal
abbrev pub SizesRefused : List OpeningKey → Option (List ℕ) → ℕ → ℕ → ℕ → Kind → Type 0
SizesRefused keys all whole before after NoMatchingKey = IfSome all (λ S. IsChosen keys S None)
SizesRefused keys all whole before after ReadFault = Rose before after
SizesRefused keys all whole before after TooManySegments = IsCutUnder keys all whole (λ c behind. EndRefused c behind all before after TooManySegments)
SizesRefused keys all whole before after (Truncated n) = IsCutUnder keys all whole (λ c behind. EndRefused c behind all before after (Truncated n))
SizesRefused keys all whole before after (BadSegment n) = IsCutUnder keys all whole (λ c behind. EndRefused c behind all before after (BadSegment n))
SizesRefused keys all whole before after _ = ⊥

-- what the sizes under keys answer
abbrev pub SizesMean : {K : Type 0} → (K → OpeningKey) → List K → Option (List ℕ) → ℕ → ℕ → ℕ → Result StreamSizes TinkError → Type 0
SizesMean of ks all whole before after (Ok s) = IsCutUnder (map of ks) all whole (MeasuresUnder of ks all s)
SizesMean of ks all whole before after (Err e) = SizesRefused (map of ks) all whole before after e.kind

-- the id of the first of the keys under which the stream begins
abbrev pub IsIdOfChosen : {K : Type 0} → (K → OpeningKey) → (K → ℕ) → List K → List ℕ → ℕ → Type 0
IsIdOfChosen of id_of [] S id = ⊥
IsIdOfChosen of id_of (k ∷ ks) S id = (Begins (of k) S × (id ≡ id_of k)) ⊎ ((Begins (of k) S → ⊥) × IsIdOfChosen of id_of ks S id)
