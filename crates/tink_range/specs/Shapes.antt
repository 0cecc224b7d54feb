-- Where the chunks of bytes begin, and how many there are.
use Rattle.std.specs.Prelude.{◌≡◌, ℕ, zero, suc, ◌+◌, ◌-◌, ◌*◌, ◌<◌, ◌≤◌, List, length, drop}
use Rattle.stream_model.specs.Cut.{cut, last_chunk}
use Rattle.tink_range.specs.Ranges.{all_places, text_length}

-- what is before part i, where the first part has `first` bytes and each later one `size`
abbrev pub start_at : ℕ → ℕ → ℕ → ℕ
start_at first size zero = 0
start_at first size (suc i) = first + i * size

-- the shape of bytes that are cut: their number of chunks, their places, and what is before the last chunk
pub record HasShape (first size over : ℕ) (X : List ℕ) (count text last : ℕ) : Type 0 where
  pub chunks : length (cut first size X) ≡ count
  pub places : all_places over (cut first size X) ≡ text
  pub last_is : last_chunk (cut first size X) ≡ drop last X

-- a chunk inside of so many bytes: its number, what is before it, and the places of the text before it; the range begins
-- before the next chunk's places
pub record IsChunkPlace (first size over behind lo number start text : ℕ) : Type 0 where
  pub start_is : start ≡ start_at first size number
  pub text_is : text ≡ start_at (first - over) (size - over) number
  pub inside : start < behind
  pub reached : lo < start_at (first - over) (size - over) (number + 1)

-- a range that is not empty and inside of the text, and the chunk where it begins
pub record BeginsRange (first size over behind lo hi number start text : ℕ) : Type 0 where
  pub range : lo < hi
  pub within : hi ≤ text_length first size over behind
  pub place : IsChunkPlace first size over behind lo number start text
  pub low : text ≤ lo

-- the last chunk has this number and begins here
pub record IsLast (first size : ℕ) (X : List ℕ) (number start : ℕ) : Type 0 where
  pub chunks : length (cut first size X) ≡ number + 1
  pub last_is : last_chunk (cut first size X) ≡ drop start X
