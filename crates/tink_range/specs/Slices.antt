-- Ranges of a whole stream.
use Rattle.std.specs.Prelude.{◌≡◌, ◌≤◌, ◌<◌, ℕ, Bool, List, length, take, drop, Some}
use Rattle.stream_model.specs.Agree.{joined}
use Rattle.stream_model.specs.Cut.{cut}
use Rattle.stream_model.specs.Key.{StreamKey, IsUsable}
use Rattle.stream_model.specs.Opening.{IsStream, chunks_of, header_of, opening_key}
use Rattle.tink_range.specs.Ranges.{AllGive, all_places, chunk_count, text_length}

-- of a stream of these texts a range gives that slice of the joined texts
abbrev pub IsSliceOfStream : Type 0
IsSliceOfStream =
    (aad : List ℕ) (k : StreamKey) (S bytes : List ℕ) (texts : List (List ℕ)) (seg : ℕ → Bool → List ℕ → List ℕ) (lo hi : ℕ)
    → IsUsable k → IsStream (opening_key aad k) S texts → (opening_key aad k).seg (header_of (opening_key aad k) S) ≡ Some seg
    → AllGive seg (opening_key aad k).overhead lo hi (chunks_of (opening_key aad k) S) bytes
    → bytes ≡ drop lo (take hi (joined texts))

-- the places and the chunks of so many bytes are those of any such bytes
abbrev pub IsShapeOfAny : Type 0
IsShapeOfAny =
    (first size over : ℕ) (X : List ℕ) → over < first → first ≤ size
    → (text_length first size over (length X) ≡ all_places over (cut first size X)) × (chunk_count first size (length X) ≡ length (cut first size X))
