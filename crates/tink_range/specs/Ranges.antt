-- Ranges of the text of a stream, by the stream's chunks.
use Rattle.std.specs.Prelude.{◌≡◌, ℕ, zero, suc, ◌+◌, ◌-◌, ◌<◌, max, min, nat_lt, Bool, true, false, List, [], ◌∷◌, ◌++◌, length, take, drop, replicate}
use Rattle.stream_model.specs.Cut.{cut, last_chunk}
use Rattle.stream_model.specs.Agree.{is_last}

-- ---- places

-- a text has so many places, and so a chunk by its length: none where it is shorter than the overhead
abbrev pub places : ℕ → List ℕ → ℕ
places over chunk = length chunk - over

-- the places of some chunks
abbrev pub all_places : ℕ → List (List ℕ) → ℕ
all_places over [] = 0
all_places over (c ∷ cs) = places over c + all_places over cs

-- the places of n bytes that are cut into chunks, whichever bytes they are
abbrev pub text_length : ℕ → ℕ → ℕ → ℕ → ℕ
text_length first size over n = all_places over (cut first size (replicate n 0))

-- their number of chunks
abbrev pub chunk_count : ℕ → ℕ → ℕ → ℕ
chunk_count first size n = length (cut first size (replicate n 0))

-- of a text that begins at place `at` what is from place `lo` on and below place `hi`
abbrev pub within : ℕ → ℕ → ℕ → List ℕ → List ℕ
within lo hi at text = drop (lo - at) (take (hi - at) text)

-- whether the range has one of n places from `at` on
abbrev pub is_touched : ℕ → ℕ → ℕ → ℕ → Bool
is_touched lo hi at n = nat_lt (max lo at) (min hi (at + n))

-- it has one of them: it is not empty, begins before their end, and ends behind the first
pub record TouchesPlaces (lo hi at n : ℕ) : Type 0 where
  pub some : lo < hi
  pub begins : lo < at + n
  pub ends : at < hi

-- ---- what a range gives

-- a chunk that is touched is a text's segment and gives the range's part of that text, and another one nothing
abbrev pub GivesOne : (ℕ → Bool → List ℕ → List ℕ) → ℕ → ℕ → Bool → ℕ → Bool → ℕ → List ℕ → List ℕ → Type 0
GivesOne seg lo hi true i last at chunk bytes = (t : List ℕ) × (seg i last t ≡ chunk) × (bytes ≡ within lo hi at t)
GivesOne seg lo hi false i last at chunk bytes = bytes ≡ []

-- the first n of the chunks, numbered from i and with places from `at` on, give these bytes; behind them are the place
-- `end` and the chunks `rest`
abbrev pub Gives : (ℕ → Bool → List ℕ → List ℕ) → ℕ → ℕ → ℕ → ℕ → ℕ → List (List ℕ) → ℕ → List ℕ → ℕ → List (List ℕ) → Type 0
Gives seg over lo hi i at chunks zero bytes end rest = (bytes ≡ []) × (end ≡ at) × (rest ≡ chunks)
Gives seg over lo hi i at [] (suc n) bytes end rest = ⊥
Gives seg over lo hi i at (c ∷ cs) (suc n) bytes end rest =
    (here : List ℕ) × (later : List ℕ) × (bytes ≡ here ++ later)
    × GivesOne seg lo hi (is_touched lo hi at (places over c)) i (is_last cs) at c here
    × Gives seg over lo hi (i + 1) (at + places over c) cs n later end rest

-- all chunks that are touched are segments of texts, and the range's parts of these texts are the bytes
abbrev pub AllGive : (ℕ → Bool → List ℕ → List ℕ) → ℕ → ℕ → ℕ → List (List ℕ) → List ℕ → Type 0
AllGive seg over lo hi chunks bytes = (end : ℕ) × Gives seg over lo hi 0 0 chunks (length chunks) bytes end []

-- the same of some chunks from the first on
abbrev pub SomeGive : (ℕ → Bool → List ℕ → List ℕ) → ℕ → ℕ → ℕ → List (List ℕ) → List ℕ → Type 0
SomeGive seg over lo hi chunks bytes =
    (n : ℕ) × (end : ℕ) × (rest : List (List ℕ)) × Gives seg over lo hi 0 0 chunks n bytes end rest

-- chunk n is the first one that is touched and the segment of no text, and the chunks before it give these bytes
pub record StopsAtChunk (seg : ℕ → Bool → List ℕ → List ℕ) (over lo hi : ℕ) (chunks : List (List ℕ)) (bytes : List ℕ) (n : ℕ) : Type 0 where
  pub at : ℕ
  pub chunk : List ℕ
  pub behind : List (List ℕ)
  pub before : Gives seg over lo hi 0 0 chunks n bytes at (chunk ∷ behind)
  pub touched : is_touched lo hi at (places over chunk) ≡ true
  pub none : (t : List ℕ) → seg n (is_last behind) t ≡ chunk → ⊥

-- the last chunk is a text's segment
abbrev pub LastAgrees : (ℕ → Bool → List ℕ → List ℕ) → List (List ℕ) → Type 0
LastAgrees seg chunks = (t : List ℕ) × (seg (length chunks - 1) true t ≡ last_chunk chunks)
