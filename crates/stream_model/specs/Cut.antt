-- A text cut into chunks, and a segment for each chunk, the last one marked.
use Rattle.std.specs.Prelude.{ℕ, zero, suc, ◌+◌, ◌-◌, Bool, true, false, List, [], ◌∷◌, ◌++◌, length, take, drop, replicate, nat_le, if◌then◌else◌}
use Rattle.std.specs.Int.{w32, to_be_bytes}

-- no chunk for no text; the whole text where it fits; else the first chunk fills its size, and the rest is cut by the room of the others.
-- Each chunk takes a byte, so length R + 1 turns are enough.
abbrev pub cut_in : ℕ → ℕ → ℕ → List ℕ → List (List ℕ)
cut_in zero first room R = []
cut_in (suc turns) first room [] = []
cut_in (suc turns) first room (x ∷ R) = if nat_le (length (x ∷ R)) first then (x ∷ R) ∷ [] else take first (x ∷ R) ∷ cut_in turns room room (drop first (x ∷ R))

unfoldable pub cut : ℕ → ℕ → List ℕ → List (List ℕ)
cut first room R = cut_in (length R + 1) first room R

-- all chunks but the last
abbrev pub but_last : List (List ℕ) → List (List ℕ)
but_last [] = []
but_last (t ∷ []) = []
but_last (t ∷ u ∷ ts) = t ∷ but_last (u ∷ ts)

-- the last chunk, where there is one
abbrev pub last_chunk : List (List ℕ) → List ℕ
last_chunk [] = []
last_chunk (t ∷ []) = t
last_chunk (t ∷ u ∷ ts) = last_chunk (u ∷ ts)

-- the chunks that more text can't change, and the one that it may go on
unfoldable pub full_chunks : ℕ → ℕ → List ℕ → List (List ℕ)
full_chunks first room R = but_last (cut first room R)

unfoldable pub open_chunk : ℕ → ℕ → List ℕ → List ℕ
open_chunk first room R = last_chunk (cut first room R)

-- the room of chunk i: that of the first, or that of each later one
abbrev pub room_at : ℕ → ℕ → ℕ → ℕ
room_at first room zero = first
room_at first room (suc i) = room

-- the nonce of segment i: the prefix, i in four bytes, the mark of the last, zeros up to the size
abbrev pub mark : Bool → ℕ
mark last = if last then 1 else 0

abbrev pub nonce : ℕ → List ℕ → ℕ → Bool → List ℕ
nonce size prefix i last = prefix ++ to_be_bytes w32 i ++ mark last ∷ replicate (size - (length prefix + 5)) 0

-- a one-shot map under the nonces of one stream
abbrev pub numbered : (List ℕ → List ℕ → List ℕ) → ℕ → List ℕ → ℕ → Bool → List ℕ → List ℕ
numbered seg size prefix i last text = seg (nonce size prefix i last) text

-- the unmarked segments of chunks, numbered from i
abbrev pub unmarked : (ℕ → Bool → List ℕ → List ℕ) → ℕ → List (List ℕ) → List ℕ
unmarked seg i [] = []
unmarked seg i (t ∷ ts) = seg i false t ++ unmarked seg (i + 1) ts

-- the segments of chunks, numbered from i, the last one marked
abbrev pub segments : (ℕ → Bool → List ℕ → List ℕ) → ℕ → List (List ℕ) → List ℕ
segments seg i [] = []
segments seg i (t ∷ []) = seg i true t
segments seg i (t ∷ u ∷ ts) = seg i false t ++ segments seg (i + 1) (u ∷ ts)

-- the empty text is one empty chunk
abbrev pub or_one : List (List ℕ) → List (List ℕ)
or_one [] = [] ∷ []
or_one (t ∷ ts) = t ∷ ts

-- the chunks of a text: the first of at most `first` bytes, each later one of at most `room`
unfoldable pub chunks : ℕ → ℕ → List ℕ → List (List ℕ)
chunks first room R = or_one (cut first room R)

-- a whole text as segments
unfoldable pub sealed : (ℕ → Bool → List ℕ → List ℕ) → ℕ → ℕ → List ℕ → List ℕ
sealed seg first room R = segments seg 0 (chunks first room R)
