-- The stream of a text.
use Rattle.std.specs.Prelude.{ℕ, ◌+◌, ◌-◌, ◌^◌, List, [], ◌++◌, length, take, drop, None, Some}
use Rattle.std.specs.declared.option.Option.{Option}
use Rattle.stream_model.specs.Cut.{chunks, full_chunks, sealed, unmarked}
use Rattle.stream_model.specs.Key.{StreamKey, first_room, room, front, keys_of, segment_at}

-- all segments of a text, the last one marked
abbrev pub sealed_under : StreamKey → Option (List ℕ) → List ℕ → List ℕ → List ℕ
sealed_under k None prefix text = []
sealed_under k (Some keys) prefix text = sealed (segment_at k keys prefix) (first_room k) (room k) text

-- the front and then the segments of the text
unfoldable pub stream : StreamKey → List ℕ → List ℕ → List ℕ → List ℕ → List ℕ
stream k aad salt prefix text = front k salt prefix ++ sealed_under k (keys_of k aad salt) prefix text

abbrev pub unmarked_under : StreamKey → Option (List ℕ) → List ℕ → List (List ℕ) → List ℕ
unmarked_under k None prefix ts = []
unmarked_under k (Some keys) prefix ts = unmarked (segment_at k keys prefix) 0 ts

-- the front and then the segments, none of them marked, of all chunks of the text but its last
unfoldable pub part : StreamKey → List ℕ → List ℕ → List ℕ → List ℕ → List ℕ
part k aad salt prefix text = front k salt prefix ++ unmarked_under k (keys_of k aad salt) prefix (full_chunks (first_room k) (room k) text)

-- the same of the text of its first 2^32 chunks
unfoldable pub longest_part : StreamKey → List ℕ → List ℕ → List ℕ → List ℕ → List ℕ
longest_part k aad salt prefix text = front k salt prefix ++ unmarked_under k (keys_of k aad salt) prefix (take (2 ^ 32 - 1) (full_chunks (first_room k) (room k) text))

abbrev pub chunk_count : StreamKey → List ℕ → ℕ
chunk_count k text = length (chunks (first_room k) (room k) text)

-- the draws are a salt and a prefix of seven bytes first
abbrev pub drawn : StreamKey → ℕ
drawn k = k.derived + 7

abbrev pub salt_of : StreamKey → List ℕ → List ℕ
salt_of k draws = take k.derived draws

abbrev pub nonce_prefix_of : StreamKey → List ℕ → List ℕ
nonce_prefix_of k draws = take 7 (drop k.derived draws)
