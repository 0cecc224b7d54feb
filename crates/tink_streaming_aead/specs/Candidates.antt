-- The keys under which a stream with some first bytes may begin.
use Rattle.std.specs.Prelude.{◌↔◌, ℕ, All, List, [], length, map, take, nat_le, nat_lt, slice_index, if◌then◌else◌}
use Rattle.std.specs.declared.option.Option.{Option}
use Rattle.stream_model.specs.Key.{StreamKey}
use Rattle.stream_model.specs.Opening.{IsChosen, OpeningKey, opening_key}
use Rattle.stream_model.specs.Order.{IsOfKeyset, with_prefix}

-- the prefix that a stream may have: its first five bytes where the first of them is 0 or 1, else none, and none where
-- there are fewer bytes
abbrev pub prefix_at : List ℕ → List ℕ
prefix_at start =
    if nat_lt (length start) 5 then [] else (if nat_le (slice_index start 0) 1 then take 5 start else [])

-- what is chosen of the keys of a keyset is chosen of those alone that have the prefix which the stream may have
abbrev pub ChoosesCandidate : Type 0
ChoosesCandidate =
    (aad S : List ℕ) (keys : List StreamKey) (chosen : Option OpeningKey) → All IsOfKeyset keys
    → IsChosen (map (opening_key aad) keys) S chosen ↔ IsChosen (map (opening_key aad) (with_prefix (prefix_at S) keys)) S chosen
