-- In which order keys are tried: keys of different prefixes never open one stream, so that their order decides nothing.
use Rattle.std.specs.Prelude.{◌≡◌, ◌⊎◌, ◌↔◌, ◌≤◌, ℕ, List, [], All, map, filter, length, slice_index}
use Rattle.std.specs.declared.option.Option.{Option}
use Rattle.std.specs.Str.{bytes_eq}
use Rattle.stream_model.specs.Key.{StreamKey, IsUsable}
use Rattle.stream_model.specs.Opening.{OpeningKey, IsChosen, opening_key}

-- an output prefix: nothing, or five bytes of which the first is 0 or 1
abbrev pub IsOutputPrefix : List ℕ → Type 0
IsOutputPrefix out = (out ≡ []) ⊎ ((length out ≡ 5) × (slice_index out 0 ≤ 1))

-- what each key of a keyset is
pub record IsOfKeyset (k : StreamKey) : Type 0 where
  pub usable : IsUsable k
  pub out : IsOutputPrefix k.out

-- the keys of one prefix, in their order
abbrev pub with_prefix : List ℕ → List StreamKey → List StreamKey
with_prefix prefix keys = filter (λ k. bytes_eq k.out prefix) keys

-- under each prefix the lists have the same keys in the same order
abbrev pub HaveSameOrder : List StreamKey → List StreamKey → Type 0
HaveSameOrder keys others = (prefix : List ℕ) → with_prefix prefix keys ≡ with_prefix prefix others

-- then the same key is chosen of both, or of neither
abbrev pub ChooseTheSame : Type 0
ChooseTheSame =
    (aad S : List ℕ) (keys others : List StreamKey) (chosen : Option OpeningKey)
    → All IsOfKeyset others → HaveSameOrder keys others
    → IsChosen (map (opening_key aad) keys) S chosen ↔ IsChosen (map (opening_key aad) others) S chosen
