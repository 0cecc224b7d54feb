-- A keyset's reader is that of the chosen key.
use Rattle.std.specs.Prelude.{◌≡◌, ◌↔◌, ℕ, Bool, List, [], ◌∷◌, length, drop, map, Result, Ok, Some, IsOk}
use Rattle.std.specs.declared.option.Option.{Option}
use Rattle.tink_io.specs.Faults.{Rose}
use Rattle.tink_io.specs.declared.error.TinkError.{TinkError}
use Rattle.stream_model.specs.Key.{StreamKey}
use Rattle.stream_model.specs.Opening.{IsChosen, opening_key}
use Rattle.tink_streaming_io.specs.TextReading.{ReadMeans, TextMoment}
use Rattle.tink_streaming_keys.specs.Decrypting.{IsNewReader}
use Rattle.tink_streaming_aead.specs.DecryptReaders.{DecryptMeans, DecryptState, GivesFirst, source_in}
use Rattle.tink_streaming_aead.specs.DecryptReaders.DecryptState.{Unread}

-- of these keys, this one is chosen for the bytes
abbrev pub Chooses : List StreamKey → List ℕ → List ℕ → StreamKey → Type 0
Chooses keys aad X key = IsChosen (map (opening_key aad) keys) X (Some (opening_key aad key))

module _ {S : Type 0} (left : S → Option (List ℕ)) (faults : S → ℕ) where
  -- What the first read to a buffer with room says of the keys, it says of the chosen key alone, whatever other keys
  -- there are and how many bytes have room to be kept.
  abbrev pub ReadsAsAlone : Type 0
  ReadsAsAlone =
      (keys : List StreamKey) (key : StreamKey) (aad X : List ℕ) (room alone b : ℕ) (source : S) (new : DecryptState S)
      (before after : List ℕ) (r : Result ℕ TinkError) → left source ≡ Some X → Chooses keys aad X key
      → DecryptMeans left faults (Unread keys aad room source) new (b ∷ before) after r
      ↔ DecryptMeans left faults (Unread (key ∷ []) aad alone source) new (b ∷ before) after r

  -- where some key is chosen and the source does not fail, the first read is Ok
  abbrev pub FirstReadIsOk : Type 0
  FirstReadIsOk =
      (keys : List StreamKey) (key : StreamKey) (aad X : List ℕ) (room b : ℕ) (source : S) (new : DecryptState S)
      (before after : List ℕ) (r : Result ℕ TinkError) → left source ≡ Some X → Chooses keys aad X key
      → (Rose (faults source) (faults (source_in new)) → ⊥)
      → DecryptMeans left faults (Unread keys aad room source) new (b ∷ before) after r → IsOk r

-- a first read that is Ok is that of a new reader of the chosen key on what is behind the key's output prefix, which has
-- read a header and no more
abbrev pub ReadsAsReader : Type 0
ReadsAsReader =
    (keys : List StreamKey) (key : StreamKey) (aad X : List ℕ) (seg : ℕ → Bool → List ℕ → List ℕ) (first size overhead : ℕ)
    (new : TextMoment) (before after : List ℕ) (n : ℕ) → Chooses keys aad X key
    → GivesFirst (map (opening_key aad) keys) (Some X) seg first size overhead new before after n
    → (m : TextMoment) × IsNewReader key aad (Some (drop (length key.out) X)) seg first size overhead [] m
    × ReadMeans seg first size overhead m new before after (Ok n)
