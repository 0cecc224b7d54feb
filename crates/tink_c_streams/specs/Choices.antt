-- The key of a stream that comes in pieces.
use Rattle.std.specs.Prelude.{◌≡◌, ℕ, Bool, List, [], drop, map, None}
use Rattle.tink_io.specs.declared.error.Kind.{Kind}
use Rattle.tink_io.specs.declared.error.Kind.TheVariants.{NoMatchingKey}
use Rattle.stream_model.specs.Opening.{IsChosen, OpeningKey, opening_key}
use Rattle.tink_streaming_keys.specs.StreamKinds.{key_in_set}
use Rattle.tink_streaming_io.specs.Choosing.{Found}
use Rattle.tink_streaming_io.specs.declared.progress.Progress.TheVariants.{Running}
use Rattle.tink_c_pieces.specs.Readings.{PieceReading}
use Rattle.tink_c_streams.specs.declared.choice.Choice.{Choice}

-- the keys as opening sees them
abbrev pub keys_of_choice : Choice → List OpeningKey
keys_of_choice c = map (λ k. opening_key c.data.items (key_in_set k)) c.keys.items

-- a reader under the first key under which these bytes begin holds all of them that are behind the front, and has opened nothing
pub record BeginsText (keys : List OpeningKey) (came : List ℕ) (seg : ℕ → Bool → List ℕ → List ℕ) (first size overhead : ℕ) (m : PieceReading) : Type 0 where
  pub front : ℕ
  pub found : Found keys came seg front first size overhead
  pub held : m.held ≡ drop front came
  pub progress : m.progress ≡ Running
  pub number : m.number ≡ 0
  pub pending : m.pending ≡ []

-- these bytes begin under no key
abbrev pub BeginsNoText : List OpeningKey → List ℕ → Kind → Type 0
BeginsNoText keys came NoMatchingKey = IsChosen keys came None
BeginsNoText keys came _ = ⊥
