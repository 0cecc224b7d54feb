-- New readers of streams that come in pieces, under the keyset of a file.
use Rattle.std.specs.Prelude.{◌≡◌, ◌⊎◌, ℕ, List, [], Ok, Err}
use Rattle.tink_io.specs.declared.error.Kind.{Kind}
use Rattle.tink_io.specs.declared.error.Kind.TheVariants.{OutOfMemory}
use Rattle.stream_model.specs.Opening.{OpeningKey}
use Rattle.loading_model.specs.Loading.{Loaded, opening_keys}
use Rattle.tink_keyset_io.specs.Files.{wire_of}
use Rattle.tink_streaming_segment.specs.Keeping.{kept_bytes}
use Rattle.tink_run.specs.AllKeys.{load}
use Rattle.tink_c_streams.specs.Choices.{keys_of_choice}
use Rattle.tink_c_streams.specs.Readers.{IsOpen, IsReading}
use Rattle.tink_c_streams.specs.Streams.{InFile}
use Rattle.tink_c_streams.specs.declared.readers.PieceReader.{PieceReader}
use Rattle.tink_c_streams.specs.declared.readers.PieceReader.TheVariants.{Choosing}

-- the reader has these keys to choose from, and no byte came
abbrev pub HasKeys : List OpeningKey → PieceReader → Type 0
HasKeys keys (Choosing c) = (keys_of_choice c ≡ keys) × (kept_bytes c.trial.kept ≡ [])
HasKeys keys _ = ⊥

-- a reader to which no byte came, and which gave no text, under all keys of a keyset in the wire format
pub record IsNewReader (wire aad : List ℕ) (r : PieceReader) : Type 0 where
  pub loaded : Loaded
  pub loads : load wire ≡ Ok loaded
  pub is_open : IsOpen r
  pub reads : IsReading (opening_keys aad loaded) [] [] r

abbrev pub NoNewReader : List ℕ → Kind → Type 0
NoNewReader wire kind = (kind ≡ OutOfMemory) ⊎ (load wire ≡ Err kind)

-- and under the keyset of a file
abbrev pub BeginsReader : List ℕ → List ℕ → PieceReader → Type 0
BeginsReader file aad r = InFile file (λ wire. IsNewReader wire aad r)

abbrev pub BeginsNoReader : List ℕ → Kind → Type 0
BeginsNoReader file kind = (kind ≡ OutOfMemory) ⊎ (wire_of file ≡ Err kind) ⊎ InFile file (λ wire. NoNewReader wire kind)
