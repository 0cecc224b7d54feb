-- What all types of keys load as: a row for each manager.
use Rattle.std.specs.Prelude.{ℕ, List, map, Result}
use Rattle.tink_io.specs.declared.error.Kind.{Kind}
use Rattle.tink_io.specs.Answering.{made_of}
use Rattle.tink_primitives.specs.declared.primitive.Primitive.{Primitive}
use Rattle.tink_primitives.specs.declared.primitive.Primitive.TheVariants.{StreamingAead}
use Rattle.tink_streaming_keys.specs.declared.stream_kind.StreamKind.{StreamKind}
use Rattle.tink_streaming_keys.specs.StreamKinds.{key_of}
use Rattle.loading_model.specs.Loading.{BuiltKey, LoadingRow}
use Rattle.loading_model.specs.Loading.BuiltKey.{Streaming, Other}
use Rattle.tink.specs.Managers.{row_of}
use Rattle.tink.specs.Registered.{with_everything}

-- a primitive of streaming AEADs is a key of streams
abbrev pub built_key : {K A D HD HE M P S V : Type 0} → Primitive K A D HD HE M P S StreamKind V → BuiltKey
built_key (StreamingAead key) = Streaming (key_of key)
built_key _ = Other

module _ {M K A D HD HE Mc P S V : Type 0} (url : M → List ℕ) (builds : M → List ℕ → Result (Primitive K A D HD HE Mc P S StreamKind V) Kind) where
  abbrev pub loading_row : M → LoadingRow
  loading_row m = record { url = url m; built = λ value. made_of built_key (builds m value) }

  -- a row for each manager
  abbrev pub rows_by : List M → List LoadingRow
  rows_by managers = map loading_row managers

-- the eleven types of keys
unfoldable pub rows : List LoadingRow
rows = rows_by (λ m. (row_of m).url) (λ m. (row_of m).built) with_everything.managers
