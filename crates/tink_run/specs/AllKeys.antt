-- Loading by all types of keys that the product has.
use Rattle.std.specs.Prelude.{ℕ, List, Result}
use Rattle.tink_io.specs.declared.error.Kind.{Kind}
use Rattle.loading_model.specs.Loading.{Loaded, load_by}
use Rattle.tink.specs.LoadingRows.{rows}

-- what a keyset's bytes load as, or the first refusal
unfoldable pub load : List ℕ → Result Loaded Kind
load bytes = load_by rows bytes
