-- What each keyset that loads has, and how others are refused.
use Rattle.std.proofs.Common.{◌≡◌, ℕ, List}
use Rattle.std.specs.Prelude.{Ok, Err}
use Rattle.tink_io.specs.declared.error.Kind.{Kind}
use Rattle.tink_proto.specs.Messages.{keyset}
use Rattle.wire_format.specs.Message.{decoded}
use Rattle.stream_model.specs.Order.{IsOfKeyset}
use Rattle.loading_model.specs.Loading.{Loaded, AreUsable}
use Rattle.loading_model.proofs.UsableKeys.{IsOfLoading, load_decoded_refuses, load_decoded_usable}
use Rattle.tink.specs.LoadingRows.{rows}
use Rattle.tink.proofs.RowFacts.{rows_sound}
use Rattle.tink_run.specs.AllKeys.{load}

-- the sizes of each key that loads, and of the primary
pub loaded_usable : (bytes : List ℕ) (l : Loaded) → load bytes ≡ Ok l → AreUsable l.keys × IsOfKeyset l.primary
unfolding load
loaded_usable bytes l e = load_decoded_usable rows rows_sound (decoded keyset.read bytes) l e

-- the kinds by which loading refuses
pub load_refuses : (bytes : List ℕ) (kind : Kind) → load bytes ≡ Err kind → IsOfLoading kind
unfolding load
load_refuses bytes kind e = load_decoded_refuses rows rows_sound (decoded keyset.read bytes) kind e
