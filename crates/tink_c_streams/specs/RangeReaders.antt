-- Readers of ranges of streams, under the keys of a file.
use Rattle.std.specs.Prelude.{◌≡◌, ℕ, List, Ok}
use Rattle.tink_run.specs.AllKeys.{load}
use Rattle.tink_run.specs.HeldKeys.{GivesLoaded}
use Rattle.tink_c_streams.specs.Streams.{InFile}
use Rattle.tink_c_streams.specs.declared.range_readers.RangeReader.{RangeReader}

-- the reader has the keys that a keyset in the wire format loads as, and this associated data
pub record HasKeysOf (wire aad : List ℕ) (r : RangeReader) : Type 0 where
  pub loads : GivesLoaded (Ok r.keys) (load wire)
  pub data_is : r.data.items ≡ aad

-- and under the keyset of a file
abbrev pub IsRangeReader : List ℕ → List ℕ → RangeReader → Type 0
IsRangeReader file aad r = InFile file (λ wire. HasKeysOf wire aad r)
