-- What an object of a reader of ranges answers, and what a call that makes one leaves.
use Rattle.std.specs.Prelude.{◌≡◌, ℕ, List, Option, Some}
use Rattle.tink_io.specs.declared.error.Kind.TheVariants.{Closed}
use Rattle.tink_c_bytes.specs.Delivered.{Handed, Hands, IsRefused}
use Rattle.tink_c_streams.specs.NewReaders.{BeginsNoReader}
use Rattle.tink_c_streams.specs.RangeReaders.{IsRangeReader}
use Rattle.tink_c_streams.specs.Streams.{GivesRange, RefusesRange}
use Rattle.tink_c_streams.specs.declared.range_readers.RangeReader.{RangeReader}
use Rattle.tink_c_objects.specs.declared.object.Object.{Object}
use Rattle.tink_c_objects.specs.declared.object.Object.TheVariants.{Ranges}
use Rattle.tink_c_objects.specs.Objects.{Refills}

-- this holds of the reader of ranges that an object holds
abbrev pub OfRanges : (RangeReader → Type 0) → Option Object → Type 0
OfRanges P (Some (Ranges r)) = P r
OfRanges P _ = ⊥

-- what a call for a range answers: that of the keys and the associated data of the reader, whichever these are
abbrev pub RangesGive : List ℕ → ℕ → ℕ → Handed → Option Object → Type 0
RangesGive input start len h (Some (Ranges r)) =
    (file aad : List ℕ) → IsRangeReader file aad r → Hands (GivesRange file aad input start len) (RefusesRange file aad input start len) h
RangesGive input start len h _ = IsRefused (λ kind. kind ≡ Closed) h

-- C holds a reader of ranges under the keys of a file with these associated data, or what it held
abbrev pub FillsRanges : List ℕ → List ℕ → Option Object → Option Object → ℕ → Type 0
FillsRanges file aad = Refills (OfRanges (IsRangeReader file aad)) (BeginsNoReader file)
