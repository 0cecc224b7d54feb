-- What an object of a reader answers, and what a call leaves in it.
use Rattle.std.specs.Prelude.{◌≡◌, ℕ, List, Option, Some}
use Rattle.tink_io.specs.declared.error.Kind.TheVariants.{Closed}
use Rattle.tink_c_bytes.specs.Delivered.{Handed}
use Rattle.tink_c_bytes.specs.Statuses.{c_status}
use Rattle.tink_c_streams.specs.NewReaders.{BeginsNoReader, BeginsReader}
use Rattle.tink_c_streams.specs.Readers.{EndMeans, FeedMeans, ReadMeans}
use Rattle.tink_c_streams.specs.declared.readers.PieceReader.{PieceReader}
use Rattle.tink_c_objects.specs.declared.object.Object.{Object}
use Rattle.tink_c_objects.specs.declared.object.Object.TheVariants.{Reader}
use Rattle.tink_c_objects.specs.Objects.{Refills}
use Rattle.tink_c_objects.specs.Writers.{HoldsNone}

-- this holds of the reader that an object holds
abbrev pub OfReader : (PieceReader → Type 0) → Option Object → Type 0
OfReader P (Some (Reader r)) = P r
OfReader P _ = ⊥

-- what a call with a piece answers
abbrev pub ReaderTakes : List ℕ → ℕ → ℕ → Option Object → Option Object → Type 0
ReaderTakes piece taken status (Some (Reader r)) (Some (Reader s)) = FeedMeans r s piece taken status
ReaderTakes piece taken status (Some (Reader r)) new = ⊥
ReaderTakes piece taken status old new = (new ≡ old) × (status ≡ c_status Closed) × (taken ≡ 0)

-- what a call for text answers
abbrev pub ReaderGives : Handed → Option Object → Option Object → Type 0
ReaderGives h (Some (Reader r)) (Some (Reader s)) = ReadMeans r s h.before h.after h.written h.status
ReaderGives h (Some (Reader r)) new = ⊥
ReaderGives h old new = HoldsNone h old new

-- what a call that ends the stream answers
abbrev pub ReaderEnds : ℕ → Option Object → Option Object → Type 0
ReaderEnds status (Some (Reader r)) (Some (Reader s)) = EndMeans r s status
ReaderEnds status (Some (Reader r)) new = ⊥
ReaderEnds status old new = (new ≡ old) × (status ≡ c_status Closed)

-- C holds a reader that took no byte, under the keys of a file with these associated data, or what it held
abbrev pub FillsReader : List ℕ → List ℕ → Option Object → Option Object → ℕ → Type 0
FillsReader file aad = Refills (OfReader (BeginsReader file aad)) (BeginsNoReader file)
