-- What an object of a writer answers, and what a call leaves in it.
use Rattle.std.specs.Prelude.{◌≡◌, ◌⊎◌, ◌+◌, ℕ, Bool, List, Option, Some}
use Rattle.tink_io.specs.declared.error.Kind.{Kind}
use Rattle.tink_io.specs.declared.error.Kind.TheVariants.{Closed}
use Rattle.tink_streaming_segment.specs.Sealers.{segment_map}
use Rattle.tink_c_bytes.specs.Delivered.{Handed, IsRefused}
use Rattle.tink_c_bytes.specs.Statuses.{c_status, ok}
use Rattle.tink_c_pieces.specs.Moments.{piece_moment}
use Rattle.tink_c_pieces.specs.Pieces.{BoundMeans, EndMeans, PieceMeans, PieceMoment}
use Rattle.tink_c_streams.specs.Writers.{BeginsNoWriter, BeginsWriter}
use Rattle.tink_c_objects.specs.declared.object.Object.{Object}
use Rattle.tink_c_objects.specs.declared.object.Object.TheVariants.{Writer}

-- this holds of the writer that an object holds: of its segments, their rooms, and the writer at this moment
abbrev pub OfWriter : ((ℕ → Bool → List ℕ → List ℕ) → ℕ → ℕ → PieceMoment → Type 0) → Option Object → Type 0
OfWriter P (Some (Writer w)) = P (segment_map w.writer.sealer) w.writer.sealer.first w.writer.sealer.room (piece_moment w)
OfWriter P _ = ⊥

-- the object holds no writer, and stays as it is
abbrev pub HoldsNone : Handed → Option Object → Option Object → Type 0
HoldsNone h old new = (new ≡ old) × IsRefused (λ kind. kind ≡ Closed) h

-- what a call with a piece answers
abbrev pub WriterTakes : List ℕ → Handed → Option Object → Option Object → Type 0
WriterTakes piece h (Some (Writer w)) (Some (Writer v)) =
    (v.writer.sealer ≡ w.writer.sealer)
    × PieceMeans (segment_map w.writer.sealer) w.writer.sealer.first w.writer.sealer.room (piece_moment w) (piece_moment v) piece h
WriterTakes piece h (Some (Writer w)) new = ⊥
WriterTakes piece h old new = HoldsNone h old new

-- what a call for the last segment answers
abbrev pub WriterEnds : Handed → Option Object → Option Object → Type 0
WriterEnds h (Some (Writer w)) (Some (Writer v)) =
    (v.writer.sealer ≡ w.writer.sealer)
    × EndMeans (segment_map w.writer.sealer) w.writer.sealer.first w.writer.sealer.room (piece_moment w) (piece_moment v) h
WriterEnds h (Some (Writer w)) new = ⊥
WriterEnds h old new = HoldsNone h old new

-- what a call for the room that a piece of `more` bytes and the last segment need answers
abbrev pub WriterNeeds : ℕ → ℕ → ℕ → Option Object → Type 0
WriterNeeds more needed status (Some (Writer w)) =
    BoundMeans (segment_map w.writer.sealer) w.writer.sealer.first w.writer.sealer.room (w.writer.sealer.room + w.writer.sealer.overhead) (piece_moment w) more needed status
WriterNeeds more needed status _ = (status ≡ c_status Closed) × (needed ≡ 0)

module _ (file aad random : List ℕ) where
  -- C holds a new writer under the primary key of a file, by status 0
  pub record HasWriter (new : Option Object) (status : ℕ) : Type 0 where
    pub begins : OfWriter (BeginsWriter file aad random) new
    pub status_ok : status ≡ ok

  -- C holds what it held, by the status of an error
  pub record HasNoNewWriter (old new : Option Object) (status : ℕ) : Type 0 where
    pub kind : Kind
    pub refused : BeginsNoWriter file aad random kind
    pub same : new ≡ old
    pub status_err : status ≡ c_status kind

  abbrev pub FillsWriter : Option Object → Option Object → ℕ → Type 0
  FillsWriter old new status = HasWriter new status ⊎ HasNoNewWriter old new status
