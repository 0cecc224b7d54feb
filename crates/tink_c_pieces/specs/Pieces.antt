-- What the calls of a writer say that is given a text in pieces, and puts what it writes into buffers that it is lent.
use Rattle.std.specs.Prelude.{◌≡◌, ◌⊎◌, ◌≤◌, ◌<◌, ◌+◌, ◌-◌, ◌^◌, ◌++◌, ℕ, Bool, true, List, [], length}
use Rattle.stream_model.specs.Cut.{full_chunks, open_chunk, room_at, unmarked}
use Rattle.tink_io.specs.declared.error.Kind.{Kind}
use Rattle.tink_io.specs.declared.error.Kind.TheVariants as kind
use Rattle.tink_io.specs.declared.error.Cause.TheVariants.{TooManySegments}
use Rattle.tink_streaming_io.specs.declared.writing.Mode.{Mode}
use Rattle.tink_streaming_io.specs.declared.writing.Mode.TheVariants.{Open, Closed, Failed}
use Rattle.tink_c_bytes.specs.Delivered.{Handed, IsGiven, IsRefused, NeedsRoom}
use Rattle.tink_c_bytes.specs.Statuses.{c_status, ok}

-- a writer at one moment: what precedes the segments and was not yet given, whether it is open, the next segment's number,
-- and the text that is held
pub record PieceMoment : Type 0 where
  pub front : List ℕ
  pub mode : Mode
  pub number : ℕ
  pub held : List ℕ

module _ (seg : ℕ → Bool → List ℕ → List ℕ) (first room : ℕ) where
  -- the chunks that are full once a piece came
  abbrev pub filled : PieceMoment → List ℕ → List (List ℕ)
  filled m piece = full_chunks (room_at first room m.number) room (m.held ++ piece)

  -- the chunk that the text ends in then
  abbrev pub rest : PieceMoment → List ℕ → List ℕ
  rest m piece = open_chunk (room_at first room m.number) room (m.held ++ piece)

  -- what a piece gives: what precedes the segments, and the segments of the chunks that are full
  abbrev pub given : PieceMoment → List ℕ → List ℕ
  given m piece = m.front ++ unmarked seg m.number (filled m piece)

  -- what the last segment gives
  abbrev pub ending : PieceMoment → List ℕ
  ending m = m.front ++ seg m.number true m.held

  -- what a piece and then the last segment give
  abbrev pub given_whole : PieceMoment → List ℕ → List ℕ
  given_whole m piece = given m piece ++ seg (m.number + length (filled m piece)) true (rest m piece)

  -- the text does not need a number above 2^32 - 1
  abbrev pub HasNumbers : PieceMoment → List ℕ → Type 0
  HasNumbers m piece = m.number + length (filled m piece) < 2 ^ 32

  -- the piece was taken
  pub record Took (old new : PieceMoment) (piece : List ℕ) : Type 0 where
    pub was_open : old.mode ≡ Open
    pub is_open : new.mode ≡ Open
    pub front : new.front ≡ []
    pub held : new.held ≡ rest old piece
    pub counted : new.number ≡ old.number + length (filled old piece)
    pub few : HasNumbers old piece

  -- the text needs a number above 2^32 - 1: the writer is spent
  pub record IsTooLong (old new : PieceMoment) (piece : List ℕ) : Type 0 where
    pub was_open : old.mode ≡ Open
    pub many : 2 ^ 32 ≤ old.number + length (filled old piece)
    pub spent : new.mode ≡ Failed TooManySegments

  -- each refusal of a piece. A writer that was closed or is spent stays as it is.
  abbrev pub PieceRefused : PieceMoment → PieceMoment → List ℕ → Kind → Type 0
  PieceRefused old new piece kind.TooManySegments = IsTooLong old new piece
  PieceRefused old new piece kind.Closed = (old.mode ≡ Closed) × (new ≡ old)
  PieceRefused old new piece (kind.FailedBefore c) = (old.mode ≡ Failed c) × (new ≡ old)
  PieceRefused old new piece _ = ⊥

  -- what a call with a piece answers
  abbrev pub PieceMeans : PieceMoment → PieceMoment → List ℕ → Handed → Type 0
  PieceMeans old new piece h =
      IsGiven (λ bytes. (bytes ≡ given old piece) × Took old new piece) h
      ⊎ NeedsRoom (λ bytes. (bytes ≡ given old piece) × (old.mode ≡ Open) × HasNumbers old piece) h
      ⊎ IsRefused (PieceRefused old new piece) h

  -- a piece gives n bytes, and the text does not need a number above 2^32 - 1
  pub record IsLengthOf (m : PieceMoment) (piece : List ℕ) (n : ℕ) : Type 0 where
    pub long : n ≡ length (given m piece)
    pub few : HasNumbers m piece

  -- of each piece of `more` bytes this holds
  abbrev pub OfEach : ℕ → (List ℕ → Type 0) → Type 0
  OfEach more P = (piece : List ℕ) → length piece ≡ more → P piece

  -- the room for each piece of `more` bytes and a segment of `size` bytes, in which the last segment fits behind the piece
  pub record IsBound (size : ℕ) (m : PieceMoment) (more needed status : ℕ) : Type 0 where
    pub is_open : m.mode ≡ Open
    pub status_ok : status ≡ ok
    pub length_is : OfEach more (λ piece. IsLengthOf m piece (needed - size))
    pub enough : OfEach more (λ piece. length (given_whole m piece) ≤ needed)

  -- each refusal of a bound
  abbrev pub BoundRefused : PieceMoment → ℕ → Kind → Type 0
  BoundRefused m more kind.TooManySegments = (m.mode ≡ Open) × OfEach more (λ piece. 2 ^ 32 ≤ m.number + length (filled m piece))
  BoundRefused m more kind.Closed = m.mode ≡ Closed
  BoundRefused m more (kind.FailedBefore c) = m.mode ≡ Failed c
  BoundRefused m more _ = ⊥

  pub record IsUnbounded (m : PieceMoment) (more needed status : ℕ) : Type 0 where
    pub kind : Kind
    pub refuses : BoundRefused m more kind
    pub status_err : status ≡ c_status kind
    pub none : needed ≡ 0

  -- what a call for a bound answers
  abbrev pub BoundMeans : ℕ → PieceMoment → ℕ → ℕ → ℕ → Type 0
  BoundMeans size m more needed status = IsBound size m more needed status ⊎ IsUnbounded m more needed status

  -- the last segment was given
  pub record Ended (old new : PieceMoment) : Type 0 where
    pub was_open : old.mode ≡ Open
    pub is_closed : new.mode ≡ Closed
    pub front : new.front ≡ []
    pub held : new.held ≡ []
    pub counted : new.number ≡ old.number + 1

  -- each refusal of the end. The writer stays as it is.
  abbrev pub EndRefused : PieceMoment → Kind → Type 0
  EndRefused old kind.Closed = old.mode ≡ Closed
  EndRefused old (kind.FailedBefore c) = old.mode ≡ Failed c
  EndRefused old _ = ⊥

  -- what a call for the last segment answers
  abbrev pub EndMeans : PieceMoment → PieceMoment → Handed → Type 0
  EndMeans old new h =
      IsGiven (λ bytes. (bytes ≡ ending old) × Ended old new) h
      ⊎ NeedsRoom (λ bytes. (bytes ≡ ending old) × (old.mode ≡ Open)) h
      ⊎ IsRefused (EndRefused old) h

  -- the writer has taken this text, and gave these bytes, of a stream that begins with this front
  pub record HasTaken (front text bytes : List ℕ) (m : PieceMoment) : Type 0 where
    pub is_open : m.mode ≡ Open
    pub counted : m.number ≡ length (full_chunks first room text)
    pub held : m.held ≡ open_chunk first room text
    pub given_is : bytes ++ m.front ≡ front ++ unmarked seg 0 (full_chunks first room text)
