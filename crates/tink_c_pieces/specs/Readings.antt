-- What the calls of a reader say that is given the segments of a stream in pieces, and puts their texts into buffers that it is
-- lent.
use Rattle.std.specs.Prelude.{◌≡◌, ◌⊎◌, ◌≤◌, ◌<◌, ◌+◌, ◌^◌, ◌++◌, ℕ, Bool, List, [], ◌∷◌, length, take}
use Rattle.stream_model.specs.Cut.{cut, room_at}
use Rattle.stream_model.specs.Agree.{Agree, Leads, joined}
use Rattle.stream_model.specs.Opening.{OpeningKey, front_length}
use Rattle.tink_io.specs.declared.error.Kind.{Kind}
use Rattle.tink_io.specs.declared.error.Kind.TheVariants.{BadSegment, TooManySegments, Truncated}
use Rattle.tink_streaming_segment.specs.declared.segment_traits.SegmentDecrypter.{Ghosts}
use Rattle.tink_streaming_io.specs.Openers.{held_bytes, pending_text}
use Rattle.tink_streaming_io.specs.Reading.{HasNotFailed}
use Rattle.tink_streaming_io.specs.declared.progress.Progress.{Progress}
use Rattle.tink_streaming_io.specs.declared.progress.Progress.TheVariants.{Ended, Running}
use Rattle.tink_streaming_io.specs.declared.text_reader.TextReader.{TextReader}

-- a reader at one moment: how far it has come, the next segment's number, the text that is open and was not yet given, and the
-- bytes that are held
pub record PieceReading : Type 0 where
  pub progress : Progress
  pub number : ℕ
  pub pending : List ℕ
  pub held : List ℕ

-- more than a front and a first segment of the key came
pub record HasBeginning (S : List ℕ) (k : OpeningKey) : Type 0 where
  pub header : 0 < k.header
  pub first : 0 < k.first
  pub size : 0 < k.size
  pub more : front_length k + k.first < length S

module _ {D : Type 0} {g : Ghosts D} where
  abbrev pub piece_reading : TextReader D g → PieceReading
  piece_reading t = record { progress = t.reader.progress; number = t.reader.segments; pending = pending_text t; held = held_bytes t.reader }

module _ (seg : ℕ → Bool → List ℕ → List ℕ) (first size : ℕ) where
  -- the chunks of held bytes from a number on
  abbrev pub chunks_at : ℕ → List ℕ → List (List ℕ)
  chunks_at number held = cut (room_at first size number) size held

  -- The first n bytes of a piece were taken. At most one segment was opened, whatever may come behind these bytes. If none was,
  -- the whole piece was taken.
  pub record Feeds (old new : PieceReading) (piece : List ℕ) (n : ℕ) : Type 0 where
    pub running : new.progress ≡ Running
    pub within : n ≤ length piece
    pub texts : List (List ℕ)
    pub one : length texts ≤ 1
    pub all : texts ≡ [] → n ≡ length piece
    pub number : new.number ≡ old.number + length texts
    pub pending : new.pending ≡ joined texts
    pub leads : (more : List ℕ) → Leads seg old.number (chunks_at old.number (old.held ++ (take n piece ++ more))) texts (chunks_at new.number (new.held ++ more))

  -- with the piece more than the next segment came
  abbrev pub HasNext : PieceReading → List ℕ → Type 0
  HasNext old piece = room_at first size old.number < length (old.held ++ piece)

  -- the next segment, which is there, is that of no text, whatever may come behind the piece
  pub record FeedsBad (old : PieceReading) (piece : List ℕ) (n : ℕ) : Type 0 where
    pub number : n ≡ old.number
    pub next : HasNext old piece
    pub nothing : (more : List ℕ) → Agree seg old.number (chunks_at old.number (old.held ++ (piece ++ more))) []

  -- each refusal of a piece
  abbrev pub FeedRefused : PieceReading → List ℕ → Kind → Type 0
  FeedRefused old piece (BadSegment n) = FeedsBad old piece n
  FeedRefused old piece TooManySegments = (old.number ≡ 2 ^ 32) × HasNext old piece
  FeedRefused old piece _ = ⊥

  -- the next segment of the bytes that are held was opened, behind which nothing comes: it is the last one where the reader has ended
  pub record Finishes (old new : PieceReading) : Type 0 where
    pub number : new.number ≡ old.number + 1
    pub leads : Leads seg old.number (chunks_at old.number old.held) (new.pending ∷ []) (chunks_at new.number new.held)
    pub lives : HasNotFailed new.progress
    pub ends : new.progress ≡ Ended → new.held ≡ []
    pub goes_on : new.progress ≡ Running → 0 < length new.pending

  -- each refusal of the end. Nothing agrees with what is held.
  abbrev pub NothingHeld : PieceReading → Type 0
  NothingHeld old = Agree seg old.number (chunks_at old.number old.held) []

  abbrev pub FinishRefused : ℕ → PieceReading → Kind → Type 0
  FinishRefused overhead old (BadSegment n) = (n ≡ old.number) × NothingHeld old × (overhead ≤ length (take (room_at first size old.number) old.held))
  FinishRefused overhead old (Truncated n) =
      (n ≡ old.number) × NothingHeld old × ((length (take (room_at first size old.number) old.held) < overhead) ⊎ (old.held ≡ []))
  FinishRefused overhead old TooManySegments = (old.number ≡ 2 ^ 32) × (0 < length old.held)
  FinishRefused overhead old _ = ⊥

  -- of the bytes that came these texts are open, whatever may follow, and of their joined text this was given
  pub record HasRead (came given : List ℕ) (m : PieceReading) : Type 0 where
    pub texts : List (List ℕ)
    pub number : m.number ≡ length texts
    pub leads : (more : List ℕ) → Leads seg 0 (cut first size (came ++ more)) texts (chunks_at m.number (m.held ++ more))
    pub given_is : joined texts ≡ given ++ m.pending

  -- all bytes that came are the segments of some texts, and their joined text is this
  pub record HasReadAll (came text : List ℕ) : Type 0 where
    pub texts : List (List ℕ)
    pub leads : Leads seg 0 (cut first size came) texts []
    pub text_is : joined texts ≡ text
