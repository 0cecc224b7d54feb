-- Readers of the text of a stream that comes in pieces.
use Rattle.std.specs.Prelude.{◌≡◌, ◌⊎◌, ◌≤◌, ◌<◌, ◌+◌, ◌^◌, ◌++◌, ℕ, Bool, List, [], length, take, drop, min, None}
use Rattle.std.specs.declared.option.Option.{Option}
use Rattle.tink_io.specs.declared.error.Kind.{Kind}
use Rattle.tink_io.specs.declared.error.Kind.TheVariants.{BadSegment, Closed, FailedBefore, NoMatchingKey, TooManySegments, Truncated}
use Rattle.stream_model.specs.Cut.{cut, room_at}
use Rattle.stream_model.specs.Agree.{Agree, Leads, joined}
use Rattle.stream_model.specs.Opening.{IsChosen, OpeningKey}
use Rattle.tink_streaming_segment.specs.Keeping.{kept_bytes}
use Rattle.tink_streaming_segment.specs.Openers.{segment_map}
use Rattle.tink_streaming_io.specs.Choosing.{Found}
use Rattle.tink_streaming_io.specs.Openers.{pending_text}
use Rattle.tink_streaming_io.specs.declared.progress.Progress.TheVariants.{Ended, Running}
use Rattle.tink_c_bytes.specs.Statuses.{c_status, ok}
use Rattle.tink_c_pieces.specs.Readings.{HasRead, HasReadAll, PieceReading, piece_reading}
use Rattle.tink_c_streams.specs.Choices.{keys_of_choice}
use Rattle.tink_c_streams.specs.declared.readers.PieceReader.{PieceReader}
use Rattle.tink_c_streams.specs.declared.readers.PieceReader.TheVariants.{Choosing, Going, Ending, Spent}

-- text waits to be read
abbrev pub unread : ℕ
unread = 50

abbrev pub waiting_text : PieceReader → List ℕ
waiting_text (Going t) = pending_text t
waiting_text (Ending t) = pending_text t
waiting_text _ = []

-- whatever the bytes, of the other keys the same one is chosen
abbrev pub ChooseAs : List OpeningKey → List OpeningKey → Type 0
ChooseAs keys others = (S : List ℕ) (chosen : Option OpeningKey) → IsChosen keys S chosen → IsChosen others S chosen

module _ (keys : List OpeningKey) (came given : List ℕ) (seg : ℕ → Bool → List ℕ → List ℕ) (first size overhead : ℕ) where
  -- Under the key that is chosen of these bytes, whatever may follow, texts are open whose segments lead what is behind the front.
  -- This was given of their joined text.
  pub record ReadsOn (m : PieceReading) : Type 0 where
    pub front : ℕ
    pub found : (more : List ℕ) → Found keys (came ++ more) seg front first size overhead
    pub read : HasRead seg first size (drop front came) given m

  -- the same of bytes behind which nothing follows
  pub record ReadsBehind (m : PieceReading) : Type 0 where
    pub front : ℕ
    pub found : Found keys came seg front first size overhead
    pub read : HasRead seg first size (drop front came) given m

  -- Under the key that is chosen of these bytes, all that is behind the front is the segments of some texts, and this is their
  -- joined text.
  pub record ReadsWhole : Type 0 where
    pub front : ℕ
    pub found : Found keys came seg front first size overhead
    pub read : HasReadAll seg first size (drop front came) given

-- the stream that came has this text, whole
pub record HasText (keys : List OpeningKey) (came text : List ℕ) : Type 0 where
  pub seg : ℕ → Bool → List ℕ → List ℕ
  pub first : ℕ
  pub size : ℕ
  pub overhead : ℕ
  pub whole : ReadsWhole keys came text seg first size overhead

module _ (keys : List OpeningKey) (came given : List ℕ) where
  -- a key was chosen, which is that of each longer stream too
  abbrev pub IsGoing : (ℕ → Bool → List ℕ → List ℕ) → ℕ → ℕ → ℕ → PieceReading → Type 0
  IsGoing seg first size overhead m = (m.progress ≡ Running) × ReadsOn keys came given seg first size overhead m

  -- nothing follows
  abbrev pub IsEnding : (ℕ → Bool → List ℕ → List ℕ) → ℕ → ℕ → ℕ → PieceReading → Type 0
  IsEnding seg first size overhead m =
      ((m.progress ≡ Running) × ReadsBehind keys came given seg first size overhead m)
      ⊎ ((m.progress ≡ Ended) × ReadsWhole keys came (given ++ m.pending) seg first size overhead)

  -- a reader to which these bytes came, and which gave this text
  abbrev pub IsReading : PieceReader → Type 0
  IsReading (Choosing c) = ChooseAs (keys_of_choice c) keys × (kept_bytes c.trial.kept ≡ came) × (given ≡ [])
  IsReading (Going t) = IsGoing (segment_map t.reader.opener) t.reader.opener.first t.reader.opener.size t.reader.opener.overhead (piece_reading t)
  IsReading (Ending t) = IsEnding (segment_map t.reader.opener) t.reader.opener.first t.reader.opener.size t.reader.opener.overhead (piece_reading t)
  IsReading Spent = ⊥

-- more may come
abbrev pub IsOpen : PieceReader → Type 0
IsOpen (Choosing c) = Unit {0}
IsOpen (Going t) = t.reader.progress ≡ Running
IsOpen _ = ⊥

-- nothing more comes
abbrev pub IsShut : PieceReader → Type 0
IsShut (Ending t) = Unit {0}
IsShut _ = ⊥

-- why a reader that is spent refuses a call
abbrev pub SpentCause : Kind → Type 0
SpentCause (FailedBefore c) = Unit {0}
SpentCause _ = ⊥

-- a call was refused, by its status, and the reader is spent
pub record HasRefused (new : PieceReader) (status : ℕ) (P : Kind → Type 0) : Type 0 where
  pub kind : Kind
  pub cause : P kind
  pub spent : new ≡ Spent
  pub status_is : status ≡ c_status kind

-- ---- a piece

-- each call that takes less than its piece is a step further
abbrev pub steps_of : PieceReader → ℕ
steps_of (Going t) = t.reader.segments + 1
steps_of _ = 0

-- the first n bytes of a piece were taken
pub record TakesPiece (old new : PieceReader) (piece : List ℕ) (n : ℕ) (keys : List OpeningKey) (came given : List ℕ) : Type 0 where
  pub reads : IsReading keys (came ++ take n piece) given new
  pub moves : (n ≡ length piece) ⊎ (steps_of old < steps_of new)

pub record IsFed (old new : PieceReader) (piece : List ℕ) (n : ℕ) : Type 0 where
  pub was_open : IsOpen old
  pub is_open : IsOpen new
  pub within : n ≤ length piece
  pub takes : (keys : List OpeningKey) (came given : List ℕ) → IsReading keys came given old → TakesPiece old new piece n keys came given

-- the stream begins under no key, whatever may follow the piece
abbrev pub NeverBegins : List OpeningKey → List ℕ → List ℕ → Type 0
NeverBegins keys came piece = (more : List ℕ) → IsChosen keys (came ++ (piece ++ more)) None

-- With the piece more than segment n came, which is that of no text, whatever may follow. It is not the first one. The texts before it
-- were given.
pub record StopsIn (keys : List OpeningKey) (came given piece : List ℕ) (n : ℕ) : Type 0 where
  pub seg : ℕ → Bool → List ℕ → List ℕ
  pub first : ℕ
  pub size : ℕ
  pub overhead : ℕ
  pub front : ℕ
  pub found : (more : List ℕ) → Found keys (came ++ more) seg front first size overhead
  pub texts : List (List ℕ)
  pub number : n ≡ length texts
  pub some : 0 < n
  pub given_is : joined texts ≡ given
  pub held : List ℕ
  pub leads : (more : List ℕ) → Leads seg 0 (cut first size (drop front came ++ more)) texts (cut (room_at first size n) size (held ++ more))
  pub next : room_at first size n < length (held ++ piece)
  pub nothing : (more : List ℕ) → Agree seg n (cut (room_at first size n) size (held ++ (piece ++ more))) []

-- why no piece is taken while a key is chosen, once one was chosen, and after the end
abbrev pub ChoosingCause : List OpeningKey → List ℕ → List ℕ → Kind → Type 0
ChoosingCause keys came piece NoMatchingKey = NeverBegins keys came piece
ChoosingCause keys came piece _ = ⊥

abbrev pub GoingCause : List OpeningKey → List ℕ → List ℕ → List ℕ → Kind → Type 0
GoingCause keys came given piece (BadSegment n) = StopsIn keys came given piece n
GoingCause keys came given piece TooManySegments = StopsIn keys came given piece (2 ^ 32)
GoingCause keys came given piece _ = ⊥

abbrev pub EndingCause : Kind → Type 0
EndingCause Closed = Unit {0}
EndingCause _ = ⊥

abbrev pub FeedRefused : PieceReader → List ℕ → Kind → Type 0
FeedRefused (Choosing c) piece kind = (keys : List OpeningKey) (came given : List ℕ) → IsReading keys came given (Choosing c) → ChoosingCause keys came piece kind
FeedRefused (Going t) piece kind = (keys : List OpeningKey) (came given : List ℕ) → IsReading keys came given (Going t) → GoingCause keys came given piece kind
FeedRefused (Ending t) piece kind = EndingCause kind
FeedRefused Spent piece kind = SpentCause kind

-- what a call with a piece answers
abbrev pub FeedMeans : PieceReader → PieceReader → List ℕ → ℕ → ℕ → Type 0
FeedMeans old new piece n status =
    ((status ≡ ok) × (waiting_text old ≡ []) × IsFed old new piece n)
    ⊎ ((status ≡ unread) × (n ≡ 0) × (new ≡ old) × (0 < length (waiting_text old)))
    ⊎ ((n ≡ 0) × (waiting_text old ≡ []) × HasRefused new status (FeedRefused old piece))

-- ---- text

-- a reader is the same but for the text that waits
abbrev pub OnlyGives : PieceReader → PieceReader → Type 0
OnlyGives (Choosing c) new = new ≡ Choosing c
OnlyGives (Going t) (Going u) = u.reader ≡ t.reader
OnlyGives (Ending t) (Ending u) = u.reader ≡ t.reader
OnlyGives _ _ = ⊥

-- text that waits was given
pub record Gives (old new : PieceReader) (before after : List ℕ) (n : ℕ) : Type 0 where
  pub count : n ≡ min (length before) (length (waiting_text old))
  pub given : take n after ≡ take n (waiting_text old)
  pub behind : drop n after ≡ drop n before
  pub waits : waiting_text new ≡ drop n (waiting_text old)
  pub only : OnlyGives old new
  pub reads : (keys : List OpeningKey) (came text : List ℕ) → IsReading keys came text old → IsReading keys came (text ++ take n after) new

abbrev pub ReadMeans : PieceReader → PieceReader → List ℕ → List ℕ → ℕ → ℕ → Type 0
ReadMeans Spent new before after n status = (new ≡ Spent) × (after ≡ before) × (n ≡ 0) × (status ≡ 45)
ReadMeans old new before after n status = Gives old new before after n × (status ≡ ok)

-- ---- the end

-- A segment was opened, or the reader has ended. If no text waits, the text that was given is whole.
pub record EndsReading (new : PieceReader) (keys : List OpeningKey) (came given : List ℕ) : Type 0 where
  pub reads : IsReading keys came given new
  pub whole : waiting_text new ≡ [] → HasText keys came given

pub record IsEnded (old new : PieceReader) : Type 0 where
  pub shut : IsShut new
  pub ends : (keys : List OpeningKey) (came given : List ℕ) → IsReading keys came given old → EndsReading new keys came given

-- Segment n of all that came is there, and is that of no text. It is not the first one. The texts before it were given. P says more
-- of it: of the overhead, and of how many bytes it has.
pub record StopsAt (keys : List OpeningKey) (came given : List ℕ) (n : ℕ) (P : ℕ → ℕ → Type 0) : Type 0 where
  pub seg : ℕ → Bool → List ℕ → List ℕ
  pub first : ℕ
  pub size : ℕ
  pub overhead : ℕ
  pub front : ℕ
  pub found : Found keys came seg front first size overhead
  pub texts : List (List ℕ)
  pub number : n ≡ length texts
  pub some : 0 < n
  pub given_is : joined texts ≡ given
  pub rest : List ℕ
  pub leads : Leads seg 0 (cut first size (drop front came)) texts (cut (room_at first size n) size rest)
  pub there : 0 < length rest
  pub nothing : Agree seg n (cut (room_at first size n) size rest) []
  pub next : P overhead (length (take (room_at first size n) rest))

-- why there is no end if no key was chosen, and if one was
abbrev pub ChoosingEndCause : List OpeningKey → List ℕ → Kind → Type 0
ChoosingEndCause keys came NoMatchingKey = IsChosen keys came None
ChoosingEndCause keys came _ = ⊥

abbrev pub EndCause : List OpeningKey → List ℕ → List ℕ → Kind → Type 0
EndCause keys came given (BadSegment n) = StopsAt keys came given n (λ overhead l. overhead ≤ l)
EndCause keys came given (Truncated n) = StopsAt keys came given n (λ overhead l. l < overhead)
EndCause keys came given TooManySegments = StopsAt keys came given (2 ^ 32) (λ overhead l. Unit {0})
EndCause keys came given _ = ⊥

-- it is the segment of this number that stops the reader
abbrev pub IsStopOf : ℕ → Kind → Type 0
IsStopOf number (BadSegment n) = n ≡ number
IsStopOf number (Truncated n) = n ≡ number
IsStopOf number TooManySegments = 2 ^ 32 ≡ number
IsStopOf number _ = ⊥

abbrev pub EndRefused : PieceReader → Kind → Type 0
EndRefused (Choosing c) kind = (keys : List OpeningKey) (came given : List ℕ) → IsReading keys came given (Choosing c) → ChoosingEndCause keys came kind
EndRefused (Going t) kind = (keys : List OpeningKey) (came given : List ℕ) → IsReading keys came given (Going t) → EndCause keys came given kind
EndRefused (Ending t) kind = (keys : List OpeningKey) (came given : List ℕ) → IsReading keys came given (Ending t) → EndCause keys came given kind
EndRefused Spent kind = SpentCause kind

abbrev pub EndMeans : PieceReader → PieceReader → ℕ → Type 0
EndMeans old new status =
    ((status ≡ ok) × (waiting_text old ≡ []) × (waiting_text new ≡ []) × IsEnded old new)
    ⊎ ((status ≡ unread) × (new ≡ old) × (0 < length (waiting_text old)))
    ⊎ ((status ≡ unread) × (waiting_text old ≡ []) × (0 < length (waiting_text new)) × IsEnded old new)
    ⊎ ((waiting_text old ≡ []) × HasRefused new status (EndRefused old))
