-- What a contract sees of a reader that owns its source.
use Rattle.std.specs.Prelude.{ℕ, ◌+◌, ◌-◌, Bool, List, length}
use Rattle.std.specs.declared.option.Option.{Option}
use Rattle.std.specs.Io.KnownBytes.{prepend_known}
use Rattle.stream_model.specs.Cut.{numbered, room_at}
use Rattle.tink_streaming_io.specs.TextReading.{TextMoment}
use Rattle.tink_streaming_io.specs.declared.progress.Progress.{Progress}

-- how the segments are opened: the map, its nonces, the bytes that a segment has more than its text, and the sizes
-- of the first and of each later segment
pub record SegmentOpening (D : Type 0) : Type 0 where
  pub decrypter : D
  pub prefix : List ℕ
  pub nonce_size : ℕ
  pub overhead : ℕ
  pub first : ℕ
  pub size : ℕ

-- a reader: how it opens segments, how far it has come, the next segment's number, the text that was opened and is not
-- yet given, the bytes that are held, how many it has room to hold, the bytes of memory that it keeps for a segment, its
-- text, its nonce and the prefix of nonces, and its source
pub record ReaderState (R D : Type 0) : Type 0 where
  pub opening : SegmentOpening D
  pub progress : Progress
  pub number : ℕ
  pub pending : List ℕ
  pub held : List ℕ
  pub room : ℕ
  pub memory : ℕ
  pub source : R

-- the segment of a text by its number and its mark
abbrev pub seg_of : {D : Type 0} → (D → List ℕ → List ℕ → List ℕ) → SegmentOpening D → ℕ → Bool → List ℕ → List ℕ
seg_of seg o = numbered (seg o.decrypter) o.nonce_size o.prefix

-- how many bytes of the next chunk and of the one byte behind it are not yet held
abbrev pub lacks : {R D : Type 0} → ReaderState R D → ℕ
lacks r = room_at r.opening.first r.opening.size r.number + 1 - length r.held

-- the reader at this moment, by what its source still gives and by its faults
abbrev pub moment_of : {R D : Type 0} → (R → Option (List ℕ)) → (R → ℕ) → ReaderState R D → TextMoment
moment_of left faults r = record { progress = r.progress; number = r.number; pending = r.pending; rest = prepend_known r.held (left r.source); faults = faults r.source }
