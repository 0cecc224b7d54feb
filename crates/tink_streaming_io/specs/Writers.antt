-- What a contract sees of a writer that owns its sink.
use Rattle.std.specs.Prelude.{ℕ, Bool, List}
use Rattle.std.specs.declared.option.Option.{Option}
use Rattle.stream_model.specs.Cut.{numbered}
use Rattle.tink_streaming_io.specs.Writing.{WriterMoment}
use Rattle.tink_streaming_io.specs.declared.writing.Mode.{Mode}

-- how the segments are made: the map, its nonces, and the rooms for text of the first and of each later segment
pub record SegmentSealing (E : Type 0) : Type 0 where
  pub encrypter : E
  pub prefix : List ℕ
  pub nonce_size : ℕ
  pub first : ℕ
  pub room : ℕ

-- a writer: how it makes segments, whether it is open, the next segment's number, the text that is held, the bytes of memory
-- that it keeps for a segment, its nonce and the prefix of nonces, and its sink
pub record WriterState (W E : Type 0) : Type 0 where
  pub sealing : SegmentSealing E
  pub mode : Mode
  pub number : ℕ
  pub held : List ℕ
  pub memory : ℕ
  pub sink : W

-- the segment of a text by its number and its mark
abbrev pub seg_of : {E : Type 0} → (E → List ℕ → List ℕ → List ℕ) → SegmentSealing E → ℕ → Bool → List ℕ → List ℕ
seg_of seg s = numbered (seg s.encrypter) s.nonce_size s.prefix

-- the writer at this moment, by what its sink got and by its faults
abbrev pub moment_of : {W E : Type 0} → (W → Option (List ℕ)) → (W → ℕ) → WriterState W E → WriterMoment
moment_of got faults w = record { mode = w.mode; number = w.number; held = w.held; got = got w.sink; faults = faults w.sink }
