-- What a contract sees of a writer that is handed its sink at each call.
use Rattle.std.specs.Prelude.{ℕ, ◌+◌, List, take, vec_capacity}
use Rattle.std.specs.declared.option.Option.{Option}
use Rattle.tink_streaming_segment.specs.declared.segment_traits.SegmentEncrypter.{Ghosts}
pub use Rattle.tink_streaming_segment.specs.Sealers.{segment_map}
use Rattle.tink_streaming_io.specs.Writers.{WriterState}
use Rattle.tink_streaming_io.specs.Writing.{WriterMoment}
use Rattle.tink_streaming_io.specs.declared.writing.SegmentWriter.{SegmentWriter}

module _ {E : Type 0} {g : Ghosts E} where
  -- the text that is held
  abbrev pub held_text : SegmentWriter E g → List ℕ
  held_text w = take w.filled w.segment.items

  -- the memory that is kept for a segment, its nonce and the prefix of nonces, in bytes
  abbrev pub writer_memory : SegmentWriter E g → ℕ
  writer_memory w = vec_capacity w.segment + vec_capacity w.nonce + vec_capacity w.sealer.prefix

  -- the writer at this moment, by what the sink got and by its faults
  abbrev pub writer_moment : {K : Type 0} → (K → Option (List ℕ)) → (K → ℕ) → SegmentWriter E g → K → WriterMoment
  writer_moment got faults w sink = record { mode = w.mode; number = w.segments; held = held_text w; got = got sink; faults = faults sink }

  -- the writer with a sink that it owns
  abbrev pub writer_state : {K : Type 0} → SegmentWriter E g → K → WriterState K E
  writer_state w sink = record {
    sealing = record {
      encrypter = w.sealer.encrypter;
      prefix = w.sealer.prefix.items;
      nonce_size = w.sealer.nonce_size;
      first = w.sealer.first;
      room = w.sealer.room;
    };
    mode = w.mode;
    number = w.segments;
    held = held_text w;
    memory = writer_memory w;
    sink = sink;
  }
