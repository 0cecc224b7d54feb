-- What a contract sees of readers that are handed their source at each call.
use Rattle.std.specs.Prelude.{◌≡◌, ℕ, ◌+◌, ◌-◌, List, [], drop, length, take, vec_len, vec_capacity}
use Rattle.std.specs.Option.{ForSome}
use Rattle.std.specs.declared.option.Option.{Option}
use Rattle.std.specs.Io.KnownBytes.{prepend_known}
use Rattle.stream_model.specs.Cut.{room_at}
use Rattle.tink_streaming_segment.specs.declared.segment_traits.SegmentDecrypter.{Ghosts}
pub use Rattle.tink_streaming_segment.specs.Openers.{segment_map}
use Rattle.tink_streaming_io.specs.Readers.{ReaderState}
use Rattle.tink_streaming_io.specs.Reading as segments
use Rattle.tink_streaming_io.specs.TextReading as text
use Rattle.tink_streaming_io.specs.declared.progress.Progress.TheVariants.{Ended}
use Rattle.tink_streaming_io.specs.declared.reading.SegmentReader.{SegmentReader}
use Rattle.tink_streaming_io.specs.declared.text_reader.TextReader.{TextReader}

module _ {D : Type 0} {g : Ghosts D} where
  -- the bytes that a reader holds
  abbrev pub held_bytes : SegmentReader D g → List ℕ
  held_bytes r = take r.filled r.buffer.items

  -- how many bytes of the next chunk and of the one byte behind it are not yet held
  abbrev pub reader_lacks : SegmentReader D g → ℕ
  reader_lacks r = room_at r.opener.first r.opener.size r.segments + 1 - length (held_bytes r)

  -- the memory that is kept for a segment, its text, its nonce and the prefix of nonces, in bytes
  abbrev pub reader_memory : SegmentReader D g → ℕ
  reader_memory r = vec_capacity r.buffer + vec_capacity r.opened + vec_capacity r.nonce + vec_capacity r.opener.prefix

  -- the bytes that a reader holds, and those that the source still gives
  abbrev pub reader_rest : {S : Type 0} → (S → Option (List ℕ)) → SegmentReader D g → S → Option (List ℕ)
  reader_rest left r source = prepend_known (held_bytes r) (left source)

  -- the reader at this moment, by what the source still gives and by its faults
  abbrev pub reader_moment : {S : Type 0} → (S → Option (List ℕ)) → (S → ℕ) → SegmentReader D g → S → segments.ReaderMoment
  reader_moment left faults r source = record { progress = r.progress; number = r.segments; opened = r.opened.items; rest = reader_rest left r source; faults = faults source }

  -- nothing is left once the last segment was opened
  abbrev pub EndsEmpty : {S : Type 0} → (S → Option (List ℕ)) → SegmentReader D g → S → Type 0
  EndsEmpty left r source = r.progress ≡ Ended → ForSome (reader_rest left r source) (λ xs. xs ≡ [])

  -- the text that was opened and is not yet given
  abbrev pub pending_text : TextReader D g → List ℕ
  pending_text t = drop t.given t.reader.opened.items

  -- the reader at this moment, by what the source still gives and by its faults
  abbrev pub text_moment : {S : Type 0} → (S → Option (List ℕ)) → (S → ℕ) → TextReader D g → S → text.TextMoment
  text_moment left faults t source = record { progress = t.reader.progress; number = t.reader.segments; pending = pending_text t; rest = reader_rest left t.reader source; faults = faults source }

  -- a reader with this text to give, and with a source that it owns
  abbrev pub reader_state : {S : Type 0} → SegmentReader D g → List ℕ → S → ReaderState S D
  reader_state r pending source = record {
    opening = record {
      decrypter = r.opener.decrypter;
      prefix = r.opener.prefix.items;
      nonce_size = r.opener.nonce_size;
      overhead = r.opener.overhead;
      first = r.opener.first;
      size = r.opener.size;
    };
    progress = r.progress;
    number = r.segments;
    pending = pending;
    held = held_bytes r;
    room = vec_len r.buffer;
    memory = reader_memory r;
    source = source;
  }
