-- What a reader and a writer are that were just made.
use Rattle.std.proofs.Common.{◌≡◌, ◌-◌, ℕ, [], refl, arith}
use Rattle.std.specs.Prelude.{vec_len}
use Rattle.tink_streaming_segment.specs.declared.segment_traits.SegmentDecrypter as decrypter
use Rattle.tink_streaming_segment.specs.declared.segment_traits.SegmentEncrypter as encrypter
use Rattle.tink_streaming_io.specs.Openers.{held_bytes, reader_memory, reader_state}
use Rattle.tink_streaming_io.specs.Sealers.{held_text, writer_memory, writer_state}
use Rattle.tink_streaming_segment.specs.declared.opener.Opener.{Opener}
use Rattle.tink_streaming_io.specs.declared.progress.Progress.TheVariants.{Running}
use Rattle.tink_streaming_io.specs.declared.reading.SegmentReader.{SegmentReader}
use Rattle.tink_streaming_segment.specs.declared.sealer.Sealer.{Sealer}
use Rattle.tink_streaming_io.specs.declared.writing.Mode.TheVariants.{Open}
use Rattle.tink_streaming_io.specs.declared.writing.SegmentWriter.{SegmentWriter}

pub fresh_reader : {D R : Type 0} {g : decrypter.Ghosts D} (r : SegmentReader D g) (o : Opener D g) (source : R) (room memory overhead : ℕ) → r.progress ≡ Running → r.segments ≡ 0 → held_bytes r ≡ [] → vec_len r.buffer ≡ room
    → r.opened.items ≡ [] → reader_memory r ≡ memory → r.opener ≡ o → o.overhead ≡ overhead → reader_state r r.opened.items source ≡ record {
      opening = record { decrypter = o.decrypter; prefix = o.prefix.items; nonce_size = o.nonce_size; overhead = overhead; first = o.first; size = o.size };
      progress = Running;
      number = 0;
      pending = [];
      held = [];
      room = room;
      memory = memory;
      source = source;
    }
fresh_reader r o source room memory overhead runs none held fits empty kept same over = rw (kept, fits, held, empty, runs, none, same, over) refl

pub fresh_writer : {E K : Type 0} {g : encrypter.Ghosts E} (w : SegmentWriter E g) (s : Sealer E g) (sink : K) (first room memory : ℕ) → w.mode ≡ Open → w.segments ≡ 0 → held_text w ≡ [] → writer_memory w ≡ memory → w.sealer ≡ s
    → s.first ≡ first → s.room ≡ room → writer_state w sink ≡ record {
      sealing = record { encrypter = s.encrypter; prefix = s.prefix.items; nonce_size = s.nonce_size; first = first; room = room };
      mode = Open;
      number = 0;
      held = [];
      memory = memory;
      sink = sink;
    }
fresh_writer w s sink first room memory opens none held kept same first_is room_is = rw (kept, held, opens, none, same, first_is, room_is) refl

-- the sizes by the overhead that is told
pub room_by : (size over told : ℕ) → over ≡ told → size - over ≡ size - told
room_by size over told same = omega arith

pub first_by : (size offset over told : ℕ) → over ≡ told → size - over - offset ≡ size - offset - told
first_by size offset over told same = omega arith
