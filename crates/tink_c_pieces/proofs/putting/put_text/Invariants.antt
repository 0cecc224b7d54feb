use Rattle.std.proofs.Common.{◌≡◌, ◌≤◌, ◌<◌, ◌-◌, ◌++◌, ℕ, List, length, drop}
use Rattle.stream_model.specs.Cut.{room_at, unmarked}
use Rattle.tink_streaming_segment.specs.Sealers.{segment_map}
use Rattle.tink_streaming_io.specs.Sealers.{held_text, writer_memory}
use Rattle.tink_streaming_io.proofs.WriterSteps.{Proceeds}
use Rattle.tink_streaming_io.specs.declared.writing.Mode.TheVariants.{Open}
use Rattle.tink_c_pieces.proofs.putting.put_text.Given as goal

-- the segments of the full chunks so far were put
abbrev pub invariant-loop-at : goal.invariant-loop-at
invariant-loop-at g l =
    record {
      within : l.at ≤ length l.piece;
      full : l.at < length l.piece → l.writer.filled ≡ room_at l.fn.writer.sealer.first l.fn.writer.sealer.room l.writer.segments;
      is_open : l.writer.mode ≡ Open;
      sealer : l.writer.sealer ≡ l.fn.writer.sealer;
      memory : writer_memory l.writer ≡ writer_memory l.fn.writer;
      done : List (List ℕ);
      count : l.to ≡ length (unmarked (segment_map l.fn.writer.sealer) l.fn.writer.segments done);
      put : l.out ≡ unmarked (segment_map l.fn.writer.sealer) l.fn.writer.segments done ++ drop (length (unmarked (segment_map l.fn.writer.sealer) l.fn.writer.segments done)) l.fn.out;
      proceeds : Proceeds l.fn.writer.sealer.first l.fn.writer.sealer.room l.fn.writer.segments (held_text l.fn.writer ++ l.piece) done l.writer.segments (held_text l.writer ++ drop l.at l.piece);
    }

abbrev pub decreases-loop-at : goal.decreases-loop-at
decreases-loop-at g l = length l.piece - l.at
