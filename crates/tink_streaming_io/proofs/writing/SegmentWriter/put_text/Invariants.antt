use Rattle.std.proofs.Common.{◌≡◌, ◌≤◌, ◌<◌, ◌-◌, ◌++◌, ℕ, List, length, drop}
use Rattle.std.specs.Io.KnownBytes.{Appends}
use Rattle.stream_model.specs.Cut.{room_at, unmarked}
use Rattle.tink_streaming_io.specs.Sealers.{held_text, segment_map, writer_memory}
use Rattle.tink_streaming_io.proofs.WriterSteps.{Proceeds}
use Rattle.tink_streaming_io.specs.declared.writing.Mode.TheVariants.{Open}
use Rattle.tink_streaming_io.proofs.writing.SegmentWriter.put_text.Given as goal

-- the full chunks so far were written
abbrev pub invariant-loop-at : goal.invariant-loop-at
invariant-loop-at g l =
    let sink = g.K.Sink in
    record {
      within : l.at ≤ length l.buf;
      full : l.at < length l.buf → l.self.filled ≡ room_at l.fn.self.sealer.first l.fn.self.sealer.room l.self.segments;
      is_open : l.self.mode ≡ Open;
      sealer : l.self.sealer ≡ l.fn.self.sealer;
      memory : writer_memory l.self ≡ writer_memory l.fn.self;
      done : List (List ℕ);
      written : Appends (sink.got l.fn.sink) (sink.got l.sink) (unmarked (segment_map l.fn.self.sealer) l.fn.self.segments done);
      proceeds : Proceeds l.fn.self.sealer.first l.fn.self.sealer.room l.fn.self.segments (held_text l.fn.self ++ l.buf) done l.self.segments (held_text l.self ++ drop l.at l.buf);
      still : length done ≡ 0 → l.sink ≡ l.fn.sink;
      later : sink.faults l.fn.sink ≤ sink.faults l.sink;
      same : sink.same l.fn.sink l.sink;
    }

abbrev pub decreases-loop-at : goal.decreases-loop-at
decreases-loop-at g l = length l.buf - l.at
