-- The text so far was read and written.
use Rattle.std.proofs.Common.{◌≡◌, ◌≤◌, ◌-◌, ◌^◌}
use Rattle.stream_model.specs.Cut.{numbered}
use Rattle.tink_streaming_io.specs.Sealers.{held_text, writer_memory}
use Rattle.tink_streaming_io.specs.Pouring.{IsPoured}
use Rattle.tink_streaming_io.proofs.pouring.pour.Given as goal

abbrev pub invariant-loop-n : goal.invariant-loop-n
invariant-loop-n g l = record {
  poured : IsPoured (numbered (g.E.SegmentEncrypter.seg l.fn.writer.sealer.encrypter) l.fn.writer.sealer.nonce_size l.fn.writer.sealer.prefix.items) l.fn.writer.sealer.first l.fn.writer.sealer.room
      (g.S.Source.left l.fn.source) (g.S.Source.left l.source)
      (record { mode = l.fn.writer.mode; number = l.fn.writer.segments; held = held_text l.fn.writer; got = g.K.Sink.got l.fn.sink; faults = g.K.Sink.faults l.fn.sink })
      (record { mode = l.writer.mode; number = l.writer.segments; held = held_text l.writer; got = g.K.Sink.got l.sink; faults = g.K.Sink.faults l.sink })
      l.bytes;
  sealer : l.writer.sealer ≡ l.fn.writer.sealer;
  memory : writer_memory l.writer ≡ writer_memory l.fn.writer;
  reads : g.S.Source.faults l.fn.source ≤ g.S.Source.faults l.source;
  writes : g.K.Sink.faults l.fn.sink ≤ g.K.Sink.faults l.sink;
  same_source : g.S.Source.same l.fn.source l.source;
  same_sink : g.K.Sink.same l.fn.sink l.sink;
}

abbrev pub decreases-loop-n : goal.decreases-loop-n
decreases-loop-n g l = 2 ^ 64 - l.bytes
