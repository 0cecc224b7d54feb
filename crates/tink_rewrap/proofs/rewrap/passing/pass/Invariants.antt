-- Of the texts that were opened, all but the last went to the writer.
use Rattle.std.proofs.Common.{◌≡◌, ◌≤◌, ◌-◌, ◌^◌, take, vec_len}
use Rattle.std.specs.Io.KnownBytes.{prepend_known}
use Rattle.stream_model.specs.Cut.{numbered}
use Rattle.tink_streaming_io.specs.Sealers.{held_text}
use Rattle.tink_rewrap.proofs.PassSteps.{IsUnderWay}
use Rattle.tink_rewrap.proofs.rewrap.passing.pass.Given as goal

abbrev pub invariant-loop-bytes : goal.invariant-loop-bytes
invariant-loop-bytes g l = record {
  under_way : IsUnderWay (numbered (g.D.SegmentDecrypter.seg l.fn.reader.opener.decrypter) l.fn.reader.opener.nonce_size l.fn.reader.opener.prefix.items) l.fn.reader.opener.first l.fn.reader.opener.size
      l.fn.front (numbered (g.E.SegmentEncrypter.seg l.fn.writer.sealer.encrypter) l.fn.writer.sealer.nonce_size l.fn.writer.sealer.prefix.items) l.fn.writer.sealer.first l.fn.writer.sealer.room
      (record { left = prepend_known (take l.fn.reader.filled l.fn.reader.buffer.items) (g.S.Source.left l.fn.source); read_faults = g.S.Source.faults l.fn.source; got = g.K.Sink.got l.fn.sink; write_faults = g.K.Sink.faults l.fn.sink })
      (record {
        progress = l.reader.progress;
        number = l.reader.segments;
        opened = l.reader.opened.items;
        rest = prepend_known (take l.reader.filled l.reader.buffer.items) (g.S.Source.left l.source);
        faults = g.S.Source.faults l.source;
      })
      (record { mode = l.writer.mode; number = l.writer.segments; held = held_text l.writer; got = g.K.Sink.got l.sink; faults = g.K.Sink.faults l.sink })
      l.bytes;
  opener : l.reader.opener ≡ l.fn.reader.opener;
  room : vec_len l.reader.buffer ≡ vec_len l.fn.reader.buffer;
  sealer : l.writer.sealer ≡ l.fn.writer.sealer;
  reads : g.S.Source.faults l.fn.source ≤ g.S.Source.faults l.source;
  writes : g.K.Sink.faults l.fn.sink ≤ g.K.Sink.faults l.sink;
  same_source : g.S.Source.same l.fn.source l.source;
  same_sink : g.K.Sink.same l.fn.sink l.sink;
}

abbrev pub decreases-loop-bytes : goal.decreases-loop-bytes
decreases-loop-bytes g l = 2 ^ 32 - l.reader.segments
