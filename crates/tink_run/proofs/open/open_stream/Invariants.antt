-- Of the texts that were opened, all but the last were written.
use Rattle.std.proofs.Common.{◌≡◌, ◌≤◌, ◌-◌, ◌^◌, take, vec_len}
use Rattle.std.specs.Io.KnownBytes.{prepend_known}
use Rattle.stream_model.specs.Cut.{numbered}
use Rattle.tink_run.proofs.ReadOut.{IsReading}
use Rattle.tink_run.proofs.open.open_stream.Given as goal

abbrev pub invariant-loop-bytes : goal.invariant-loop-bytes
invariant-loop-bytes g l = record {
  reading : IsReading (numbered (g.D.SegmentDecrypter.seg l.fn.reader.opener.decrypter) l.fn.reader.opener.nonce_size l.fn.reader.opener.prefix.items) l.fn.reader.opener.first l.fn.reader.opener.size
      (prepend_known (take l.fn.reader.filled l.fn.reader.buffer.items) (g.S.Source.left l.fn.source)) (g.K.Sink.got l.fn.sink) (g.K.Sink.got l.sink)
      (record {
        progress = l.reader.progress;
        number = l.reader.segments;
        opened = l.reader.opened.items;
        rest = prepend_known (take l.reader.filled l.reader.buffer.items) (g.S.Source.left l.source);
        faults = g.S.Source.faults l.source;
      })
      l.bytes;
  opener : l.reader.opener ≡ l.fn.reader.opener;
  room : vec_len l.reader.buffer ≡ vec_len l.fn.reader.buffer;
  reads : g.S.Source.faults l.fn.source ≤ g.S.Source.faults l.source;
  writes : g.K.Sink.faults l.fn.sink ≤ g.K.Sink.faults l.sink;
  same_source : g.S.Source.same l.fn.source l.source;
  same_sink : g.K.Sink.same l.fn.sink l.sink;
}

abbrev pub decreases-loop-bytes : goal.decreases-loop-bytes
decreases-loop-bytes g l = 2 ^ 32 - l.reader.segments
