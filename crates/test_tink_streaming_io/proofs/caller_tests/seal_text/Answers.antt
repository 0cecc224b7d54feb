use Rattle.tink_streaming_io.proofs.WriterCallers.{sealed_whole}
use Rattle.test_tink_streaming_io.proofs.caller_tests.seal_text.Goals as goal

pub returns : goal.returns
returns g c = record {
  written = sealed_whole g.E.SegmentEncrypter.seg g.W.Sink.got g.W.Sink.faults c.args.writer.now c.write.new.self c.close.new.self c.args.text.now c.close.result
      c.requires.open c.requires.first c.requires.empty c.in_ok-write.ensures.sealing c.in_ok-write.ensures.answer.0 c.close.ensures.answer;
}
