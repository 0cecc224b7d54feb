-- All segments so far were opened.
use Rattle.std.proofs.Common.{◌≡◌, ◌-◌, ◌^◌, Some}
use Rattle.std.specs.Io.KnownBytes.{IsAtEnd}
use Rattle.tink_streaming_io.specs.Openers.{reader_rest, segment_map}
use Rattle.tink_streaming_io.specs.Reading.{HasNotFailed}
use Rattle.tink_streaming_io.specs.declared.progress.Progress.TheVariants.{Ended}
use Rattle.tink_large.specs.Opening.{AllRemains}
use Rattle.tink_large.specs.SealedText.{Passed, stream_left}
use Rattle.tink_large.proofs.opening.open_all.Given as goal

abbrev pub invariant-segments : goal.invariant-segments
invariant-segments l = record {
  remains : AllRemains (segment_map l.fn.reader.opener) l.fn.reader.opener.first l.fn.reader.opener.size l.reader.segments
      (reader_rest (λ s. Some (stream_left s)) l.reader l.source) l.bytes l.fn.source.n;
  opener : l.reader.opener ≡ l.fn.reader.opener;
  lives : HasNotFailed l.reader.progress;
  ends : l.reader.progress ≡ Ended → IsAtEnd (reader_rest (λ s. Some (stream_left s)) l.reader l.source);
  passed : Passed l.fn.source l.source;
}

abbrev pub decreases-segments : goal.decreases-segments
decreases-segments l = 2 ^ 32 - l.reader.segments
