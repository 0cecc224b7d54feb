use Rattle.tink_streaming_aead.proofs.StreamLaws.{unwritten_stream, whole_stream}
use Rattle.tink_streaming_aead.proofs.laws.law_whole_stream.Goals as goal

pub returns : goal.returns
returns c = record { whole = whole_stream; unwritten = unwritten_stream }
