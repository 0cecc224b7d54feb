use Rattle.tink_streaming_io.proofs.WritingFacts.{wrote_more}
use Rattle.tink_streaming_io.proofs.laws.law_any_cutting.Goals as goal

pub returns : goal.returns
returns c = record { joined = wrote_more }
