use Rattle.stream_model.proofs.CutFacts.{sealed_split}
use Rattle.tink_streaming_io.proofs.FullFacts.{are_full, last_some}
use Rattle.tink_streaming_io.proofs.laws.law_full_segments.Goals as goal

pub returns-clause-parts : goal.returns-clause-parts
returns-clause-parts c = sealed_split

pub returns-clause-full : goal.returns-clause-full
returns-clause-full c = are_full

pub returns-clause-last : goal.returns-clause-last
returns-clause-last c = last_some
