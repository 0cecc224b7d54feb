use Rattle.tink_range.proofs.SliceFacts.{slice_of_stream}
use Rattle.tink_range.proofs.laws.law_range_of_stream.Goals as goal

pub returns : goal.returns
returns c = slice_of_stream
