use Rattle.tink_streaming_io.proofs.TextLaws.{read_empty}
use Rattle.tink_streaming_io.proofs.reading_laws.law_empty_buffer.Goals as goal

pub returns : goal.returns
returns c = record { empty = read_empty }
