use Rattle.tink_streaming_io.proofs.TextLaws.{read_end, read_failed}
use Rattle.tink_streaming_io.proofs.reading_laws.law_for_good.Goals as goal

pub returns-clause-end : goal.returns-clause-end
returns-clause-end c = read_end

pub returns-clause-failed : goal.returns-clause-failed
returns-clause-failed c = read_failed
