use Rattle.std.proofs.lemmas.Bool.{false≢true}
use Rattle.tink_streaming_segment.proofs.opening.open_into.Goals as goal

pub returns-in-Err-decrypt_segment_into-clause-ok : goal.returns-in-Err-decrypt_segment_into-clause-ok
returns-in-Err-decrypt_segment_into-clause-ok g c is = absurd (false≢true is)

pub returns-in-Err-decrypt_segment_into-clause-length : goal.returns-in-Err-decrypt_segment_into-clause-length
returns-in-Err-decrypt_segment_into-clause-length g c is = absurd (false≢true is)
