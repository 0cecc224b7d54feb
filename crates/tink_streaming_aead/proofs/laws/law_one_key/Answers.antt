use Rattle.tink_streaming_aead.proofs.OneKeyFacts.{first_read_is_ok, reads_as_alone, reads_as_reader}
use Rattle.tink_streaming_aead.proofs.laws.law_one_key.Goals as goal

pub returns : goal.returns
returns c start = record { alone = reads_as_alone _ _; opens = first_read_is_ok _ _; reader = reads_as_reader }
