use Rattle.tink_streaming_aead.proofs.WholeReadingFacts.{whole_of_chosen, whole_of_key}
use Rattle.tink_streaming_aead.proofs.laws.law_whole_reading.Goals as goal

pub returns : goal.returns
returns c = record { key = whole_of_key; keyset = whole_of_chosen }
