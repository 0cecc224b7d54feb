use Rattle.tink_streaming_aead.proofs.SealedFacts.{chosen_stream, joined_text, one_of_key, read_chosen, read_sealed, sealed_stream}
use Rattle.tink_streaming_aead.proofs.laws.law_sealed_opens.Goals as goal

pub returns : goal.returns
returns c = record { stream = sealed_stream; text = joined_text; one = one_of_key; read = read_sealed; chosen = chosen_stream; read_chosen = read_chosen }
