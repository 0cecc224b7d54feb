use Rattle.tink_streaming_aead.proofs.DecryptSteps.{first_gave}
use Rattle.tink_streaming_aead.proofs.laws.law_first_read.Goals as goal

pub returns : goal.returns
returns c = record { gave = first_gave }
