use Rattle.tink_streaming_aead.proofs.CandidateFacts.{chooses_candidate}
use Rattle.tink_streaming_aead.proofs.laws.law_candidates.Goals as goal

pub returns : goal.returns
returns c = chooses_candidate
