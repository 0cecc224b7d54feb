use Rattle.tink_daead.proofs.KeysetFacts.{keysets_decrypt_exactly}
use Rattle.tink_daead.proofs.laws.law_keysets_decrypt_exactly.Goals as goal

pub returns : goal.returns
returns c = keysets_decrypt_exactly
