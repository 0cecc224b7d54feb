use Rattle.keyset_model.proofs.KeysLaw.{keeps_keys}
use Rattle.tink_keyset_rules.proofs.laws.law_keys_stay.Goals as goal

pub returns : goal.returns
returns c = keeps_keys
