use Rattle.keyset_model.proofs.IdsLaw.{keeps_ids}
use Rattle.tink_keyset_rules.proofs.laws.law_ids_stay_distinct.Goals as goal

pub returns : goal.returns
returns c = keeps_ids
