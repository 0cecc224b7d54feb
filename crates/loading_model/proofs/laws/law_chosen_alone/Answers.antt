use Rattle.loading_model.proofs.AloneFacts.{loads_alone}
use Rattle.loading_model.proofs.laws.law_chosen_alone.Goals as goal

pub returns : goal.returns
returns c = loads_alone
