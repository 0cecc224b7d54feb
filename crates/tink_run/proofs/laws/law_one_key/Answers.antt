use Rattle.tink_run.proofs.OneKeyFacts.{opens_as_one_key, run_opens_alone}
use Rattle.tink_run.proofs.laws.law_one_key.Goals as goal

pub returns-clause-keys : goal.returns-clause-keys
returns-clause-keys c = opens_as_one_key

pub returns-clause-keysets : goal.returns-clause-keysets
returns-clause-keysets c = run_opens_alone
