use Rattle.tink_cli_jobs.proofs.ElsewhereLemmas.{same_keys}
use Rattle.tink_cli_jobs.proofs.laws.law_keys_from_standard_input.Goals as goal

pub returns : goal.returns
returns c = λ s one other h. same_keys s one other h
