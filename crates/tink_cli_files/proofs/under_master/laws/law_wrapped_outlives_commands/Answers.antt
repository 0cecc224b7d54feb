use Rattle.tink_cli_files.proofs.BackFacts.{wrapped_outlives}
use Rattle.tink_cli_files.proofs.under_master.laws.law_wrapped_outlives_commands.Goals as goal

pub returns : goal.returns
returns c = wrapped_outlives
