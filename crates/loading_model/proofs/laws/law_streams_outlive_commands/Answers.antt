use Rattle.loading_model.proofs.RotationFacts.{streams_outlive}
use Rattle.loading_model.proofs.laws.law_streams_outlive_commands.Goals as goal

pub returns-clause-opening : goal.returns-clause-opening
returns-clause-opening c = streams_outlive
