use Rattle.tink_run.proofs.RotationLaws.{run_opens_edited}
use Rattle.tink_run.proofs.laws.law_run_opens_edited.Goals as goal

pub returns : goal.returns
returns c = run_opens_edited
