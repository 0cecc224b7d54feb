use Rattle.tink_run.proofs.RotationLaws.{run_opens_after_adding, run_opens_after_all, run_opens_by_id}
use Rattle.tink_run.proofs.laws.law_run_opens_after_rotation.Goals as goal

pub returns-clause-adding : goal.returns-clause-adding
returns-clause-adding c = run_opens_after_adding

pub returns-clause-places : goal.returns-clause-places
returns-clause-places c = run_opens_after_all

pub returns-clause-ids : goal.returns-clause-ids
returns-clause-ids c = run_opens_by_id
