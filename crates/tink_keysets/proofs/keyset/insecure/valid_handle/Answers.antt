use Rattle.tink_keysets.specs.Valid.{valid_or_refused}
use Rattle.tink_keysets.proofs.ThroughFacts.{answers_chained, refused_chained}
use Rattle.tink_keysets.proofs.ValidFacts.{answers_valid}
use Rattle.tink_keysets.proofs.keyset.insecure.valid_handle.Goals as goal

pub returns-in-Ok-clause-valid : goal.returns-in-Ok-clause-valid
returns-in-Ok-clause-valid c = answers_valid c.in-Ok.keyset c.handle_if_valid.result c.handle_if_valid.ensures

pub returns-in-Ok-clause-answer : goal.returns-in-Ok-clause-answer
returns-in-Ok-clause-answer c = answers_chained valid_or_refused c.handle_if_valid.result _ c.in-Ok.keyset c.in-Ok.ensures c.handle_if_valid.ensures

pub returns-in-Err-clause-answer : goal.returns-in-Err-clause-answer
returns-in-Err-clause-answer c = refused_chained valid_or_refused _ c.in-Err.e.kind c.in-Err.ensures
