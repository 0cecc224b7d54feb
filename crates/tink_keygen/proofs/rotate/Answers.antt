use Rattle.tink_keysets.specs.Valid.{valid_keyset}
use Rattle.tink_keygen.proofs.RotatingSteps.{causes}
use Rattle.tink_keygen.proofs.rotate.Goals as goal

pub returns-clause-cause : goal.returns-clause-cause
returns-clause-cause c = causes c.args.template.now (valid_keyset c.args.keyset.now) c.args.draws.now c.rotated_keyset.result c.rotated_keyset.ensures.answer
