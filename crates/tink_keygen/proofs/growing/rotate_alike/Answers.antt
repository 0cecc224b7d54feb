use Rattle.tink_keysets.specs.Valid.{valid_keyset}
use Rattle.tink_keygen.proofs.GrowingCauses.{alike_causes}
use Rattle.tink_keygen.proofs.growing.rotate_alike.Goals as goal

pub returns-clause-cause : goal.returns-clause-cause
returns-clause-cause c = alike_causes c.args.template.now (valid_keyset c.args.keyset.now) c.args.draws.now c.grow_alike.result c.grow_alike.ensures.answer
