use Rattle.tink_keysets.specs.Valid.{valid_keyset}
use Rattle.tink_keygen.proofs.GrowingCauses.{beside_causes}
use Rattle.tink_keygen.proofs.growing.add.Goals as goal

pub returns-clause-cause : goal.returns-clause-cause
returns-clause-cause c = beside_causes c.args.template.now (valid_keyset c.args.keyset.now) c.args.draws.now c.grow_beside.result c.grow_beside.ensures.answer
