use Rattle.std.specs.Prelude.{Ok}
use Rattle.tink_keysets.specs.Managed.{no_keys}
use Rattle.tink_keygen.proofs.RotatingSteps.{causes}
use Rattle.tink_keygen.proofs.keygen.Goals as goal

pub returns-clause-cause : goal.returns-clause-cause
returns-clause-cause c = causes c.args.template.now (Ok no_keys) c.args.draws.now c.new_keyset.result c.new_keyset.ensures.answer
