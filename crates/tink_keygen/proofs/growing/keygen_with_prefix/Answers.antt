use Rattle.tink_keygen.proofs.GrowingCauses.{prefixed_causes}
use Rattle.tink_keygen.proofs.growing.keygen_with_prefix.Goals as goal

pub returns-clause-cause : goal.returns-clause-cause
returns-clause-cause c = prefixed_causes c.args.template.now c.args.prefix c.args.draws.now c.make_prefixed.result c.make_prefixed.ensures.answer
