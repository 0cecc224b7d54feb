use Rattle.tink_run.proofs.LoadSteps.{set_answers}
use Rattle.tink_run.proofs.load.build.Goals as goal

pub returns-clause-answer : goal.returns-clause-answer
returns-clause-answer g c =
    set_answers g.M.KeyManager.url g.M.KeyManager.supports g.M.KeyManager.builds c.args.registry.now.managers c.args.handle.now c.requires c.typed_primitives.result c.typed_primitives.ensures.set c.typed_primitives.ensures.primary
