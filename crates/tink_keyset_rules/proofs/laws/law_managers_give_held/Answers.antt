use Rattle.tink_keyset_rules.proofs.GivenData.{gives_held}
use Rattle.tink_keyset_rules.proofs.laws.law_managers_give_held.Goals as goal

pub returns : goal.returns
returns g c = gives_held g.M.KeyManager.url g.M.KeyManager.makes_data c.args.registry.now.managers g.met.M.KeyManager.new_material
