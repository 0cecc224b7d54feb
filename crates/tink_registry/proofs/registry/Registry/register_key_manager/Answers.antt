use Rattle.std.proofs.Common.{◌≡◌, ◌∙◌, ◌++◌, ◌∷◌, [], None, ap, rules}
use Rattle.tink_registry.specs.Listed.{manager_of}
use Rattle.tink_registry.proofs.Lists.{manager_of-added}
use Rattle.tink_registry.proofs.registry.Registry.register_key_manager.Goals as goal

pub returns-clause-found : goal.returns-clause-found
returns-clause-found g c =
    let none : manager_of g.M.KeyManager.url (g.M.KeyManager.url c.args.km) c.args.self.now.managers ≡ None = search rules in
    let put : c.push.new.self.items ≡ c.args.self.now.managers ++ c.args.km ∷ [] = search rules in
    λ url. ap (manager_of g.M.KeyManager.url url) put ∙ manager_of-added g.M.KeyManager.url url c.args.km c.args.self.now.managers none
