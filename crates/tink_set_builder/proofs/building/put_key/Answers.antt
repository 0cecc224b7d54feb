use Rattle.std.proofs.Common.{◌≡◌, true, option_copied, rules}
use Rattle.tink_sets.specs.Entries.{entry_of}
use Rattle.keyset_model.specs.Keys.{is_enabled}
use Rattle.tink_set_builder.specs.Built.{built_data}
use Rattle.tink_set_builder.proofs.BuildingFacts.{takes_built}
use Rattle.tink_set_builder.proofs.building.put_key.Goals as goal

pub returns-clause-ok : goal.returns-clause-ok
returns-clause-ok g c =
    let on : is_enabled c.args.key.now ≡ true = search rules in
    takes_built c.args.id (is_enabled c.args.key.now) (λ p. entry_of p c.args.key.now)
    (built_data g.M.KeyManager.url g.M.KeyManager.supports g.M.KeyManager.builds c.args.registry.now.managers (option_copied c.args.km) c.args.key.now.key_data)
    c.in-Ok.p c.args.set.now c.put_entry.new.set c.put_entry.result on c.in-Ok.ensures c.put_entry.ensures.ok
