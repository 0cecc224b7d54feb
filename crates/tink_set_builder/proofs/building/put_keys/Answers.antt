use Rattle.std.proofs.Common.{◌<◌, length, option_copied, arith}
use Rattle.tink_sets.specs.Entries.{entry_of}
use Rattle.tink_set_builder.specs.Built.{built_entry}
use Rattle.tink_set_builder.proofs.BuildingFacts.{none_built, one_built}
use Rattle.tink_set_builder.proofs.building.put_keys.Goals as goal

pub loop-key-init : goal.loop-key-init
loop-key-init g c =
    none_built
    (built_entry g.M.KeyManager.url g.M.KeyManager.supports g.M.KeyManager.builds entry_of c.args.registry.now.managers (option_copied c.args.km))
    c.args.id c.args.keys.now c.args.set.now c.requires.no_primary c.requires.no_entries c.requires.no_lists

pub loop-key-preserved : goal.loop-key-preserved
loop-key-preserved g c =
    let within : c.loop-key.key-index < length c.args.keys.now = omega arith in
    one_built
    (built_entry g.M.KeyManager.url g.M.KeyManager.supports g.M.KeyManager.builds entry_of c.args.registry.now.managers (option_copied c.args.km))
    c.args.id c.args.keys.now c.loop-key.key-index c.key-item.result c.loop-key.set c.put_key.new.set within c.key-item.is
    c.in-Ok.ensures.ok c.loop-key.invariant
