use Rattle.std.specs.Prelude.{option_copied}
use Rattle.tink_sets.specs.Entries.{entry_of}
use Rattle.tink_set_builder.specs.Built.{built_entry}
use Rattle.tink_set_builder.proofs.BuildingFacts.{IsBuilt}
use Rattle.tink_set_builder.proofs.building.put_keys.Given as goal

-- what the keys so far gave is in the set
abbrev pub invariant-loop-key : goal.invariant-loop-key
invariant-loop-key g l =
    IsBuilt (built_entry g.M.KeyManager.url g.M.KeyManager.supports g.M.KeyManager.builds entry_of l.registry.managers (option_copied l.km))
    l.id l.keys l.key-index l.set
