use Rattle.std.specs.Prelude.{None}
use Rattle.tink_io.specs.Answering.{and_then}
use Rattle.tink_keysets.specs.Built.{built_entries}
use Rattle.tink_sets.specs.Entries.{entry_of}
use Rattle.tink_prf.specs.Sets.{HasPrfs, prfs_of}
use Rattle.tink_c_primitives.specs.Primitives.{ArePrfs, prf_keys}
use Rattle.tink_c_primitives.proofs.Building.{built_by, builds, supports, url}
use Rattle.tink_c_primitives.proofs.loading.build_prfs.Goals as goal

pub returns : goal.returns
returns c =
    let ks = c.args.handle.now in
    built_by (λ managers. and_then (built_entries url supports builds entry_of managers None ks) (prfs_of ks.primary_key_id)) (prf_keys ks.primary_key_id) (HasPrfs ks.primary_key_id) ArePrfs (λ es w is. is)
    c.in_ok-registry.registry c.new.result c.in_ok-registry.ensures.ok c.new.ensures
