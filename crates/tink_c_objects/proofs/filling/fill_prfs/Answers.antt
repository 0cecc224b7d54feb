use Rattle.tink_c_primitives.specs.Primitives.{ArePrfs, prfs_of_file}
use Rattle.tink_c_objects.specs.declared.object.Object.TheVariants.{Prfs}
use Rattle.tink_c_objects.proofs.Filled.{filled}
use Rattle.tink_c_objects.proofs.filling.fill_prfs.Goals as goal

pub returns : goal.returns
returns c = filled ArePrfs Prfs (prfs_of_file c.args.file.now) c.load_prfs-loaded.result _ _ _ c.load_prfs-loaded.ensures c.fill.ensures
