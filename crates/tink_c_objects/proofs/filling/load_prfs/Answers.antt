use Rattle.tink_c_primitives.specs.Primitives.{ArePrfs, prfs_of_file}
use Rattle.tink_c_objects.specs.declared.object.Object.TheVariants.{Prfs}
use Rattle.tink_c_objects.proofs.Filled.{loaded}
use Rattle.tink_c_objects.proofs.filling.load_prfs.Goals as goal

pub returns : goal.returns
returns c =
    let k = c.in_ok-prfs.ensures in
    loaded ArePrfs Prfs (prfs_of_file c.args.file.now) k.0 c.in_ok-prfs.prfs c.box_object.result k.1 k.2 c.box_object.ensures.ok c.box_object.ensures.err
