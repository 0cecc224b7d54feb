use Rattle.tink_c_primitives.specs.Primitives.{IsDaead, daeads_of}
use Rattle.tink_c_objects.specs.declared.object.Object.TheVariants.{Daead}
use Rattle.tink_c_objects.proofs.Filled.{loaded}
use Rattle.tink_c_objects.proofs.filling.load_daead.Goals as goal

pub returns : goal.returns
returns c =
    let k = c.in_ok-daeads.ensures in
    loaded IsDaead Daead (daeads_of c.args.file.now) k.0 c.in_ok-daeads.daeads c.box_object.result k.1 k.2 c.box_object.ensures.ok c.box_object.ensures.err
