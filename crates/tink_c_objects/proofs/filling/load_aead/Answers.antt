use Rattle.tink_c_primitives.specs.Primitives.{IsAead, aeads_of}
use Rattle.tink_c_objects.specs.declared.object.Object.TheVariants.{Aead}
use Rattle.tink_c_objects.proofs.Filled.{loaded}
use Rattle.tink_c_objects.proofs.filling.load_aead.Goals as goal

pub returns : goal.returns
returns c =
    let k = c.in_ok-aeads.ensures in
    loaded IsAead Aead (aeads_of c.args.file.now) k.0 c.in_ok-aeads.aeads c.box_object.result k.1 k.2 c.box_object.ensures.ok c.box_object.ensures.err
