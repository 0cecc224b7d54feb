use Rattle.tink_tokens.specs.TokenSteps.{AreLoadedMacs}
use Rattle.tink_c_primitives.specs.Primitives.{macs_of_file}
use Rattle.tink_c_objects.specs.declared.object.Object.TheVariants.{Mac}
use Rattle.tink_c_objects.proofs.Filled.{loaded}
use Rattle.tink_c_objects.proofs.filling.load_mac.Goals as goal

pub returns : goal.returns
returns c =
    let k = c.in_ok-macs.ensures in
    loaded AreLoadedMacs Mac (macs_of_file c.args.file.now) k.0 c.in_ok-macs.macs c.box_object.result k.1 k.2 c.box_object.ensures.ok c.box_object.ensures.err
