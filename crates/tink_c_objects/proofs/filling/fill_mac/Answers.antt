use Rattle.tink_tokens.specs.TokenSteps.{AreLoadedMacs}
use Rattle.tink_c_primitives.specs.Primitives.{macs_of_file}
use Rattle.tink_c_objects.specs.declared.object.Object.TheVariants.{Mac}
use Rattle.tink_c_objects.proofs.Filled.{filled}
use Rattle.tink_c_objects.proofs.filling.fill_mac.Goals as goal

pub returns : goal.returns
returns c = filled AreLoadedMacs Mac (macs_of_file c.args.file.now) c.load_mac-loaded.result _ _ _ c.load_mac-loaded.ensures c.fill.ensures
