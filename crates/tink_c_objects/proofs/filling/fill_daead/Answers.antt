use Rattle.tink_c_primitives.specs.Primitives.{IsDaead, daeads_of}
use Rattle.tink_c_objects.specs.declared.object.Object.TheVariants.{Daead}
use Rattle.tink_c_objects.proofs.Filled.{filled}
use Rattle.tink_c_objects.proofs.filling.fill_daead.Goals as goal

pub returns : goal.returns
returns c = filled IsDaead Daead (daeads_of c.args.file.now) c.load_daead-loaded.result _ _ _ c.load_daead-loaded.ensures c.fill.ensures
