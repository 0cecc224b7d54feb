use Rattle.tink_c_primitives.specs.Primitives.{IsAead, aeads_of}
use Rattle.tink_c_objects.specs.declared.object.Object.TheVariants.{Aead}
use Rattle.tink_c_objects.proofs.Filled.{filled}
use Rattle.tink_c_objects.proofs.filling.fill_aead.Goals as goal

pub returns : goal.returns
returns c = filled IsAead Aead (aeads_of c.args.file.now) c.load_aead-loaded.result _ _ _ c.load_aead-loaded.ensures c.fill.ensures
