use Rattle.tink_c_objects.proofs.WriterSteps.{filled}
use Rattle.tink_c_objects.proofs.writing.fill_writer.Goals as goal

pub returns : goal.returns
returns c = filled c.args.file.now c.args.associated_data.now c.args.random.now c.load_writer-loaded.result _ _ _ c.load_writer-loaded.ensures c.fill.ensures
