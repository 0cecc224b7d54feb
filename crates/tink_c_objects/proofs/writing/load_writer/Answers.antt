use Rattle.std.proofs.lemmas.Result.{err_from_is_err_and}
use Rattle.tink_c_objects.specs.declared.object.Object.TheVariants.{Writer}
use Rattle.tink_c_objects.proofs.WriterSteps.{boxed_writer}
use Rattle.tink_c_objects.proofs.writing.load_writer.Goals as goal

pub returns-in_err-writer : goal.returns-in_err-writer
returns-in_err-writer c =
    let p = err_from_is_err_and c.from_residual.result c.from_residual.ensures.1 in
    rw (p.1, p.2) c.in_err-writer.ensures

pub returns : goal.returns
returns c =
    boxed_writer c.args.file.now c.args.associated_data.now c.args.random.now (Writer c.in_ok-writer.writer) c.box_object.result c.in_ok-writer.ensures c.box_object.ensures.ok c.box_object.ensures.err
