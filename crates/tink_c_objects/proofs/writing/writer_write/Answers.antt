use Rattle.tink_c_objects.proofs.WriterSteps.{takes}
use Rattle.tink_c_objects.proofs.writing.writer_write.Goals as goal

pub returns-clause-answer : goal.returns-clause-answer
returns-clause-answer c = c.write_in.ensures.answer

pub returns-clause-stream : goal.returns-clause-stream
returns-clause-stream c = λ k aad random text bytes is. takes k aad random text bytes c.args.piece.now _ _ _ c.write_in.ensures.answer is

pub returns-clause-unchanged : goal.returns-clause-unchanged
returns-clause-unchanged c = c.write_in.ensures.unchanged
