use Rattle.tink_c_objects.proofs.WriterSteps.{gives_last}
use Rattle.tink_c_objects.proofs.writing.writer_end.Goals as goal

pub returns-clause-answer : goal.returns-clause-answer
returns-clause-answer c = c.end_in.ensures.answer

pub returns-clause-stream : goal.returns-clause-stream
returns-clause-stream c = λ k aad random text bytes is. gives_last k aad random text bytes _ _ _ c.end_in.ensures.answer is

pub returns-clause-unchanged : goal.returns-clause-unchanged
returns-clause-unchanged c = c.end_in.ensures.unchanged
