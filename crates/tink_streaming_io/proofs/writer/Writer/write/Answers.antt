use Rattle.tink_streaming_io.proofs.writer.Writer.write.Goals as goal

pub returns-clause-answer : goal.returns-clause-answer
returns-clause-answer g c = rw (← c.self.view_is) c.write.ensures.answer

pub returns-clause-still : goal.returns-clause-still
returns-clause-still g c = rw (← c.self.view_is) c.write.ensures.still
