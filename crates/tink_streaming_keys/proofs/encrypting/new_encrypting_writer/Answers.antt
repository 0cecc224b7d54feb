use Rattle.tink_streaming_keys.proofs.NewWriterSteps.{refused_end, drew_end}
use Rattle.tink_streaming_keys.proofs.encrypting.new_encrypting_writer.Goals as goal

pub returns-in-Ok-clause-ends : goal.returns-in-Ok-clause-ends
returns-in-Ok-clause-ends g c = drew_end _ _ _ c.in-Ok.ensures.answer.drew

pub returns-in-Err-clause-ends : goal.returns-in-Err-clause-ends
returns-in-Err-clause-ends g c = refused_end g.K.Sink.got g.K.Sink.faults _ _ _ _ _ _ c.in-Err.error.kind c.in-Err.ensures.answer
