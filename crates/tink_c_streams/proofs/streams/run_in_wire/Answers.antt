use Rattle.std.proofs.Common.{◌∙◌}
use Rattle.tink_run.specs.Run.{AnswerMeans, OkMeans}
use Rattle.tink_c_streams.proofs.StreamSteps.{given}
use Rattle.tink_c_streams.proofs.streams.run_in_wire.Goals as goal

pub returns : goal.returns
returns c =
    given (λ random left T G end report. OkMeans c.args.command c.args.wire.now c.args.associated_data.now random left T G end report)
    (λ random left old end answer. AnswerMeans c.args.command c.args.wire.now c.args.associated_data.now random left old end answer)
    c.args.random.now c.args.input.now _ _ _ _ c.new-sink.result c.run-answer.new.sink c.run-answer.result c.take_bytes.result
    c.in_ok-draws.ensures.ok (c.new-source.ensures ∙ c.in_ok-bytes.ensures.ok) c.new-sink.ensures.bytes c.new-sink.ensures.faults
    c.run-answer.ensures.answer c.run-answer.ensures.ok c.take_bytes.ensures
