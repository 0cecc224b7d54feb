use Rattle.std.proofs.Common.{◌∙◌}
use Rattle.tink_rewrap.specs.RewrapPromises.{IsWholeRewrap}
use Rattle.tink_rewrap.specs.Rewrapping.{RewrapMeans, sides}
use Rattle.tink_c_streams.proofs.StreamSteps.{given}
use Rattle.tink_c_streams.proofs.streams.rewrap_in_wire.Goals as goal

pub returns : goal.returns
returns c =
    given (λ random left T G end report. IsWholeRewrap (sides c.args.wire.now c.args.associated_data.now c.args.into.now c.args.to_associated_data.now) random left T G end report)
    (λ random left old end answer. RewrapMeans (sides c.args.wire.now c.args.associated_data.now c.args.into.now c.args.to_associated_data.now) random left old end answer)
    c.args.random.now c.args.input.now _ _ _ _ c.new-sink.result c.rewrap-answer.new.sink c.rewrap-answer.result c.take_bytes.result
    c.in_ok-draws.ensures.ok (c.new-source.ensures ∙ c.in_ok-bytes.ensures.ok) c.new-sink.ensures.bytes c.new-sink.ensures.faults
    c.rewrap-answer.ensures.answer c.rewrap-answer.ensures.rewrapped c.take_bytes.ensures
