use Rattle.tink_c_streams.proofs.StreamSteps.{ranged}
use Rattle.tink_c_streams.proofs.streams.range_made.Goals as goal

pub returns : goal.returns
returns g c =
    ranged c.args.wire.now c.args.associated_data.now c.args.input.now c.args.start c.args.len _ _ _ _ c.run_range-answer.result c.take_bytes.result
    c.new-object.ensures c.run_range-answer.ensures.object c.new-sink.ensures.bytes
    c.run_range-answer.ensures.answer c.run_range-answer.ensures.slice c.take_bytes.ensures
