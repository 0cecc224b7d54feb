use Rattle.tink_c_streams.proofs.RangeSteps.{SetMeans, ranged_by_set}
use Rattle.tink_c_streams.proofs.range_readers.range_by.Goals as goal

pub returns : goal.returns
returns g c =
    let r = c.args.reader.now in
    let means : SetMeans c.as_slice.result.now r.keys c.args.start c.args.len c.new-object.result c.new-sink.result c.range_of_set-answer.new.sink c.range_of_set-answer.result =
    c.range_of_set-answer.ensures.answer in
    λ wire aad is.
    ranged_by_set wire aad c.args.input.now c.args.start c.args.len r c.as_slice.result.now c.new-object.result _ c.new-sink.result c.range_of_set-answer.new.sink c.range_of_set-answer.result c.take_bytes.result
    is c.as_slice.ensures.value c.new-object.ensures c.range_of_set-answer.ensures.object c.new-sink.ensures.bytes
    c.range_of_set-answer.ensures.order means c.range_of_set-answer.ensures.early c.take_bytes.ensures
