use Rattle.tink_c_streams.proofs.RangeSteps.{ranged_in_file}
use Rattle.tink_c_streams.proofs.range_readers.RangeReader.read.Goals as goal

pub returns : goal.returns
returns c = λ file aad is. ranged_in_file file aad c.args.input.now c.args.start c.args.len c.args.self.now c.range_by.result is c.range_by.ensures
