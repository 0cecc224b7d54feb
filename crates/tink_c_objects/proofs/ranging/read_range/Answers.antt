use Rattle.tink_c_bytes.proofs.Handing.{hands}
use Rattle.tink_c_streams.specs.Streams.{GivesRange, RefusesRange}
use Rattle.tink_c_objects.proofs.ranging.read_range.Goals as goal

pub returns : goal.returns
returns c = λ file aad is.
    hands (GivesRange file aad c.args.input.now c.args.start c.args.len) (RefusesRange file aad c.args.input.now c.args.start c.args.len)
    c.read.result _ (c.read.ensures file aad is) c.deliver.ensures.puts
