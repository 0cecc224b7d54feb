use Rattle.tink_c_streams.specs.Streams.{GivesRange, RefusesRange}
use Rattle.tink_c_bytes.proofs.Handing.{hands}
use Rattle.tink_c.proofs.streams.tink_read_range.Goals as goal

pub returns : goal.returns
returns c =
    hands (GivesRange c.args.keyset.now c.args.associated_data.now c.args.stream.now c.args.start c.args.length) (RefusesRange c.args.keyset.now c.args.associated_data.now c.args.stream.now c.args.start c.args.length)
    c.range.result _ c.range.ensures c.deliver.ensures.puts
