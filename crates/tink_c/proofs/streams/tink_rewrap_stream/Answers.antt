use Rattle.tink_c_streams.specs.Streams.{Moves, MovesNot}
use Rattle.tink_c_bytes.proofs.Handing.{hands}
use Rattle.tink_c.proofs.streams.tink_rewrap_stream.Goals as goal

pub returns : goal.returns
returns c =
    hands (Moves c.args.keyset.now c.args.associated_data.now c.args.to_keyset.now c.args.to_associated_data.now c.args.random.now c.args.stream.now) (MovesNot c.args.keyset.now c.args.associated_data.now c.args.to_keyset.now c.args.to_associated_data.now c.args.random.now c.args.stream.now)
    c.rewrap_file.result _ c.rewrap_file.ensures c.deliver.ensures.puts
