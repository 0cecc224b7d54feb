use Rattle.tink_streaming_io.proofs.FreshFacts.{fresh_reader}
use Rattle.tink_streaming_io.proofs.reader.Reader.new.Goals as goal

pub returns-clause-fresh : goal.returns-clause-fresh
returns-clause-fresh g c =
    let m = c.from_parts.ensures in
    fresh_reader c.from_parts.result _ c.args.params.r _ _ _ m.progress m.segments m.held m.room m.opened m.memory m.opener c.overhead-overhead.ensures
