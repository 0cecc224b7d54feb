use Rattle.std.proofs.Common.{inr, refl}
use Rattle.tink_io.specs.Outside.{outside_of}
use Rattle.tink_cli.proofs.over_streams.run_texts.Goals as goal

pub returns-in-Ok-clause-ended : goal.returns-in-Ok-clause-ended
returns-in-Ok-clause-ended g c = inr (record {
  old = outside_of g.Y.Input.Source.left g.Y.Input.Source.faults g.K.Sink.got g.K.Sink.faults c.in-Ok.source c.args.sink.now;
  new = outside_of g.Y.Input.Source.left g.Y.Input.Source.faults g.K.Sink.got g.K.Sink.faults c.program.new.source c.program.new.sink;
  left = c.in-Ok.ensures.left;
  before = refl;
  after = refl;
  means = c.program.ensures.status;
  promised = c.program.ensures.promised;
})
