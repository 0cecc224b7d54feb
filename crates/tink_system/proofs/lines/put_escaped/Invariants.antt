use Rattle.std.proofs.Common.{length, ◌-◌, ◌≤◌}
use Rattle.tink_io.specs.Gathering.{OnlyGrows}
use Rattle.tink_system.proofs.lines.put_escaped.Given as goal

abbrev pub invariant-loop-at : goal.invariant-loop-at
invariant-loop-at g l =
    let sink = g.E.Sink in
    record {
      within : l.at ≤ length l.name;
      grows : OnlyGrows (sink.got l.fn.sink) (sink.got l.sink);
      same : sink.same l.fn.sink l.sink;
    }

abbrev pub decreases-loop-at : goal.decreases-loop-at
decreases-loop-at g l = length l.name - l.at
