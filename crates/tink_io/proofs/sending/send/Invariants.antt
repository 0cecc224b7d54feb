-- The bytes so far were taken.
use Rattle.std.proofs.Common.{length, ◌-◌, ◌≤◌, take}
use Rattle.std.specs.Io.KnownBytes.{Appends}
use Rattle.tink_io.proofs.sending.send.Given as goal

abbrev pub invariant-loop-sent : goal.invariant-loop-sent
invariant-loop-sent g l =
    let sink = g.K.Sink in
    record {
      within : l.sent ≤ length l.bytes;
      written : Appends (sink.got l.fn.sink) (sink.got l.sink) (take l.sent l.bytes);
      later : sink.faults l.fn.sink ≤ sink.faults l.sink;
      same : sink.same l.fn.sink l.sink;
    }

abbrev pub decreases-loop-sent : goal.decreases-loop-sent
decreases-loop-sent g l = length l.bytes - l.sent
