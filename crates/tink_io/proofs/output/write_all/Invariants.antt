use Rattle.std.proofs.Common.{length, ◌-◌, ◌≤◌, take}
use Rattle.std.specs.Io.KnownBytes.{Appends}
use Rattle.tink_io.proofs.output.write_all.Given as goal

-- the bytes so far were written
abbrev pub invariant-loop-done : goal.invariant-loop-done
invariant-loop-done g l =
    let sink = g.K.Sink in
    record {
      within : l.done ≤ length l.bytes;
      written : Appends (sink.got l.fn.sink) (sink.got l.sink) (take l.done l.bytes);
      later : sink.faults l.fn.sink ≤ sink.faults l.sink;
      same : sink.same l.fn.sink l.sink;
    }

abbrev pub decreases-loop-done : goal.decreases-loop-done
decreases-loop-done g l = length l.bytes - l.done
