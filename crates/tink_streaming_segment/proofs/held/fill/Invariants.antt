use Rattle.std.proofs.Common.{◌-◌, ◌≤◌, take, max}
use Rattle.std.specs.Io.KnownBytes.{Keeps, prepend_known}
use Rattle.tink_io.specs.Taken.{LosesAtMost}
use Rattle.tink_streaming_segment.proofs.held.fill.Given as goal

-- what is held and what is left stay together
abbrev pub invariant-loop-filled : goal.invariant-loop-filled
invariant-loop-filled g l =
    let source = g.S.Source in
    record {
      more : l.fn.filled ≤ l.filled;
      within : l.filled ≤ max l.fn.filled l.want;
      rest : Keeps (prepend_known (take l.fn.filled l.fn.buffer) (source.left l.fn.source)) (prepend_known (take l.filled l.buffer) (source.left l.source));
      read : LosesAtMost (l.filled - l.fn.filled) (source.left l.fn.source) (source.left l.source);
      later : source.faults l.fn.source ≤ source.faults l.source;
      same : source.same l.fn.source l.source;
    }

abbrev pub decreases-loop-filled : goal.decreases-loop-filled
decreases-loop-filled g l = l.want - l.filled
