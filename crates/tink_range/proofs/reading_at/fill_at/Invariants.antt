use Rattle.std.proofs.Common.{◌≡◌, ◌≤◌, ◌+◌, ◌-◌, IfSome, length, take, drop}
use Rattle.tink_range.specs.Objects.{KeepsObject}
use Rattle.tink_range.proofs.reading_at.fill_at.Given as goal

-- the bytes so far are those of the object, which has not failed
abbrev pub invariant-loop-done : goal.invariant-loop-done
invariant-loop-done g l =
    let object = g.A.ReadAt in
    record {
      within : l.done ≤ length l.buf;
      given : IfSome (object.bytes l.fn.object) (λ S. take l.done l.buf ≡ take l.done (drop l.at S));
      kept : KeepsObject object.length_of object.bytes object.faults l.fn.object l.object;
      count : object.faults l.object ≡ object.faults l.fn.object;
      taken : object.taken l.object ≤ object.taken l.fn.object + l.done;
      same : object.same l.fn.object l.object;
    }

abbrev pub decreases-loop-done : goal.decreases-loop-done
decreases-loop-done g l = length l.buf - l.done
