-- What was given so far, by the chunk that comes next.
use Rattle.std.proofs.Common.{◌≡◌, ◌≤◌, ◌<◌, ◌+◌, ◌*◌, ◌-◌}
use Rattle.tink_range.specs.Objects.{KeepsObject}
use Rattle.tink_range.specs.RangeCores.{IsSameCore, cutting_of}
use Rattle.tink_range.specs.Shapes.{IsChunkPlace}
use Rattle.tink_range.proofs.GivingTold.{Giving, HasOpened, Ticks}
use Rattle.tink_range.proofs.giving.give_from.Given as goal

abbrev pub invariant-loop-place : goal.invariant-loop-place
invariant-loop-place g l =
    let object = g.A.ReadAt in
    let sink = g.K.Sink in
    let o = l.fn.core.opener in
    record {
      giving : Giving (cutting_of l.fn.core) l.lo l.hi (object.bytes l.fn.object) (sink.got l.fn.sink) (sink.got l.sink) l.given l.place.number l.place.start l.place.text;
      going : l.place.text < l.hi → IsChunkPlace o.first o.size o.overhead l.fn.core.behind l.lo l.place.number l.place.start l.place.text;
      low : l.place.text ≤ l.place.start;
      start_in : l.place.start ≤ l.fn.core.behind;
      few : l.given ≤ l.place.text;
      ticks : Ticks l.lo l.hi (o.size - o.overhead) l.fn.from.number l.place.number l.place.text l.fn.steps l.steps;
      opened : HasOpened (o.first - o.overhead) (o.size - o.overhead) l.hi l.fn.from.number l.place.number l.place.text;
      core : IsSameCore l.fn.core l.core;
      kept : KeepsObject object.length_of object.bytes object.faults l.fn.object l.object;
      count : object.faults l.object ≡ object.faults l.fn.object;
      taken : object.taken l.object ≤ object.taken l.fn.object + (l.place.number - l.fn.from.number) * o.size;
      later : sink.faults l.fn.sink ≤ sink.faults l.sink;
      object_same : object.same l.fn.object l.object;
      sink_same : sink.same l.fn.sink l.sink;
    }

abbrev pub decreases-loop-place : goal.decreases-loop-place
decreases-loop-place g l = l.fn.core.behind - l.place.start
