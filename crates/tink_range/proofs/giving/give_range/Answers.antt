use Rattle.std.proofs.Common.{refl}
use Rattle.tink_range.specs.RangeCores.{cutting_of}
use Rattle.tink_range.proofs.GivingEnds.{nothing_to_give}
use Rattle.tink_range.proofs.GivingTold.{none_touched_by}
use Rattle.tink_range.proofs.TakenFacts.{none_taken}
use Rattle.tink_range.proofs.giving.give_range.Goals as goal

pub returns-then-hi-lo-clause-answer : goal.returns-then-hi-lo-clause-answer
returns-then-hi-lo-clause-answer g c =
    nothing_to_give g.K.Sink.got g.K.Sink.faults (cutting_of c.args.core.now) c.args.lo c.args.hi (g.A.ReadAt.bytes c.args.object.now) (g.A.ReadAt.faults c.args.object.now) (g.A.ReadAt.faults c.args.object.now) c.args.sink.now c.if-hi-lo.true

pub returns-then-hi-lo-clause-object : goal.returns-then-hi-lo-clause-object
returns-then-hi-lo-clause-object g c = g.met.A.ReadAt.same_refl c.args.object.now

pub returns-then-hi-lo-clause-sink : goal.returns-then-hi-lo-clause-sink
returns-then-hi-lo-clause-sink g c = g.met.K.Sink.same_refl c.args.sink.now

pub returns-clause-answer : goal.returns-clause-answer
returns-clause-answer g c = c.give_from.ensures.answer

pub returns-clause-ticks : goal.returns-clause-ticks
returns-clause-ticks g c = c.give_from.ensures.ticks

pub returns-then-hi-lo-clause-touched : goal.returns-then-hi-lo-clause-touched
returns-then-hi-lo-clause-touched g c = none_touched_by (cutting_of c.args.core.now) c.args.lo c.args.hi c.args.steps.now c.if-hi-lo.true

pub returns-clause-touched : goal.returns-clause-touched
returns-clause-touched g c = c.give_from.ensures.touched

pub returns-clause-core : goal.returns-clause-core
returns-clause-core g c = c.give_from.ensures.core

pub returns-clause-kept : goal.returns-clause-kept
returns-clause-kept g c = c.give_from.ensures.kept

pub returns-clause-later : goal.returns-clause-later
returns-clause-later g c = c.give_from.ensures.later

pub returns-clause-object : goal.returns-clause-object
returns-clause-object g c = c.give_from.ensures.object

pub returns-clause-sink : goal.returns-clause-sink
returns-clause-sink g c = c.give_from.ensures.sink

pub give_from-requires-clause-object : goal.give_from-requires-clause-object
give_from-requires-clause-object g c = c.requires.object

pub give_from-requires-clause-chunks : goal.give_from-requires-clause-chunks
give_from-requires-clause-chunks g c = c.requires.chunks

pub returns-then-hi-lo-clause-core : goal.returns-then-hi-lo-clause-core
returns-then-hi-lo-clause-core g c = record { opener = refl; front = refl; behind = refl; memory = refl }

pub returns-clause-taken : goal.returns-clause-taken
returns-clause-taken g c = c.give_from.ensures.taken

pub returns-then-hi-lo-clause-taken : goal.returns-then-hi-lo-clause-taken
returns-then-hi-lo-clause-taken g c = none_taken _ _
