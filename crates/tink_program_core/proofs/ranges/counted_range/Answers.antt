use Rattle.tink_rewrap.proofs.SetSteps.{ranges_of_loaded}
use Rattle.tink_program_core.proofs.ranges.counted_range.Goals as goal

pub returns-clause-answer : goal.returns-clause-answer
returns-clause-answer g c =
    ranges_of_loaded g.K.Sink.got g.K.Sink.faults c.args.aad.now c.args.keys.now _ c.args.start c.args.len _ c.range_of_set.result c.range_of_set.ensures.order c.range_of_set.ensures.answer
