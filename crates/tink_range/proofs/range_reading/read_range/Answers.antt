use Rattle.std.proofs.Common.{◌≡◌, ◌≤◌, ℕ, replicate, arith, le_of_eq, le_trans}
use Rattle.std.proofs.lemmas.List.{length-replicate}
use Rattle.tink_range.specs.RangeCores.{cutting_of}
use Rattle.tink_range.specs.RangeReading.{range_end, range_start}
use Rattle.tink_range.proofs.RangeSteps.{end_inside, few_same, range_given, range_not_begun, range_taken, range_ticks, range_touched, same_cutting, within_same}
use Rattle.tink_range.proofs.ObjectSteps.{core_trans, err_leaves, leaves_trans, ok_keeps, whole_of}
use Rattle.tink_range.proofs.TakenFacts.{taken_once}
use Rattle.tink_range.proofs.range_reading.read_range.Goals as goal

pub returns-in-Ok-clause-answer : goal.returns-in-Ok-clause-answer
returns-in-Ok-clause-answer g c =
    let core = c.args.core.now in
    let any = c.in-Ok.ensures.shape (replicate core.behind 0) (length-replicate {A = ℕ} core.behind 0) in
    let ends = c.in-Ok.ensures.answer in
    let lo : c.min-lo.result ≡ range_start (cutting_of core) core.behind c.args.start = omega (arith, any.places, c.min-lo.ensures) in
    let hi : c.min-hi.result ≡ range_end (cutting_of core) core.behind c.args.start c.args.len = omega (arith, any.places, c.min-hi.ensures, c.saturating_add.ensures) in
    range_given g.K.Sink.got g.K.Sink.faults (cutting_of core) core.behind c.args.start c.args.len ends.0
    (record { all = g.A.ReadAt.bytes c.args.object.now; reads_before = g.A.ReadAt.faults c.args.object.now; reads_after = g.A.ReadAt.faults c.give_range.new.object; old = c.args.sink.now; new = c.give_range.new.sink })
    (cutting_of c.check_end.new.core) (g.A.ReadAt.bytes c.check_end.new.object) (g.A.ReadAt.faults c.check_end.new.object) _ _ c.give_range.result
    (same_cutting core c.check_end.new.core c.in-Ok.ensures.core) c.in-Ok.ensures.kept.bytes_are lo hi c.in-Ok.ensures.kept.later ends.1 c.give_range.ensures.answer

pub returns-in-Err-clause-answer : goal.returns-in-Err-clause-answer
returns-in-Err-clause-answer g c =
    let core = c.args.core.now in
    range_not_begun g.K.Sink.got g.K.Sink.faults (cutting_of core) core.behind c.args.start c.args.len (g.A.ReadAt.bytes c.args.object.now) (g.A.ReadAt.faults c.args.object.now) (g.A.ReadAt.faults c.check_end.new.object)
    c.args.sink.now c.in-Err.e.kind c.in-Err.ensures.answer

pub returns-in-Ok-clause-core : goal.returns-in-Ok-clause-core
returns-in-Ok-clause-core g c = core_trans c.args.core.now c.check_end.new.core c.give_range.new.core c.in-Ok.ensures.core c.give_range.ensures.core

pub returns-in-Ok-clause-ticks : goal.returns-in-Ok-clause-ticks
returns-in-Ok-clause-ticks g c =
    let core = c.args.core.now in
    let any = c.in-Ok.ensures.shape (replicate core.behind 0) (length-replicate {A = ℕ} core.behind 0) in
    let lo : c.min-lo.result ≡ range_start (cutting_of core) core.behind c.args.start = omega (arith, any.places, c.min-lo.ensures) in
    let hi : c.min-hi.result ≡ range_end (cutting_of core) core.behind c.args.start c.args.len = omega (arith, any.places, c.min-hi.ensures, c.saturating_add.ensures) in
    range_ticks core c.check_end.new.core c.in-Ok.ensures.core c.args.start c.args.len c.min-lo.result c.min-hi.result c.args.steps.now c.check_end.new.steps c.give_range.new.steps lo hi (le_of_eq c.in-Ok.ensures.ticks) c.give_range.ensures.ticks

pub returns-in-Ok-clause-touched : goal.returns-in-Ok-clause-touched
returns-in-Ok-clause-touched g c =
    let core = c.args.core.now in
    let any = c.in-Ok.ensures.shape (replicate core.behind 0) (length-replicate {A = ℕ} core.behind 0) in
    let lo : c.min-lo.result ≡ range_start (cutting_of core) core.behind c.args.start = omega (arith, any.places, c.min-lo.ensures) in
    let hi : c.min-hi.result ≡ range_end (cutting_of core) core.behind c.args.start c.args.len = omega (arith, any.places, c.min-hi.ensures, c.saturating_add.ensures) in
    range_touched core c.check_end.new.core c.in-Ok.ensures.core c.args.start c.args.len c.min-lo.result c.min-hi.result c.args.steps.now c.check_end.new.steps c.give_range.new.steps c.give_range.result lo hi c.in-Ok.ensures.ticks c.give_range.ensures.touched

pub returns-in-Err-clause-touched : goal.returns-in-Err-clause-touched
returns-in-Err-clause-touched g c = tt

pub returns-in-Ok-clause-kept : goal.returns-in-Ok-clause-kept
returns-in-Ok-clause-kept g c =
    let kept = c.in-Ok.ensures.kept in
    leaves_trans g.A.ReadAt.length_of g.A.ReadAt.bytes g.A.ReadAt.faults c.args.object.now c.check_end.new.object c.give_range.new.object c.give_range.result
    (ok_keeps g.A.ReadAt.length_of g.A.ReadAt.bytes g.A.ReadAt.faults c.args.object.now c.check_end.new.object _ kept) kept.count c.give_range.ensures.kept

pub returns-in-Ok-clause-later : goal.returns-in-Ok-clause-later
returns-in-Ok-clause-later g c = c.give_range.ensures.later

pub returns-in-Ok-clause-object : goal.returns-in-Ok-clause-object
returns-in-Ok-clause-object g c = g.met.A.ReadAt.same_trans _ _ _ c.in-Ok.ensures.same c.give_range.ensures.object

pub returns-in-Ok-clause-sink : goal.returns-in-Ok-clause-sink
returns-in-Ok-clause-sink g c = c.give_range.ensures.sink

pub give_range-requires-clause-object : goal.give_range-requires-clause-object
give_range-requires-clause-object g c =
    let same = c.in-Ok.ensures.core in
    whole_of c.args.core.now.front c.args.core.now.behind _ c.check_end.new.core.front c.check_end.new.core.behind _ c.requires.object same.front same.behind c.in-Ok.ensures.kept.length_is

pub give_range-requires-clause-chunks : goal.give_range-requires-clause-chunks
give_range-requires-clause-chunks g c = few_same c.args.core.now c.check_end.new.core c.in-Ok.ensures.core c.in-Ok.ensures.answer.0

pub give_range-requires-clause-within : goal.give_range-requires-clause-within
give_range-requires-clause-within g c =
    let core = c.args.core.now in
    let any = c.in-Ok.ensures.shape (replicate core.behind 0) (length-replicate {A = ℕ} core.behind 0) in
    within_same core c.check_end.new.core c.in-Ok.ensures.core c.min-hi.result (end_inside _ _ _ _ c.min-hi.ensures any.places)

-- the end is refused

pub returns-in-Err-clause-ticks : goal.returns-in-Err-clause-ticks
returns-in-Err-clause-ticks g c = le_trans c.in-Err.ensures.ticks (omega arith)

pub returns-in-Err-clause-kept : goal.returns-in-Err-clause-kept
returns-in-Err-clause-kept g c = err_leaves g.A.ReadAt.length_of g.A.ReadAt.bytes g.A.ReadAt.faults c.args.object.now c.check_end.new.object c.in-Err.e c.in-Err.ensures.kept

pub returns-in-Err-clause-sink : goal.returns-in-Err-clause-sink
returns-in-Err-clause-sink g c = g.met.K.Sink.same_refl c.args.sink.now

pub returns-in-Err-clause-object : goal.returns-in-Err-clause-object
returns-in-Err-clause-object g c = c.in-Err.ensures.same

pub returns-in-Err-clause-core : goal.returns-in-Err-clause-core
returns-in-Err-clause-core g c = c.in-Err.ensures.core

pub returns-in-Ok-clause-taken : goal.returns-in-Ok-clause-taken
returns-in-Ok-clause-taken g c =
    let core = c.args.core.now in
    let any = c.in-Ok.ensures.shape (replicate core.behind 0) (length-replicate {A = ℕ} core.behind 0) in
    let lo : c.min-lo.result ≡ range_start (cutting_of core) core.behind c.args.start = omega (arith, any.places, c.min-lo.ensures) in
    let hi : c.min-hi.result ≡ range_end (cutting_of core) core.behind c.args.start c.args.len = omega (arith, any.places, c.min-hi.ensures, c.saturating_add.ensures) in
    range_taken core c.check_end.new.core c.in-Ok.ensures.core c.args.start c.args.len c.min-lo.result c.min-hi.result _ _ _ lo hi c.in-Ok.ensures.taken c.give_range.ensures.taken

pub returns-in-Err-clause-taken : goal.returns-in-Err-clause-taken
returns-in-Err-clause-taken g c = taken_once _ _ _ _ c.in-Err.ensures.taken
