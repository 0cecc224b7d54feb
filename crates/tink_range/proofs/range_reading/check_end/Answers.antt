use Rattle.std.proofs.Common.{◌≡◌, ◌≤◌, ◌^◌, ℕ, replicate, refl, le_refl, arith}
use Rattle.std.proofs.lemmas.List.{length-replicate}
use Rattle.tink_io.specs.declared.error.Kind.TheVariants.{TooManySegments}
use Rattle.tink_range.specs.RangeCores.{cutting_of}
use Rattle.tink_range.specs.Ranges.{chunk_count}
use Rattle.tink_range.proofs.ObjectSteps.{err_leaves, ok_keeps, ok_leaves, refusal_leaves, unread}
use Rattle.tink_range.proofs.RangeSteps.{end_refused, end_refusal, few_of, many_of}
use Rattle.tink_range.proofs.TakenFacts.{none_taken}
use Rattle.tink_range.proofs.range_reading.check_end.Goals as goal

-- the last chunk is the segment of a text

pub returns-in-Ok-clause-answer : goal.returns-in-Ok-clause-answer
returns-in-Ok-clause-answer g c =
    let core = c.args.core.now in
    let any = c.shape-shape.ensures.shape (replicate core.behind 0) (length-replicate {A = ℕ} core.behind 0) in
    (few_of _ _ _ any.chunks c.if-number-from.false c.from.ensures, c.in-Ok.ensures.answer)

pub returns-in-Ok-clause-shape : goal.returns-in-Ok-clause-shape
returns-in-Ok-clause-shape g c = c.shape-shape.ensures.shape

pub returns-in-Ok-clause-ticks : goal.returns-in-Ok-clause-ticks
returns-in-Ok-clause-ticks g c = c.in-Ok.ensures.ticks

pub returns-in-Ok-clause-core : goal.returns-in-Ok-clause-core
returns-in-Ok-clause-core g c = c.in-Ok.ensures.core

pub returns-in-Ok-clause-kept : goal.returns-in-Ok-clause-kept
returns-in-Ok-clause-kept g c =
    let kept = c.in-Ok.ensures.kept in
    ok_leaves g.A.ReadAt.length_of g.A.ReadAt.bytes g.A.ReadAt.faults c.args.object.now c.check_last.new.object c.shape-shape.result
    (ok_keeps g.A.ReadAt.length_of g.A.ReadAt.bytes g.A.ReadAt.faults c.args.object.now c.check_last.new.object _ kept) kept.count

pub returns-in-Ok-clause-same : goal.returns-in-Ok-clause-same
returns-in-Ok-clause-same g c = c.in-Ok.ensures.same

-- it is refused

pub returns-in-Err-clause-answer : goal.returns-in-Err-clause-answer
returns-in-Err-clause-answer g c =
    let core = c.args.core.now in
    let any = c.shape-shape.ensures.shape (replicate core.behind 0) (length-replicate {A = ℕ} core.behind 0) in
    end_refused (cutting_of core) core.behind (g.A.ReadAt.bytes c.args.object.now) (g.A.ReadAt.faults c.args.object.now) (g.A.ReadAt.faults c.check_last.new.object) c.in-Err.e.kind
    (few_of _ _ _ any.chunks c.if-number-from.false c.from.ensures) c.in-Err.ensures.answer

pub returns-in-Err-clause-shape : goal.returns-in-Err-clause-shape
returns-in-Err-clause-shape g c = tt

pub returns-in-Err-clause-ticks : goal.returns-in-Err-clause-ticks
returns-in-Err-clause-ticks g c = c.in-Err.ensures.ticks

pub returns-in-Err-clause-core : goal.returns-in-Err-clause-core
returns-in-Err-clause-core g c = c.in-Err.ensures.core

pub returns-in-Err-clause-kept : goal.returns-in-Err-clause-kept
returns-in-Err-clause-kept g c = err_leaves g.A.ReadAt.length_of g.A.ReadAt.bytes g.A.ReadAt.faults c.args.object.now c.check_last.new.object c.in-Err.e c.in-Err.ensures.kept

pub returns-in-Err-clause-same : goal.returns-in-Err-clause-same
returns-in-Err-clause-same g c = c.in-Err.ensures.same

-- there are more chunks than numbers

pub returns-then-number-from-clause-answer : goal.returns-then-number-from-clause-answer
returns-then-number-from-clause-answer g c =
    let core = c.args.core.now in
    let any = c.shape-shape.ensures.shape (replicate core.behind 0) (length-replicate {A = ℕ} core.behind 0) in
    end_refusal (cutting_of core) core.behind (g.A.ReadAt.bytes c.args.object.now) (g.A.ReadAt.faults c.args.object.now) (g.A.ReadAt.faults c.args.object.now) c.new.result TooManySegments c.new.ensures
    (many_of _ _ _ any.chunks c.if-number-from.true c.from.ensures)

pub returns-then-number-from-clause-shape : goal.returns-then-number-from-clause-shape
returns-then-number-from-clause-shape g c = tt

pub returns-then-number-from-clause-ticks : goal.returns-then-number-from-clause-ticks
returns-then-number-from-clause-ticks g c = omega arith

pub returns-then-number-from-clause-core : goal.returns-then-number-from-clause-core
returns-then-number-from-clause-core g c = record { opener = refl; front = refl; behind = refl; memory = refl }

pub returns-then-number-from-clause-kept : goal.returns-then-number-from-clause-kept
returns-then-number-from-clause-kept g c =
    refusal_leaves g.A.ReadAt.length_of g.A.ReadAt.bytes g.A.ReadAt.faults c.args.object.now c.args.object.now c.new.result TooManySegments c.new.ensures
    (unread g.A.ReadAt.length_of g.A.ReadAt.bytes g.A.ReadAt.faults c.args.object.now) refl

pub returns-then-number-from-clause-same : goal.returns-then-number-from-clause-same
returns-then-number-from-clause-same g c = g.met.A.ReadAt.same_refl c.args.object.now

pub check_last-requires-clause-object : goal.check_last-requires-clause-object
check_last-requires-clause-object g c = c.requires.object

pub returns-in-Ok-clause-taken : goal.returns-in-Ok-clause-taken
returns-in-Ok-clause-taken g c = c.in-Ok.ensures.taken

pub returns-in-Err-clause-taken : goal.returns-in-Err-clause-taken
returns-in-Err-clause-taken g c = c.in-Err.ensures.taken

pub returns-then-number-from-clause-taken : goal.returns-then-number-from-clause-taken
returns-then-number-from-clause-taken g c = none_taken _ _
