use Rattle.std.proofs.Common.{◌≡◌, ◌≤◌, ◌+◌, ℕ, map, arith, ◌∙◌}
use Rattle.stream_model.specs.Opening.{opening_key}
use Rattle.tink_range.specs.RangeCores.{cutting_of}
use Rattle.tink_range.proofs.KeyRangeSteps.{sizes_refused}
use Rattle.tink_range.proofs.ObjectSteps.{err_leaves, keeps_trans, leaves_trans, ok_keeps, ok_leaves}
use Rattle.tink_range.proofs.stream_sizes.sizes_under.Goals as goal

-- the end is refused

pub returns-in-Ok-clause-answer : goal.returns-in-Ok-clause-answer
returns-in-Ok-clause-answer g c =
    let core = c.in-Ok.field-0.core in
    let started = c.in-Ok.ensures in
    sizes_refused (map (λ k. opening_key c.args.aad.now (g.T.DerivesStreams.key_of k)) c.args.keys.now) (g.A.ReadAt.bytes c.args.object.now) (g.A.ReadAt.bytes c.start_placed.new.object) (g.A.ReadAt.length_of c.args.object.now)
    (g.A.ReadAt.faults c.args.object.now) (g.A.ReadAt.faults c.start_placed.new.object) (g.A.ReadAt.faults c.check_end.new.object) (cutting_of core) core.behind c.in-Err-check_end.e.kind
    started.kept.later started.kept.bytes_are started.whole started.found c.in-Err-check_end.ensures.answer

-- a step for each key at most, and one for the end

more : (old mid new n : ℕ) → mid ≤ old + n → new ≤ mid + 1 → new ≤ old + n + 1
more old mid new n a b = omega arith

pub returns-in-Ok-check_end-clause-ticks : goal.returns-in-Ok-check_end-clause-ticks
returns-in-Ok-check_end-clause-ticks g c = more _ c.start_placed.new.steps _ _ c.in-Ok.ensures.ticks.1 (omega (arith, c.in-Ok-check_end.ensures.ticks))

pub returns-in-Ok-clause-ticks : goal.returns-in-Ok-clause-ticks
returns-in-Ok-clause-ticks g c = more _ c.start_placed.new.steps _ _ c.in-Ok.ensures.ticks.1 c.in-Err-check_end.ensures.ticks

-- the object is the one that it was

pub returns-in-Ok-check_end-clause-kept : goal.returns-in-Ok-check_end-clause-kept
returns-in-Ok-check_end-clause-kept g c =
    let a = c.in-Ok.ensures.kept in
    let b = c.in-Ok-check_end.ensures.kept in
    ok_leaves g.A.ReadAt.length_of g.A.ReadAt.bytes g.A.ReadAt.faults c.args.object.now c.check_end.new.object _
    (keeps_trans g.A.ReadAt.length_of g.A.ReadAt.bytes g.A.ReadAt.faults c.args.object.now c.start_placed.new.object c.check_end.new.object
    (ok_keeps g.A.ReadAt.length_of g.A.ReadAt.bytes g.A.ReadAt.faults c.args.object.now c.start_placed.new.object _ a)
    (ok_keeps g.A.ReadAt.length_of g.A.ReadAt.bytes g.A.ReadAt.faults c.start_placed.new.object c.check_end.new.object _ b)) (b.count ∙ a.count)

pub returns-in-Ok-clause-kept : goal.returns-in-Ok-clause-kept
returns-in-Ok-clause-kept g c =
    let a = c.in-Ok.ensures.kept in
    err_leaves g.A.ReadAt.length_of g.A.ReadAt.bytes g.A.ReadAt.faults c.args.object.now c.check_end.new.object c.in-Err-check_end.e
    (leaves_trans g.A.ReadAt.length_of g.A.ReadAt.bytes g.A.ReadAt.faults c.args.object.now c.start_placed.new.object c.check_end.new.object _
    (ok_keeps g.A.ReadAt.length_of g.A.ReadAt.bytes g.A.ReadAt.faults c.args.object.now c.start_placed.new.object _ a) a.count c.in-Err-check_end.ensures.kept)

pub returns-clause-kept : goal.returns-clause-kept
returns-clause-kept g c = err_leaves g.A.ReadAt.length_of g.A.ReadAt.bytes g.A.ReadAt.faults c.args.object.now c.start_placed.new.object c.in-Err.e c.in-Err.ensures.kept

pub returns-in-Ok-check_end-clause-object : goal.returns-in-Ok-check_end-clause-object
returns-in-Ok-check_end-clause-object g c = g.met.A.ReadAt.same_trans _ _ _ c.in-Ok.ensures.same c.in-Ok-check_end.ensures.same

pub returns-in-Ok-clause-object : goal.returns-in-Ok-clause-object
returns-in-Ok-clause-object g c = g.met.A.ReadAt.same_trans _ _ _ c.in-Ok.ensures.same c.in-Err-check_end.ensures.same

pub returns-clause-object : goal.returns-clause-object
returns-clause-object g c = c.in-Err.ensures.same
