use Rattle.std.proofs.Common.{refl}
use Rattle.tink_cli_jobs.proofs.LoadingLemmas.{loaded_by}
use Rattle.tink_cli_jobs.specs.Loading.{named}
use Rattle.tink_cli_ranges.proofs.LeavingLemmas.{range_leaves, unmoved}
use Rattle.tink_cli_ranges.proofs.RefusingLemmas.{range_cause, unready}
use Rattle.tink_cli_ranges.proofs.RangingLemmas.{ranged_by_words}
use Rattle.tink_cli_ranges.proofs.ranges.range.Goals as goal

pub returns-in-Ok-clause-done : goal.returns-in-Ok-clause-done
returns-in-Ok-clause-done g c =
    let some = c.in-Some-Some-Some in
    let old = g.Y.System.state c.args.system.now in
    ranged_by_words c.args.line.now some.job some.start some.length c.as_slice.result.now old (g.Y.System.state c.keyset_for.new.system)
    (g.Y.System.state c.range_under.new.system) _ _ c.range_under.result some.ensures some.ensures' some.ensures'' c.in-Ok.ensures.state
    (loaded_by old old some.job.keys c.in-Ok.keyset c.as_slice.result.now refl c.as_slice.ensures c.in-Ok.ensures.loaded)
    c.in-Ok.ensures.spared c.in-Ok.ensures.once c.range_under.ensures.done

pub returns-in-Ok-clause-cause : goal.returns-in-Ok-clause-cause
returns-in-Ok-clause-cause g c =
    let some = c.in-Some-Some-Some in
    let old = g.Y.System.state c.args.system.now in
    range_cause c.args.line.now some.job c.as_slice.result.now some.start some.length old (g.Y.System.state c.keyset_for.new.system)
    (g.Y.System.faults c.args.system.now) (g.Y.System.faults c.keyset_for.new.system) (g.Y.System.faults c.range_under.new.system) _ _
    c.range_under.result some.ensures some.ensures' some.ensures'' c.in-Ok.ensures.state c.in-Ok.ensures.later
    (loaded_by old old some.job.keys c.in-Ok.keyset c.as_slice.result.now refl c.as_slice.ensures c.in-Ok.ensures.loaded) c.range_under.ensures.cause

pub returns-in-Err-clause-cause : goal.returns-in-Err-clause-cause
returns-in-Err-clause-cause g c = λ known.
    unready c.args.line.now c.in-Some-Some-Some.job (g.Y.System.state c.args.system.now) (g.Y.System.faults c.args.system.now)
    (g.Y.System.faults c.keyset_for.new.system) _ _ c.in-Err.trouble c.in-Some-Some-Some.ensures c.in-Err.ensures.refused known

pub returns-in-Ok-clause-left : goal.returns-in-Ok-clause-left
returns-in-Ok-clause-left g c =
    let some = c.in-Some-Some-Some in
    let old = g.Y.System.state c.args.system.now in
    range_leaves c.args.line.now some.job c.as_slice.result.now some.start some.length old (g.Y.System.state c.keyset_for.new.system) _ _ c.range_under.result
    some.ensures some.ensures' some.ensures'' c.in-Ok.ensures.state
    (loaded_by old old some.job.keys c.in-Ok.keyset c.as_slice.result.now refl c.as_slice.ensures c.in-Ok.ensures.loaded) c.range_under.ensures.left

pub returns-in-Err-clause-left : goal.returns-in-Err-clause-left
returns-in-Err-clause-left g c = λ known. unmoved (named c.args.line.now.output) (g.K.Sink.got c.args.sink.now) _
