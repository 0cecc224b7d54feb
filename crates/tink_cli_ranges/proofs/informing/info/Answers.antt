use Rattle.std.proofs.Common.{inl, inr, refl}
use Rattle.tink_cli_jobs.proofs.LoadingLemmas.{loaded_by}
use Rattle.tink_cli_ranges.proofs.InformingLemmas.{info_cause, informed, left_by}
use Rattle.tink_cli_ranges.proofs.RefusingLemmas.{twice, unkeyed}
use Rattle.tink_cli_ranges.proofs.informing.info.Goals as goal

pub returns-in-Ok-clause-done : goal.returns-in-Ok-clause-done
returns-in-Ok-clause-done g c =
    let s = g.Y.System.state c.args.system.now in
    informed c.args.line.now c.in-Some.job c.as_slice.result.now s (g.Y.System.state c.keyset_of.new.system) _ _ c.info_under.result c.in-Some.ensures c.in-Ok.ensures.state
    (loaded_by s s c.in-Some.job.keys c.in-Ok.keyset c.as_slice.result.now refl c.as_slice.ensures c.in-Ok.ensures.loaded) c.in_default-spare_input.ensures.once c.info_under.ensures.done

pub returns-in-Ok-clause-left : goal.returns-in-Ok-clause-left
returns-in-Ok-clause-left g c =
    let s = g.Y.System.state c.args.system.now in
    left_by c.args.line.now c.in-Some.job c.as_slice.result.now s (g.Y.System.state c.keyset_of.new.system) _ _ c.info_under.result c.in-Some.ensures c.in-Ok.ensures.state
    (loaded_by s s c.in-Some.job.keys c.in-Ok.keyset c.as_slice.result.now refl c.as_slice.ensures c.in-Ok.ensures.loaded) c.info_under.ensures.left

pub returns-in-Ok-clause-cause : goal.returns-in-Ok-clause-cause
returns-in-Ok-clause-cause g c =
    let s = g.Y.System.state c.args.system.now in
    info_cause c.args.line.now c.in-Some.job c.as_slice.result.now s (g.Y.System.state c.keyset_of.new.system)
    (g.Y.System.faults c.args.system.now) (g.Y.System.faults c.keyset_of.new.system) (g.Y.System.faults c.info_under.new.system) _ _ c.info_under.result
    c.in-Some.ensures c.in-Ok.ensures.state c.in-Ok.ensures.later
    (loaded_by s s c.in-Some.job.keys c.in-Ok.keyset c.as_slice.result.now refl c.as_slice.ensures c.in-Ok.ensures.loaded) c.info_under.ensures.cause

pub returns-in-Err-keyset_of-clause-left : goal.returns-in-Err-keyset_of-clause-left
returns-in-Err-keyset_of-clause-left g c = λ known. inl refl

pub returns-in-Err-keyset_of-clause-cause : goal.returns-in-Err-keyset_of-clause-cause
returns-in-Err-keyset_of-clause-cause g c =
    unkeyed _ _ _ c.args.line.now c.in-Some.job (g.Y.System.state c.args.system.now) (g.Y.System.faults c.args.system.now) (g.Y.System.faults c.keyset_of.new.system)
    c.in-Err-keyset_of.trouble c.in-Some.ensures c.in-Err-keyset_of.ensures.refused

pub returns-in-Err-clause-left : goal.returns-in-Err-clause-left
returns-in-Err-clause-left g c = λ known. inl refl

pub returns-in-Err-clause-cause : goal.returns-in-Err-clause-cause
returns-in-Err-clause-cause g c = λ known.
    twice _ _ _ c.args.line.now c.in-Some.job (g.Y.System.state c.args.system.now) (g.Y.System.faults c.args.system.now) (g.Y.System.faults c.args.system.now)
    c.in-Err.trouble c.in-Some.ensures c.in-Err.ensures.refused c.in-Err.ensures.cause

pub returns-in_default-clause-left : goal.returns-in_default-clause-left
returns-in_default-clause-left g c = λ known. inl refl

pub returns-in_default-clause-cause : goal.returns-in_default-clause-cause
returns-in_default-clause-cause g c = λ known. inr (inr (inl (refl, inl c.in_default.ensures)))
