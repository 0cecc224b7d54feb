use Rattle.std.proofs.Common.{refl}
use Rattle.tink_cli_jobs.proofs.LoadingLemmas.{loaded_by}
use Rattle.tink_cli_streams.proofs.CheckingLemmas.{checked_line, not_twice, opened_line, unloaded, without_keys}
use Rattle.tink_cli_streams.proofs.checking.check.Goals as goal

pub returns-in_default-clause-succeeds : goal.returns-in_default-clause-succeeds
returns-in_default-clause-succeeds g c = λ known can once. absurd (without_keys c.args.line.now (g.Y.System.state c.args.system.now) c.in_default.ensures can)

pub returns-in-Err-clause-succeeds : goal.returns-in-Err-clause-succeeds
returns-in-Err-clause-succeeds g c = λ known can once. absurd (not_twice c.args.line.now c.in-Some.job c.in-Some.ensures c.in-Err.ensures.cause once)

pub returns-in-Err-keyset_of-clause-succeeds : goal.returns-in-Err-keyset_of-clause-succeeds
returns-in-Err-keyset_of-clause-succeeds g c =
    unloaded c.args.line.now c.in-Some.job (g.Y.System.state c.args.system.now) _ _ c.in-Err-keyset_of.trouble c.in-Some.ensures c.in-Err-keyset_of.ensures.refused

pub returns-in-Ok-clause-succeeds : goal.returns-in-Ok-clause-succeeds
returns-in-Ok-clause-succeeds g c =
    let s = g.Y.System.state c.args.system.now in
    opened_line c.args.line.now c.in-Some.job s (g.Y.System.state c.keyset_of.new.system) c.as_slice.result.now _ _ _ c.check_under.result c.in-Some.ensures
    c.in-Ok.ensures.state c.in-Ok.ensures.later
    (loaded_by s s c.in-Some.job.keys c.in-Ok.keyset c.as_slice.result.now refl c.as_slice.ensures c.in-Ok.ensures.loaded) c.check_under.ensures.succeeds

pub returns-in-Ok-clause-done : goal.returns-in-Ok-clause-done
returns-in-Ok-clause-done g c =
    let s = g.Y.System.state c.args.system.now in
    checked_line c.args.line.now c.in-Some.job s (g.Y.System.state c.keyset_of.new.system) c.as_slice.result.now c.check_under.result c.in-Some.ensures c.in-Ok.ensures.state
    (loaded_by s s c.in-Some.job.keys c.in-Ok.keyset c.as_slice.result.now refl c.as_slice.ensures c.in-Ok.ensures.loaded) c.in_default-spare_input.ensures.once c.check_under.ensures.done
