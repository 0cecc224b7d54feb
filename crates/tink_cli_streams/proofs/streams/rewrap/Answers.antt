use Rattle.std.proofs.Common.{inl, inr, refl}
use Rattle.tink_cli_streams.proofs.LineCauseLemmas.{move_from_cause, move_unready}
use Rattle.tink_cli_streams.proofs.MovingLemmas.{moved_by_words}
use Rattle.tink_cli_streams.proofs.streams.rewrap.Goals as goal

pub returns-in-Ok-clause-done : goal.returns-in-Ok-clause-done
returns-in-Ok-clause-done g c =
    let old = g.Y.System.state c.args.system.now in
    moved_by_words c.args.line.now c.in-Some.job c.in-Ok.keyset old (g.Y.System.state c.keyset_for.new.system)
    (g.Y.System.state c.rewrap_from.new.system) _ _ c.rewrap_from.result c.in-Some.ensures c.in-Ok.ensures.state
    c.in-Ok.ensures.loaded c.in-Ok.ensures.spared c.in-Ok.ensures.once c.rewrap_from.ensures.done

pub returns-in-Ok-clause-cause : goal.returns-in-Ok-clause-cause
returns-in-Ok-clause-cause g c =
    move_from_cause c.args.line.now c.in-Some.job c.in-Ok.keyset (g.Y.System.state c.args.system.now) (g.Y.System.state c.keyset_for.new.system)
    (g.Y.System.faults c.args.system.now) (g.Y.System.faults c.keyset_for.new.system) (g.Y.System.faults c.rewrap_from.new.system) c.rewrap_from.result
    c.in-Some.ensures c.in-Ok.ensures.state c.in-Ok.ensures.later c.in-Ok.ensures.loaded c.rewrap_from.ensures.cause

pub returns-in-Err-clause-cause : goal.returns-in-Err-clause-cause
returns-in-Err-clause-cause g c =
    move_unready c.args.line.now c.in-Some.job (g.Y.System.state c.args.system.now) (g.Y.System.faults c.args.system.now) (g.Y.System.faults c.keyset_for.new.system)
    c.in-Err.trouble c.in-Some.ensures c.in-Err.ensures.refused

pub returns-in_default-clause-cause : goal.returns-in_default-clause-cause
returns-in_default-clause-cause g c = λ known. inr (inr (inr (inr (inl (inl (refl, c.in_default.ensures))))))
