use Rattle.std.proofs.Common.{refl}
use Rattle.tink_cli_streams.proofs.LineCauseLemmas.{move_to_cause, move_unloaded, move_unnamed}
use Rattle.tink_cli_streams.proofs.streams.rewrap_from.Goals as goal

pub returns-in-Ok-clause-cause : goal.returns-in-Ok-clause-cause
returns-in-Ok-clause-cause g c =
    move_to_cause c.args.job.now c.in-Some.words c.args.keyset.now c.in-Ok.to (g.Y.System.state c.args.system.now) (g.Y.System.state c.keyset_of.new.system)
    (g.Y.System.faults c.args.system.now) (g.Y.System.faults c.keyset_of.new.system) (g.Y.System.faults c.rewrap_to.new.system) c.rewrap_to.result
    c.in-Some.is c.in-Ok.ensures.state c.in-Ok.ensures.later c.in-Ok.ensures.loaded c.rewrap_to.ensures.cause

pub returns-in-Err-clause-cause : goal.returns-in-Err-clause-cause
returns-in-Err-clause-cause g c = λ known line is keys.
    move_unloaded line c.args.job.now c.in-Some.words (g.Y.System.state c.args.system.now) (g.Y.System.faults c.args.system.now) (g.Y.System.faults c.keyset_of.new.system)
    c.in-Err.trouble is c.in-Some.is c.in-Err.ensures.refused known

pub returns-in_default-clause-cause : goal.returns-in_default-clause-cause
returns-in_default-clause-cause g c = λ known line is keys.
    move_unnamed line c.args.job.now (g.Y.System.state c.args.system.now) (g.Y.System.faults c.args.system.now) (g.Y.System.faults c.args.system.now) 2 is c.in_default.is refl
