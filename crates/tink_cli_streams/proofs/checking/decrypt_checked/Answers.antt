use Rattle.tink_cli_streams.proofs.SuccessLemmas.{checked_then}
use Rattle.tink_cli_streams.proofs.checking.decrypt_checked.Goals as goal

pub returns-in-Ok : goal.returns-in-Ok
returns-in-Ok g c =
    checked_then c.args.line.now (g.Y.System.state c.args.system.now) (g.Y.System.state c.check.new.system) (g.Y.System.faults c.args.system.now) (g.Y.System.faults c.check.new.system)
    (g.Y.System.faults c.make.new.system) c.make.result c.check.ensures.state c.check.ensures.later c.in-Ok.ensures.done c.make.ensures.cause
