use Rattle.tink_cli_keys.specs.Wrapping.{wrap_made}
use Rattle.tink_cli_keys.proofs.MasterLemmas.{stays, under_left, under_refused}
use Rattle.tink_cli_keys.proofs.RefusingLemmas.{unread}
use Rattle.tink_cli_keys.proofs.WrappingLemmas.{wrapped_under}
use Rattle.tink_cli_keys.proofs.wrapping.wrap_under.Goals as goal

pub returns-in-Ok-clause-done : goal.returns-in-Ok-clause-done
returns-in-Ok-clause-done g c =
    wrapped_under c.args.master.now c.in-Ok.keys.items c.args.words (g.Y.System.state c.args.system.now) (g.Y.System.state c.read_keys.new.system)
    (g.Y.System.state c.wrap_keys.new.system) _ _ c.wrap_keys.result c.in-Ok.ensures.state c.in-Ok.ensures.read c.wrap_keys.ensures.done

pub returns-in-Ok-clause-refused : goal.returns-in-Ok-clause-refused
returns-in-Ok-clause-refused g c =
    under_refused (λ m s. wrap_made m c.args.words s) c.args.master.now c.in-Ok.keys.items c.args.words (g.Y.System.state c.args.system.now) (g.Y.System.state c.read_keys.new.system)
    (g.Y.System.faults c.args.system.now) (g.Y.System.faults c.read_keys.new.system) (g.Y.System.faults c.wrap_keys.new.system) _ _ c.wrap_keys.result c.in-Ok.ensures.state
    c.in-Ok.ensures.later c.in-Ok.ensures.read c.wrap_keys.ensures.refused

pub returns-in-Ok-clause-left : goal.returns-in-Ok-clause-left
returns-in-Ok-clause-left g c =
    under_left (λ m s. wrap_made m c.args.words s) c.args.master.now c.in-Ok.keys.items c.args.words (g.Y.System.state c.args.system.now) (g.Y.System.state c.read_keys.new.system) _ _
    c.wrap_keys.result c.in-Ok.ensures.state c.in-Ok.ensures.read c.wrap_keys.ensures.left

pub returns-in-Err-clause-refused : goal.returns-in-Err-clause-refused
returns-in-Err-clause-refused g c = λ known m is.
    unread (wrap_made m c.args.words (g.Y.System.state c.args.system.now)) (g.Y.System.state c.args.system.now) _ _ _ _ c.in-Err.trouble c.in-Err.ensures.refused known

pub returns-in-Err-clause-left : goal.returns-in-Err-clause-left
returns-in-Err-clause-left g c = λ known m is. stays _ _ _
