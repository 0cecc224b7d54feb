use Rattle.std.proofs.Common.{◌≡◌, sym, subst, true}
use Rattle.std.specs.Prelude.{IfErr}
use Rattle.tink_system.specs.Statuses.{trouble_status}
use Rattle.tink_cli_words.specs.declared.form.Action.{Action}
use Rattle.tink_cli.specs.Lines.{HasCause}
use Rattle.tink_cli.proofs.CauseFacts.{by_line, by_task}
use Rattle.tink_cli.proofs.commands.command.Goals as goal

-- src/commands.rt:81:1
pub returns-in-Encrypt-clause-refused : goal.returns-in-Encrypt-clause-refused
returns-in-Encrypt-clause-refused g c =
    by_line _ _ _ c.make-in-Encrypt.result c.args.given.now _ _ _ _ _ trouble_status c.if-asks_help.ensures
    (by_task _ _ _ c.make-in-Encrypt.result c.args.given.now.action _ _ _ _ _ _ trouble_status c.in-Encrypt.is c.make-in-Encrypt.ensures.cause)

-- src/commands.rt:81:1
pub returns-in-Rewrap-clause-refused : goal.returns-in-Rewrap-clause-refused
returns-in-Rewrap-clause-refused g c =
    by_line _ _ _ c.rewrap.result c.args.given.now _ _ _ _ _ trouble_status c.if-asks_help.ensures
    (subst (λ (action : Action). IfErr c.rewrap.result (λ t. (g.Y.System.state c.args.system.now).is_known ≡ true
    → HasCause action c.args.given.now.line (g.Y.System.state c.args.system.now) (g.Y.System.faults c.args.system.now)
    (g.Y.System.faults c.rewrap.new.system) (g.K.Sink.faults c.args.sink.now) (g.K.Sink.faults c.rewrap.new.sink) (trouble_status t)))
    (sym c.in-Rewrap.is) c.rewrap.ensures.cause)

pub returns-in-Range-clause-refused : goal.returns-in-Range-clause-refused
returns-in-Range-clause-refused g c =
    by_line _ _ _ c.range.result c.args.given.now _ _ _ _ _ trouble_status c.if-asks_help.ensures
    (subst (λ (action : Action). IfErr c.range.result (λ t. (g.Y.System.state c.args.system.now).is_known ≡ true
    → HasCause action c.args.given.now.line (g.Y.System.state c.args.system.now) (g.Y.System.faults c.args.system.now)
    (g.Y.System.faults c.range.new.system) (g.K.Sink.faults c.args.sink.now) (g.K.Sink.faults c.range.new.sink) (trouble_status t)))
    (sym c.in-Range.is) c.range.ensures.cause)

pub returns-in-Info-clause-refused : goal.returns-in-Info-clause-refused
returns-in-Info-clause-refused g c =
    by_line _ _ _ c.info.result c.args.given.now _ _ _ _ _ trouble_status c.if-asks_help.ensures
    (subst (λ (action : Action). IfErr c.info.result (λ t. (g.Y.System.state c.args.system.now).is_known ≡ true
    → HasCause action c.args.given.now.line (g.Y.System.state c.args.system.now) (g.Y.System.faults c.args.system.now)
    (g.Y.System.faults c.info.new.system) (g.K.Sink.faults c.args.sink.now) (g.K.Sink.faults c.info.new.sink) (trouble_status t)))
    (sym c.in-Info.is) c.info.ensures.cause)
