use Rattle.std.proofs.Common.{◌≡◌, ◌∙◌, sym, subst}
use Rattle.std.specs.Prelude.{Result}
use Rattle.tink_system.specs.Statuses.{trouble_status}
use Rattle.tink_cli_words.specs.declared.commands.Given.{Given}
use Rattle.tink_cli_words.specs.declared.wrong.Wrong.{Wrong}
use Rattle.tink_cli.specs.Lines.{LeavesLine}
use Rattle.tink_cli.proofs.CauseFacts.{left_at}
use Rattle.tink_cli.proofs.commands.run.Goals as goal

pub returns-in-Err-command-clause-broken : goal.returns-in-Err-command-clause-broken
returns-in-Err-command-clause-broken g c = λ others failed known.
    let status_is : c.tell.result ≡ trouble_status c.in-Err-command.trouble = c.tell.ensures.status ∙ c.explain-trouble.ensures.status in
    subst (λ (r : Result Given Wrong). LeavesLine r (g.Y.System.state c.args.system.now) (g.Y.System.faults c.args.system.now) (g.Y.System.faults c.explain-trouble.new.system)
    (g.K.Sink.faults c.args.sink.now) (g.K.Sink.faults c.command.new.sink) (g.K.Sink.got c.args.sink.now) (g.K.Sink.got c.command.new.sink) c.refusal.result) c.in-Ok.ensures
    (left_at c.in-Ok.given (g.Y.System.state c.args.system.now) (g.Y.System.faults c.args.system.now) (g.Y.System.faults c.command.new.system)
    (g.Y.System.faults c.explain-trouble.new.system) _ _ _ _ (trouble_status c.in-Err-command.trouble) c.refusal.result c.explain-trouble.ensures.later
    (λ never. c.refusal.ensures.same (λ zero. never (sym status_is ∙ zero)) ∙ status_is) (c.in-Err-command.ensures.broken known) (c.in-Err-command.ensures.refused known))
