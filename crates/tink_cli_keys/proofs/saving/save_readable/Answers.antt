use Rattle.tink_cli_keys.proofs.RefusingLemmas.{of_draft, on_output, unbegun_new}
use Rattle.tink_cli_keys.proofs.SavingLemmas.{saved_new}
use Rattle.tink_cli_keys.proofs.saving.save_readable.Goals as goal

pub returns-in-Ok-clause-done : goal.returns-in-Ok-clause-done
returns-in-Ok-clause-done g c = λ given answers.
    saved_new given (g.Y.System.state c.args.system.now) (g.Y.System.state c.begin.new.self) (g.Y.System.state c.save_in.new.system) c.args.output.now c.in-Some.name.now
    _ _ _ _ _ c.save_in.result c.in-Some.ensures c.in-Ok.ensures.state c.in-Ok.ensures.begun c.save_in.ensures.others (c.save_in.ensures.fresh given answers)
    (c.save_in.ensures.done given answers)

pub returns-in-Ok-clause-refused : goal.returns-in-Ok-clause-refused
returns-in-Ok-clause-refused g c = λ given answers.
    of_draft given _ (g.Y.System.state c.args.system.now) (g.Y.System.state c.begin.new.self) (g.Y.System.faults c.args.system.now) (g.Y.System.faults c.begin.new.self)
    (g.Y.System.faults c.save_in.new.system) _ c.save_in.result c.in-Ok.ensures.state c.in-Ok.ensures.later c.in-Ok.ensures.unfailed (c.save_in.ensures.refused given answers)

pub returns-in-Err-clause-refused : goal.returns-in-Err-clause-refused
returns-in-Err-clause-refused g c = λ given answers known.
    unbegun_new (g.Y.System.state c.args.system.now) c.in-Some.name.now c.args.output.now _ _ _ _ given c.in-Err.trouble c.in-Some.ensures c.in-Err.ensures.refused

pub returns-in_default-clause-refused : goal.returns-in_default-clause-refused
returns-in_default-clause-refused g c = λ given answers.
    on_output (g.Y.System.state c.args.system.now) c.args.output.now _ _ _ _ given _ c.put_made.result c.in_default.ensures (c.put_made.ensures.refused given answers)
