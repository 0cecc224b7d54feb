use Rattle.std.specs.Prelude.{Some}
use Rattle.tink_system.specs.declared.system.How.TheVariants.{Change}
use Rattle.tink_cli_keys.specs.KeyFiles.{changed_file}
use Rattle.tink_cli_keys.specs.Refusing.{IsMissing, made_of_file}
use Rattle.tink_cli_keys.proofs.RefusingLemmas.{of_begin, of_change}
use Rattle.tink_cli_keys.proofs.keys.make_change.Goals as goal

pub returns-in-Ok-clause-refused : goal.returns-in-Ok-clause-refused
returns-in-Ok-clause-refused g c =
    of_change (λ s. made_of_file (changed_file c.args.change) s (Some c.args.path.now)) (λ s. IsMissing s (Some c.args.path.now)) (g.Y.System.state c.args.system.now)
    (g.Y.System.state c.begin.new.self) (g.Y.System.faults c.args.system.now) (g.Y.System.faults c.begin.new.self) (g.Y.System.faults c.change_in.new.system) _
    c.change_in.result c.in-Ok.ensures.state c.in-Ok.ensures.later c.in-Ok.ensures.unfailed c.change_in.ensures.refused

pub returns-clause-refused : goal.returns-clause-refused
returns-clause-refused g c = λ known. of_begin (g.Y.System.state c.args.system.now) c.args.path.now Change _ _ _ c.in-Err.trouble c.in-Err.ensures.refused
