use Rattle.std.proofs.Common.{◌∙◌, ap, sym}
use Rattle.tink_cli_keys.specs.KeyFiles.{own_growth}
use Rattle.tink_cli_keys.proofs.RefusingLemmas.{of_growth}
use Rattle.tink_cli_keys.proofs.keys.grow.Goals as goal

pub returns-in-Ok-clause-refused : goal.returns-in-Ok-clause-refused
returns-in-Ok-clause-refused g c =
    of_growth c.growth_of-growth.result (own_growth c.args.action c.args.line.now.any) c.in-Some-Some.path.now c.in-Some-Some.template.now c.in-Ok.draws
    (g.Y.System.state c.args.system.now) (g.Y.System.state c.draws.new.self) (g.Y.System.faults c.args.system.now) (g.Y.System.faults c.draws.new.self)
    (g.Y.System.faults c.make_change.new.system) c.args.line.now.first c.args.line.now.second c.make_change.result (sym c.in-Some-Some.ensures) (sym c.in-Some-Some.ensures')
    (c.growth_of-growth.ensures ∙ ap (λ b. own_growth c.args.action b) c.is_any.ensures) c.in-Ok.ensures.drawn c.in-Ok.ensures.later c.make_change.ensures.refused
