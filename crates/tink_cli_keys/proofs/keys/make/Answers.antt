use Rattle.std.proofs.Common.{sym}
use Rattle.tink_cli_files.specs.Saved.{new_file}
use Rattle.tink_cli_keys.proofs.KeyFileLemmas.{made_new}
use Rattle.tink_cli_keys.specs.KeyFiles.{format_named, prefix_named}
use Rattle.tink_cli_keys.proofs.RefusingLemmas.{of_new}
use Rattle.tink_cli_keys.proofs.keys.make.Goals as goal

pub returns-in-Ok-clause-done : goal.returns-in-Ok-clause-done
returns-in-Ok-clause-done g c =
    made_new c.args.line.now c.in-Some-Some.template.now c.in-Some-Some.output.now c.prefix_of.result c.format_of.result c.in-Ok.draws (g.Y.System.state c.args.system.now)
    (g.Y.System.state c.draws.new.self) (g.Y.System.state c.save_new.new.system) _ _ c.save_new.result (sym c.in-Some-Some.ensures) (sym c.in-Some-Some.ensures')
    c.prefix_of.ensures c.format_of.ensures c.in-Ok.ensures.drawn c.save_new.ensures.random
    (c.save_new.ensures.done (new_file c.in-Some-Some.template.now c.prefix_of.result c.format_of.result c.in-Ok.draws) c.new_file-made.ensures.answer)

pub returns-in-Ok-clause-refused : goal.returns-in-Ok-clause-refused
returns-in-Ok-clause-refused g c =
    of_new c.prefix_of.result (prefix_named c.args.line.now.prefix) c.format_of.result (format_named c.args.line.now.format) c.in-Some-Some.template.now
    c.in-Some-Some.output.now c.in-Ok.draws (g.Y.System.state c.args.system.now) (g.Y.System.state c.draws.new.self) (g.Y.System.faults c.args.system.now)
    (g.Y.System.faults c.draws.new.self) (g.Y.System.faults c.save_new.new.system) _ _ c.args.line.now.first c.args.line.now.output c.save_new.result
    (sym c.in-Some-Some.ensures) (sym c.in-Some-Some.ensures') c.prefix_of.ensures c.format_of.ensures c.in-Ok.ensures.drawn c.in-Ok.ensures.later
    (c.save_new.ensures.refused (new_file c.in-Some-Some.template.now c.prefix_of.result c.format_of.result c.in-Ok.draws) c.new_file-made.ensures.answer)
