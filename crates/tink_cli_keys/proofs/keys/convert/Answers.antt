use Rattle.std.proofs.Common.{sym}
use Rattle.tink_cli_files.specs.Saved.{converted_file}
use Rattle.tink_cli_keys.proofs.KeyFileLemmas.{converted}
use Rattle.tink_cli_keys.proofs.RefusingLemmas.{of_conversion}
use Rattle.tink_cli_keys.proofs.keys.convert.Goals as goal

pub returns-in-Ok-clause-done : goal.returns-in-Ok-clause-done
returns-in-Ok-clause-done g c =
    converted c.args.line.now c.in-Some-Some.path.now c.in-Some-Some.output.now c.in-Ok.file.items c.format_of.result (g.Y.System.state c.args.system.now)
    (g.Y.System.state c.read_keys.new.system) (g.Y.System.state c.save_new.new.system) _ _ c.save_new.result (sym c.in-Some-Some.ensures) (sym c.in-Some-Some.ensures')
    c.format_of.ensures c.in-Ok.ensures.state c.in-Ok.ensures.read
    (c.save_new.ensures.done (converted_file c.in-Ok.file.items c.format_of.result) c.converted_file-made.ensures)

pub returns-in-Ok-clause-refused : goal.returns-in-Ok-clause-refused
returns-in-Ok-clause-refused g c =
    of_conversion c.args.line.now c.in-Some-Some.path.now c.in-Some-Some.output.now c.in-Ok.file.items c.format_of.result (g.Y.System.state c.args.system.now)
    (g.Y.System.state c.read_keys.new.system) (g.Y.System.faults c.args.system.now) (g.Y.System.faults c.read_keys.new.system) (g.Y.System.faults c.save_new.new.system) _ _
    c.save_new.result (sym c.in-Some-Some.ensures) (sym c.in-Some-Some.ensures') c.format_of.ensures c.in-Ok.ensures.state c.in-Ok.ensures.later c.in-Ok.ensures.read
    (c.save_new.ensures.refused (converted_file c.in-Ok.file.items c.format_of.result) c.converted_file-made.ensures)
