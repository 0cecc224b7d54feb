use Rattle.std.proofs.Common.{sym}
use Rattle.tink_cli_keys.proofs.MasterLemmas.{stays_as}
use Rattle.tink_cli_keys.proofs.RefusingLemmas.{of_listing, of_listing_left, unlisted_by}
use Rattle.tink_cli_keys.proofs.keys.show.Goals as goal

pub returns-in-Ok-clause-refused : goal.returns-in-Ok-clause-refused
returns-in-Ok-clause-refused g c =
    of_listing c.args.line.now c.in-Some.path.now c.in-Ok.file.items c.is_json.result (g.Y.System.state c.args.system.now) _ _ _ _ c.put_lines.result (sym c.in-Some.ensures)
    c.is_json.ensures c.in-Ok.ensures.read (c.put_lines.ensures.refused _ _)

pub returns-in-Ok-clause-left : goal.returns-in-Ok-clause-left
returns-in-Ok-clause-left g c =
    of_listing_left c.args.line.now c.in-Some.path.now c.in-Ok.file.items c.is_json.result (g.Y.System.state c.args.system.now) _ _ c.put_lines.result (sym c.in-Some.ensures)
    c.is_json.ensures c.in-Ok.ensures.read c.put_lines.ensures.left

pub returns-in-Err-clause-refused : goal.returns-in-Err-clause-refused
returns-in-Err-clause-refused g c =
    unlisted_by c.args.line.now c.in-Some.path.now (g.Y.System.state c.args.system.now) _ _ _ _ c.in-Err.trouble (sym c.in-Some.ensures) c.in-Err.ensures.refused

pub returns-in-Err-clause-left : goal.returns-in-Err-clause-left
returns-in-Err-clause-left g c = λ known. stays_as _ _ _
