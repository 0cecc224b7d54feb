use Rattle.tink_cli_keys.specs.KeyFiles.{changed_file}
use Rattle.tink_cli_keys.specs.Saving.{readable}
use Rattle.tink_cli_keys.proofs.KeyFileLemmas.{changed_whole}
use Rattle.std.proofs.Common.{◌≡◌}
use Rattle.std.specs.Prelude.{Some}
use Rattle.tink_system.specs.Statuses.{trouble_status}
use Rattle.tink_cli_keys.proofs.RefusingLemmas.{known_later, of_read, of_reading}
use Rattle.tink_cli_keys.proofs.keys.change_in.Goals as goal

pub returns-in-Ok-clause-done : goal.returns-in-Ok-clause-done
returns-in-Ok-clause-done g c =
    changed_whole (changed_file c.args.change) c.args.path.now c.in-Ok.file.items (g.Y.System.state c.args.system.now) (g.Y.System.state c.read_file.new.system)
    (g.Y.System.state c.save_in.new.system) (g.Y.Draft.Sink.got c.args.draft) c.save_in.result c.in-Ok.ensures.state c.in-Ok.ensures.content c.save_in.ensures.others
    (c.save_in.ensures.done (readable (changed_file c.args.change c.in-Ok.file.items)) (c.readable.ensures (changed_file c.args.change c.in-Ok.file.items) c.change_file-made.ensures))

pub returns-in-Ok-clause-refused : goal.returns-in-Ok-clause-refused
returns-in-Ok-clause-refused g c =
    of_read (changed_file c.args.change) (g.Y.System.state c.args.system.now) (Some c.args.path.now) c.in-Ok.file.items (g.Y.System.faults c.args.system.now)
    (g.Y.System.faults c.read_file.new.system) (g.Y.System.faults c.save_in.new.system) (g.Y.Draft.Sink.faults c.args.draft ≡ 0) ⊥ _ c.save_in.result c.in-Ok.ensures.read
    c.in-Ok.ensures.later (λ h. absurd h) (known_later (g.Y.System.state c.args.system.now) (g.Y.System.state c.read_file.new.system) _ c.save_in.result c.in-Ok.ensures.state
    (c.save_in.ensures.refused (readable (changed_file c.args.change c.in-Ok.file.items)) (c.readable.ensures (changed_file c.args.change c.in-Ok.file.items) c.change_file-made.ensures)))

pub returns-clause-refused : goal.returns-clause-refused
returns-clause-refused g c = λ known zero.
    of_reading (changed_file c.args.change) (g.Y.System.state c.args.system.now) (Some c.args.path.now) (g.Y.System.faults c.args.system.now)
    (g.Y.System.faults c.read_file.new.system) (g.Y.System.faults c.give_up.new.system) _ c.in-Err.trouble (trouble_status c.give_up.result) c.in-Err.ensures.refused
    c.give_up.ensures.later c.give_up.ensures.status known
