use Rattle.std.proofs.Common.{◌∙◌, ap, sym}
use Rattle.std.specs.Prelude.{Ok}
use Rattle.tink_cli_files.specs.Wrapping.{unwrapped_file}
use Rattle.tink_cli_keys.specs.Wrapping.{unwrap_made}
use Rattle.tink_cli_keys.proofs.MasterLemmas.{by_master, left_by_master, stays, under_left, under_refused}
use Rattle.tink_cli_keys.proofs.RefusingLemmas.{unread}
use Rattle.tink_cli_keys.proofs.WrappingLemmas.{unwrapped_under}
use Rattle.tink_cli_keys.proofs.wrapping.unwrap_under.Goals as goal

pub returns-in-Ok-clause-done : goal.returns-in-Ok-clause-done
returns-in-Ok-clause-done g c =
    unwrapped_under c.args.master.now c.deref.result.now c.args.words (g.Y.System.state c.args.system.now) (g.Y.System.state c.read_keys.new.system)
    (g.Y.System.state c.save_new.new.system) _ _ c.save_new.result c.in-Ok.ensures.state
    (λ known. c.in-Ok.ensures.read known ∙ ap (λ b. Ok b) (sym c.deref.ensures.value))
    (λ m is. c.save_new.ensures.done (unwrapped_file m c.deref.result.now c.args.words.aad.now c.args.words.format) (c.unwrap_file-made.ensures m is))

pub returns-in-Ok-clause-refused : goal.returns-in-Ok-clause-refused
returns-in-Ok-clause-refused g c =
    under_refused (λ m s. unwrap_made m c.args.words) c.args.master.now c.deref.result.now c.args.words (g.Y.System.state c.args.system.now) (g.Y.System.state c.read_keys.new.system)
    (g.Y.System.faults c.args.system.now) (g.Y.System.faults c.read_keys.new.system) (g.Y.System.faults c.save_new.new.system) _ _ c.save_new.result c.in-Ok.ensures.state
    c.in-Ok.ensures.later (λ known. c.in-Ok.ensures.read known ∙ ap (λ b. Ok b) (sym c.deref.ensures.value))
    (by_master c.args.master.now _ _ c.save_new.result
    (λ m is. c.save_new.ensures.refused (unwrapped_file m c.deref.result.now c.args.words.aad.now c.args.words.format) (c.unwrap_file-made.ensures m is)))

pub returns-in-Ok-clause-left : goal.returns-in-Ok-clause-left
returns-in-Ok-clause-left g c =
    under_left (λ m s. unwrap_made m c.args.words) c.args.master.now c.deref.result.now c.args.words (g.Y.System.state c.args.system.now) (g.Y.System.state c.read_keys.new.system) _ _
    c.save_new.result c.in-Ok.ensures.state (λ known. c.in-Ok.ensures.read known ∙ ap (λ b. Ok b) (sym c.deref.ensures.value))
    (left_by_master c.args.master.now _ _ c.save_new.result
    (λ m is. c.save_new.ensures.left (unwrapped_file m c.deref.result.now c.args.words.aad.now c.args.words.format) (c.unwrap_file-made.ensures m is)))

pub returns-in-Err-clause-refused : goal.returns-in-Err-clause-refused
returns-in-Err-clause-refused g c = λ known m is.
    unread (unwrap_made m c.args.words) (g.Y.System.state c.args.system.now) _ _ _ _ c.in-Err.trouble c.in-Err.ensures.refused known

pub returns-in-Err-clause-left : goal.returns-in-Err-clause-left
returns-in-Err-clause-left g c = λ known m is. stays _ _ _
