use Rattle.tink_cli_files.specs.Wrapping.{wrapped_file}
use Rattle.tink_cli_keys.proofs.MasterLemmas.{drawn_left, drawn_refused, stays}
use Rattle.tink_cli_keys.proofs.RefusingLemmas.{of_draws}
use Rattle.tink_cli_keys.proofs.WrappingLemmas.{wrapped_keys}
use Rattle.tink_cli_keys.proofs.wrapping.wrap_keys.Goals as goal

pub returns-in-Ok-clause-done : goal.returns-in-Ok-clause-done
returns-in-Ok-clause-done g c =
    wrapped_keys c.args.master.now c.args.keys.items c.args.words c.in-Ok.draws (g.Y.System.state c.args.system.now) (g.Y.System.state c.draws.new.self)
    (g.Y.System.state c.save_new.new.system) _ _ c.save_new.result c.in-Ok.ensures.drawn c.save_new.ensures.random
    (λ m is. c.save_new.ensures.done (wrapped_file m c.args.keys.items c.args.words.aad.now c.args.words.format c.in-Ok.draws) (c.wrap_file-made.ensures.answer m is))

pub returns-in-Ok-clause-refused : goal.returns-in-Ok-clause-refused
returns-in-Ok-clause-refused g c =
    drawn_refused c.args.master.now c.args.keys.items c.args.words c.in-Ok.draws (g.Y.System.state c.args.system.now) (g.Y.System.state c.draws.new.self)
    (g.Y.System.faults c.args.system.now) (g.Y.System.faults c.draws.new.self) (g.Y.System.faults c.save_new.new.system) _ _ c.save_new.result c.in-Ok.ensures.drawn c.in-Ok.ensures.later
    (λ m is. c.save_new.ensures.refused (wrapped_file m c.args.keys.items c.args.words.aad.now c.args.words.format c.in-Ok.draws) (c.wrap_file-made.ensures.answer m is))

pub returns-in-Ok-clause-left : goal.returns-in-Ok-clause-left
returns-in-Ok-clause-left g c =
    drawn_left c.args.master.now c.args.keys.items c.args.words c.in-Ok.draws (g.Y.System.state c.args.system.now) (g.Y.System.state c.draws.new.self) _ _ c.save_new.result
    c.in-Ok.ensures.drawn
    (λ m is. c.save_new.ensures.left (wrapped_file m c.args.keys.items c.args.words.aad.now c.args.words.format c.in-Ok.draws) (c.wrap_file-made.ensures.answer m is))

pub returns-in-Err-clause-refused : goal.returns-in-Err-clause-refused
returns-in-Err-clause-refused g c = λ known m is. of_draws _ _ _ _ c.in-Err.trouble c.in-Err.ensures.refused

pub returns-in-Err-clause-left : goal.returns-in-Err-clause-left
returns-in-Err-clause-left g c = λ known m is. stays _ _ _
