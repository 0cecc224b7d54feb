use Rattle.tink_cli_keys.specs.Refusing.{wrapped_by}
use Rattle.tink_cli_keys.specs.Wrapping.{wrap_made}
use Rattle.tink_cli_keys.proofs.MasterLemmas.{master_refused, no_wrap, stays_as, wrapped_is, words_left, words_refused}
use Rattle.tink_cli_keys.proofs.WrappingLemmas.{wrapped_by_words}
use Rattle.tink_cli_keys.proofs.wrapping.wrap.Goals as goal

pub returns-in-Ok-clause-done : goal.returns-in-Ok-clause-done
returns-in-Ok-clause-done g c =
    wrapped_by_words c.args.line.now c.in-Some.words c.in-Ok.master (g.Y.System.state c.args.system.now) (g.Y.System.state c.master_for.new.system)
    (g.Y.System.state c.wrap_under.new.system) _ _ c.wrap_under.result c.in-Some.ensures c.in-Ok.ensures.state c.in-Ok.ensures.loaded c.in-Ok.ensures.spared c.in-Ok.ensures.once
    c.wrap_under.ensures.done

pub returns-in-Ok-clause-refused : goal.returns-in-Ok-clause-refused
returns-in-Ok-clause-refused g c =
    words_refused (λ m s. wrap_made m c.in-Some.words s) (wrapped_by c.args.line.now (g.Y.System.state c.args.system.now)) c.args.line.now c.in-Some.words c.in-Ok.master (g.Y.System.state c.args.system.now)
    (g.Y.System.state c.master_for.new.system) (g.Y.System.faults c.args.system.now) (g.Y.System.faults c.master_for.new.system) (g.Y.System.faults c.wrap_under.new.system) _ _
    c.wrap_under.result c.in-Some.ensures (wrapped_is c.args.line.now c.in-Some.words (g.Y.System.state c.args.system.now) c.in-Some.ensures) c.in-Ok.ensures.state c.in-Ok.ensures.later
    c.in-Ok.ensures.loaded c.wrap_under.ensures.refused

pub returns-in-Ok-clause-left : goal.returns-in-Ok-clause-left
returns-in-Ok-clause-left g c =
    words_left (λ m s. wrap_made m c.in-Some.words s) (wrapped_by c.args.line.now (g.Y.System.state c.args.system.now)) c.args.line.now c.in-Some.words c.in-Ok.master (g.Y.System.state c.args.system.now)
    (g.Y.System.state c.master_for.new.system) _ _ c.wrap_under.result c.in-Some.ensures
    (wrapped_is c.args.line.now c.in-Some.words (g.Y.System.state c.args.system.now) c.in-Some.ensures) c.in-Ok.ensures.state c.in-Ok.ensures.loaded c.wrap_under.ensures.left

pub returns-in-Err-clause-refused : goal.returns-in-Err-clause-refused
returns-in-Err-clause-refused g c =
    master_refused (λ m. wrap_made m c.in-Some.words (g.Y.System.state c.args.system.now)) (wrapped_by c.args.line.now (g.Y.System.state c.args.system.now)) c.args.line.now c.in-Some.words (g.Y.System.state c.args.system.now)
    (g.Y.System.faults c.args.system.now) (g.Y.System.faults c.master_for.new.system) _ _ c.in-Err.trouble c.in-Some.ensures
    (wrapped_is c.args.line.now c.in-Some.words (g.Y.System.state c.args.system.now) c.in-Some.ensures) c.in-Err.ensures.refused

pub returns-in-Err-clause-left : goal.returns-in-Err-clause-left
returns-in-Err-clause-left g c = λ known. stays_as _ _ _

pub returns-in_default-clause-refused : goal.returns-in_default-clause-refused
returns-in_default-clause-refused g c = λ known. no_wrap c.args.line.now (g.Y.System.state c.args.system.now) _ _ _ _ c.in_default.ensures
