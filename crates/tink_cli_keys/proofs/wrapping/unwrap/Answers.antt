use Rattle.tink_cli_keys.specs.Refusing.{unwrapped_by}
use Rattle.tink_cli_keys.specs.Wrapping.{unwrap_made}
use Rattle.tink_cli_keys.proofs.MasterLemmas.{master_refused, no_unwrap, stays_as, unwrapped_is, words_left, words_refused}
use Rattle.tink_cli_keys.proofs.WrappingLemmas.{unwrapped_by_words}
use Rattle.tink_cli_keys.proofs.wrapping.unwrap.Goals as goal

pub returns-in-Ok-clause-done : goal.returns-in-Ok-clause-done
returns-in-Ok-clause-done g c =
    unwrapped_by_words c.args.line.now c.in-Some.words c.in-Ok.master (g.Y.System.state c.args.system.now) (g.Y.System.state c.master_for.new.system)
    (g.Y.System.state c.unwrap_under.new.system) _ _ c.unwrap_under.result c.in-Some.ensures c.in-Ok.ensures.state c.in-Ok.ensures.loaded c.in-Ok.ensures.spared c.in-Ok.ensures.once
    c.unwrap_under.ensures.done

pub returns-in-Ok-clause-refused : goal.returns-in-Ok-clause-refused
returns-in-Ok-clause-refused g c =
    words_refused (λ m s. unwrap_made m c.in-Some.words) (unwrapped_by c.args.line.now (g.Y.System.state c.args.system.now)) c.args.line.now c.in-Some.words c.in-Ok.master (g.Y.System.state c.args.system.now)
    (g.Y.System.state c.master_for.new.system) (g.Y.System.faults c.args.system.now) (g.Y.System.faults c.master_for.new.system) (g.Y.System.faults c.unwrap_under.new.system) _ _
    c.unwrap_under.result c.in-Some.ensures (unwrapped_is c.args.line.now c.in-Some.words (g.Y.System.state c.args.system.now) c.in-Some.ensures) c.in-Ok.ensures.state c.in-Ok.ensures.later
    c.in-Ok.ensures.loaded c.unwrap_under.ensures.refused

pub returns-in-Ok-clause-left : goal.returns-in-Ok-clause-left
returns-in-Ok-clause-left g c =
    words_left (λ m s. unwrap_made m c.in-Some.words) (unwrapped_by c.args.line.now (g.Y.System.state c.args.system.now)) c.args.line.now c.in-Some.words c.in-Ok.master (g.Y.System.state c.args.system.now)
    (g.Y.System.state c.master_for.new.system) _ _ c.unwrap_under.result c.in-Some.ensures
    (unwrapped_is c.args.line.now c.in-Some.words (g.Y.System.state c.args.system.now) c.in-Some.ensures) c.in-Ok.ensures.state c.in-Ok.ensures.loaded c.unwrap_under.ensures.left

pub returns-in-Err-clause-refused : goal.returns-in-Err-clause-refused
returns-in-Err-clause-refused g c =
    master_refused (λ m. unwrap_made m c.in-Some.words) (unwrapped_by c.args.line.now (g.Y.System.state c.args.system.now)) c.args.line.now c.in-Some.words (g.Y.System.state c.args.system.now)
    (g.Y.System.faults c.args.system.now) (g.Y.System.faults c.master_for.new.system) _ _ c.in-Err.trouble c.in-Some.ensures
    (unwrapped_is c.args.line.now c.in-Some.words (g.Y.System.state c.args.system.now) c.in-Some.ensures) c.in-Err.ensures.refused

pub returns-in-Err-clause-left : goal.returns-in-Err-clause-left
returns-in-Err-clause-left g c = λ known. stays_as _ _ _

pub returns-in_default-clause-refused : goal.returns-in_default-clause-refused
returns-in_default-clause-refused g c = λ known. no_unwrap c.args.line.now (g.Y.System.state c.args.system.now) _ _ _ _ c.in_default.ensures
