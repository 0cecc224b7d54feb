use Rattle.std.proofs.Common.{Bool, List, ◌∙◌, ap, subst, ℕ}
use Rattle.std.specs.Prelude.{IfErr, None, Option, option_map}
use Rattle.tink_system.specs.Statuses.{trouble_status}
use Rattle.tink_cli_streams.specs.Breaking.{MayBreak}
use Rattle.tink_cli_streams.specs.Performing.{text_for}
use Rattle.tink_cli_streams.specs.Trimming.{unread}
use Rattle.tink_cli_streams.proofs.CauseLemmas.{opened_cause, unopened_cause}
use Rattle.tink_cli_streams.proofs.PerformingLemmas.{performed_on}
use Rattle.tink_cli_streams.proofs.performing.perform_by.Goals as goal

pub returns-in-Ok-clause-broken : goal.returns-in-Ok-clause-broken
returns-in-Ok-clause-broken g c =
    let given = c.new-input.ensures ∙ ap (λ (b : Bool). unread b None (g.Y.Input.Source.left c.in-Ok.source)) c.trims.ensures
    ∙ ap (λ (l : Option (List ℕ)). option_map (text_for c.args.task) l) c.in-Ok.ensures.left in
    subst (λ (l : Option (List ℕ)). IfErr c.perform_on.result (λ t. MayBreak (option_map (λ n. n.now) c.args.job.now.output) c.args.task c.args.keyset.now c.args.job.now.aad.now c.args.draws.now l
    (g.K.Sink.got c.args.sink.now) (g.K.Sink.got c.perform_on.new.sink) (trouble_status t))) given c.perform_on.ensures.broken

pub returns-in-Ok-clause-done : goal.returns-in-Ok-clause-done
returns-in-Ok-clause-done g c =
    let given = c.new-input.ensures ∙ ap (λ (b : Bool). unread b None (g.Y.Input.Source.left c.in-Ok.source)) c.trims.ensures
    ∙ ap (λ (l : Option (List ℕ)). option_map (text_for c.args.task) l) c.in-Ok.ensures.left in
    performed_on c.args.task c.args.keyset.now c.args.job.now.aad.now c.args.draws.now c.args.job.now.keeps_output _ _ (g.Y.System.state c.args.system.now)
    (g.Y.System.state c.open.new.self) (g.Y.System.state c.perform_on.new.system) _ _ _ c.perform_on.result c.in-Ok.ensures.state
    given c.in-Ok.ensures.there c.perform_on.ensures.done

pub returns-in-Ok-clause-cause : goal.returns-in-Ok-clause-cause
returns-in-Ok-clause-cause g c =
    let given = c.new-input.ensures ∙ ap (λ (b : Bool). unread b None (g.Y.Input.Source.left c.in-Ok.source)) c.trims.ensures
    ∙ ap (λ (l : Option (List ℕ)). option_map (text_for c.args.task) l) c.in-Ok.ensures.left in
    opened_cause c.args.task c.args.keyset.now c.args.job.now.aad.now c.args.draws.now (g.Y.System.state c.args.system.now) (option_map (λ n. n.now) c.args.job.now.input) _
    (g.Y.System.faults c.args.system.now) (g.Y.System.faults c.perform_on.new.system) c.perform_on.result given c.in-Ok.ensures.there c.perform_on.ensures.cause

pub returns-in-Err-clause-cause : goal.returns-in-Err-clause-cause
returns-in-Err-clause-cause g c = λ known.
    unopened_cause c.args.task c.args.keyset.now c.args.job.now.aad.now c.args.draws.now (g.Y.System.state c.args.system.now) (option_map (λ n. n.now) c.args.job.now.input)
    (g.Y.System.faults c.args.system.now) (g.Y.System.faults c.open.new.self) c.in-Err.trouble c.in-Err.ensures.refused known
