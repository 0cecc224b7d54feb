use Rattle.std.proofs.Common.{◌≡◌, ◌∙◌, sym, ap}
use Rattle.std.specs.Prelude.{Some}
use Rattle.tink_cli_jobs.proofs.OutputLemmas.{filed, streamed}
use Rattle.tink_cli_streams.specs.Performing.{Makes}
use Rattle.tink_cli_streams.specs.Trimming.{unread}
use Rattle.tink_cli_streams.proofs.performing.put_to.Goals as goal

pub returns-then-is_stream-clause-done : goal.returns-then-is_stream-clause-done
returns-then-is_stream-clause-done g c =
    streamed (λ X had after. Makes c.args.task c.args.keyset.now c.args.job.now.aad.now c.args.draws.now X had after)
    (λ X. unread c.args.input.now.trims c.args.input.now.held (g.Y.Input.Source.left c.args.input.now.source) ≡ Some X) c.args.job.now.keeps_output (g.Y.System.state c.args.system.now) _ _ c.put_to_stream.result
    (λ known. sym (c.if-is_stream.ensures.known known)) (c.put_to_stream.ensures.state ∙ ap (λ s. g.Y.System.state s) c.is_stream.ensures.still)

pub returns-clause-done : goal.returns-clause-done
returns-clause-done g c =
    filed (λ X had after. Makes c.args.task c.args.keyset.now c.args.job.now.aad.now c.args.draws.now X had after)
    (λ X. unread c.args.input.now.trims c.args.input.now.held (g.Y.Input.Source.left c.args.input.now.source) ≡ Some X) c.args.job.now.keeps_output (g.Y.System.state c.args.system.now) (g.Y.System.state c.is_stream.new.self) _
    c.args.output.now c.put_to_file.result (ap (λ s. g.Y.System.state s) c.is_stream.ensures.still) c.put_to_file.ensures.done
