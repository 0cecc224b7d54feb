use Rattle.std.proofs.Common.{◌≡◌, ap}
use Rattle.std.specs.Prelude.{Some}
use Rattle.tink_cli_jobs.proofs.OutputLemmas.{put_in_file, put_out}
use Rattle.tink_cli_streams.specs.Performing.{Makes}
use Rattle.tink_cli_streams.specs.Trimming.{unread}
use Rattle.tink_cli_streams.proofs.BreakingLemmas.{quiet}
use Rattle.tink_cli_streams.proofs.performing.perform_on.Goals as goal

pub returns-in-None-clause-done : goal.returns-in-None-clause-done
returns-in-None-clause-done g c =
    rw c.in-None.is (put_out (λ X had after. Makes c.args.task c.args.keyset.now c.args.job.now.aad.now c.args.draws.now X had after)
    (λ X. unread c.args.input.now.trims c.args.input.now.held (g.Y.Input.Source.left c.args.input.now.source) ≡ Some X) c.args.job.now.keeps_output _ _ _ _ c.put.result
    (ap (λ s. g.Y.System.state s) c.put.ensures.still) c.put.ensures.done)

pub returns-in-Some-clause-done : goal.returns-in-Some-clause-done
returns-in-Some-clause-done g c =
    rw c.in-Some.is (put_in_file (λ X had after. Makes c.args.task c.args.keyset.now c.args.job.now.aad.now c.args.draws.now X had after)
    (λ X. unread c.args.input.now.trims c.args.input.now.held (g.Y.Input.Source.left c.args.input.now.source) ≡ Some X) c.args.job.now.keeps_output _ _ _ _ c.put_to.result c.put_to.ensures.done)

pub returns-in-None-clause-broken : goal.returns-in-None-clause-broken
returns-in-None-clause-broken g c =
    rw c.in-None.is c.put.ensures.broken

pub returns-in-Some-clause-broken : goal.returns-in-Some-clause-broken
returns-in-Some-clause-broken g c =
    rw c.in-Some.is (quiet c.in-Some.output.now c.args.task c.args.keyset.now c.args.job.now.aad.now c.args.draws.now
    (unread c.args.input.now.trims c.args.input.now.held (g.Y.Input.Source.left c.args.input.now.source)) (g.K.Sink.got c.args.sink.now) c.put_to.result)
