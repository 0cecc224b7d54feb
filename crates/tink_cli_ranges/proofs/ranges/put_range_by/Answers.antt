use Rattle.std.proofs.Common.{◌≡◌, ap}
use Rattle.std.specs.Prelude.{Some}
use Rattle.tink_cli_jobs.proofs.OutputLemmas.{put_in_file, put_out}
use Rattle.tink_cli_ranges.specs.Ranges.{IsSliceOf}
use Rattle.tink_cli_ranges.proofs.LeavingLemmas.{quiet}
use Rattle.tink_cli_ranges.proofs.ranges.put_range_by.Goals as goal

pub returns-in-None-clause-done : goal.returns-in-None-clause-done
returns-in-None-clause-done g c =
    rw c.in-None.is (put_out (λ X had after. IsSliceOf c.args.keyset.now c.args.job.now.aad.now c.args.start c.args.length X had after)
    (λ X. g.Y.Object.ReadAt.bytes c.args.object.now ≡ Some X) c.args.job.now.keeps_output _ _ _ _ c.put.result
    (ap (λ s. g.Y.System.state s) c.put.ensures.still) c.put.ensures.done)

pub returns-clause-done : goal.returns-clause-done
returns-clause-done g c =
    rw c.in-Some.is (put_in_file (λ X had after. IsSliceOf c.args.keyset.now c.args.job.now.aad.now c.args.start c.args.length X had after)
    (λ X. g.Y.Object.ReadAt.bytes c.args.object.now ≡ Some X) c.args.job.now.keeps_output _ _ _ _ c.put_to.result c.put_to.ensures.done)

pub returns-in-None-clause-cause : goal.returns-in-None-clause-cause
returns-in-None-clause-cause g c = rw c.in-None.is c.put.ensures.cause

pub returns-clause-cause : goal.returns-clause-cause
returns-clause-cause g c = rw c.in-Some.is c.put_to.ensures.cause

pub returns-in-None-clause-left : goal.returns-in-None-clause-left
returns-in-None-clause-left g c = rw c.in-None.is c.put.ensures.left

pub returns-clause-left : goal.returns-clause-left
returns-clause-left g c =
    rw c.in-Some.is (quiet c.in-Some.output.now c.args.start c.args.length c.args.keyset.now c.args.job.now.aad.now (g.Y.Object.ReadAt.bytes c.args.object.now)
    (g.K.Sink.got c.args.sink.now) c.put_to.result)
