use Rattle.std.proofs.Common.{inl, inr, refl}
use Rattle.tink_cli_ranges.specs.Refusing.{IsEndRefused}
use Rattle.tink_cli_ranges.proofs.InformingLemmas.{opened_done, opened_left}
use Rattle.tink_cli_ranges.proofs.RefusingLemmas.{opened, unopened}
use Rattle.tink_cli_ranges.proofs.informing.info_under.Goals as goal

pub returns-in-Ok-clause-done : goal.returns-in-Ok-clause-done
returns-in-Ok-clause-done g c =
    opened_done c.args.keyset.now c.args.job.now.aad.now (g.Y.System.state c.args.system.now) _ c.in-Some.input.now (g.Y.Object.ReadAt.bytes c.in-Ok.object) _ _ c.info_of.result
    (rw c.in-Some.is refl) c.in-Ok.ensures.bytes c.in-Ok.ensures.there c.info_of.ensures.done

pub returns-in-Ok-clause-left : goal.returns-in-Ok-clause-left
returns-in-Ok-clause-left g c =
    opened_left c.args.keyset.now c.args.job.now.aad.now (g.Y.System.state c.args.system.now) _ c.in-Some.input.now (g.Y.Object.ReadAt.bytes c.in-Ok.object) _ _ c.info_of.result
    (rw c.in-Some.is refl) c.in-Ok.ensures.bytes c.in-Ok.ensures.there c.info_of.ensures.left

pub returns-in-Ok-clause-cause : goal.returns-in-Ok-clause-cause
returns-in-Ok-clause-cause g c =
    opened IsEndRefused _ c.args.keyset.now c.args.job.now.aad.now (g.Y.System.state c.args.system.now) _ c.in-Some.input.now (g.Y.Object.ReadAt.bytes c.in-Ok.object)
    (g.Y.System.faults c.args.system.now) (g.Y.System.faults c.open_at.new.self) c.info_of.result (rw c.in-Some.is refl) c.in-Ok.ensures.bytes c.in-Ok.ensures.there
    c.info_of.ensures.cause

pub returns-in-Err-clause-left : goal.returns-in-Err-clause-left
returns-in-Err-clause-left g c = λ known. inl refl

pub returns-in-Err-clause-cause : goal.returns-in-Err-clause-cause
returns-in-Err-clause-cause g c = λ known.
    unopened IsEndRefused _ c.args.keyset.now c.args.job.now.aad.now (g.Y.System.state c.args.system.now) _ c.in-Some.input.now
    (g.Y.System.faults c.args.system.now) (g.Y.System.faults c.open_at.new.self) c.in-Err.trouble (rw c.in-Some.is refl) c.in-Err.ensures.refused known

pub returns-in_default-clause-left : goal.returns-in_default-clause-left
returns-in_default-clause-left g c = λ known. inl refl

pub returns-in_default-clause-cause : goal.returns-in_default-clause-cause
returns-in_default-clause-cause g c = λ known. inr (inr (inl (refl, rw c.in_default.is refl)))
