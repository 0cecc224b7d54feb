use Rattle.std.proofs.Common.{inl, refl}
use Rattle.tink_cli_ranges.proofs.InformingLemmas.{info_of, told_done, told_ends, told_left, untold_ends}
use Rattle.tink_cli_ranges.specs.Informing.{info_lines}
use Rattle.tink_cli_ranges.proofs.informing.inform_by.Goals as goal

pub returns-in-Ok-clause-done : goal.returns-in-Ok-clause-done
returns-in-Ok-clause-done g c =
    told_done c.args.keyset.now c.args.job.now.aad.now (g.Y.Object.ReadAt.bytes c.args.object.now) c.in-Ok.info _ _ c.put_info.result
    (λ X told. info_of c.args.keyset.now c.args.job.now.aad.now (g.Y.Object.ReadAt.bytes c.args.object.now) _ _ _ _ _ c.in-Ok.info X told
    (g.met.Y.Object.ReadAt.told c.args.object.now) c.in-Ok.ensures.answer c.in-Ok.ensures.stream)
    c.put_info.ensures.done

pub returns-in-Ok-clause-left : goal.returns-in-Ok-clause-left
returns-in-Ok-clause-left g c =
    told_left c.args.keyset.now c.args.job.now.aad.now (g.Y.Object.ReadAt.bytes c.args.object.now) c.in-Ok.info _ _ _ _ c.put_info.result
    (λ X told. info_of c.args.keyset.now c.args.job.now.aad.now (g.Y.Object.ReadAt.bytes c.args.object.now) _ _ _ _ _ c.in-Ok.info X told
    (g.met.Y.Object.ReadAt.told c.args.object.now) c.in-Ok.ensures.answer c.in-Ok.ensures.stream)
    c.put_info.ensures.refused

pub returns-in-Ok-clause-cause : goal.returns-in-Ok-clause-cause
returns-in-Ok-clause-cause g c =
    told_ends c.args.keyset.now c.args.job.now.aad.now (g.Y.Object.ReadAt.bytes c.args.object.now) (info_lines c.in-Ok.info) _ _ _ _ c.put_info.result c.put_info.ensures.refused

pub returns-clause-left : goal.returns-clause-left
returns-clause-left g c = λ X told. inl refl

pub returns-clause-cause : goal.returns-clause-cause
returns-clause-cause g c =
    untold_ends c.args.keyset.now c.args.job.now.aad.now (g.Y.Object.ReadAt.bytes c.args.object.now) _ _ _ _ _ _ c.in-Err.e _ (g.met.Y.Object.ReadAt.told c.args.object.now)
    (λ some rose. g.met.Y.System.object_sure _ _ c.in-Err.ensures.object some rose) c.in-Err.ensures.answer c.trouble_of.ensures
