use Rattle.tink_range.specs.ChunkReading.{ends_of}
use Rattle.tink_cli_ranges.proofs.LeavingLemmas.{written_leaves}
use Rattle.tink_cli_ranges.proofs.RefusingLemmas.{written_ends}
use Rattle.tink_cli_ranges.proofs.RangingLemmas.{slice_written}
use Rattle.tink_cli_ranges.proofs.ranges.put.Goals as goal

pub returns-clause-done : goal.returns-clause-done
returns-clause-done g c =
    let e = ends_of g.Y.Object.ReadAt.bytes g.Y.Object.ReadAt.faults c.args.object.now c.run_range-answer.new.object c.args.sink.now c.run_range-answer.new.sink in
    slice_written g.K.Sink.got g.K.Sink.faults c.args.keyset.now c.args.job.now.aad.now _ c.args.start c.args.length c.args.object.now c.run_range-answer.new.object e
    c.run_range-answer.result _ c.end_range.result (g.met.Y.Object.ReadAt.told c.args.object.now) c.run_range-answer.ensures.answer
    c.run_range-answer.ensures.slice c.end_range.ensures.refused

pub returns-clause-cause : goal.returns-clause-cause
returns-clause-cause g c =
    let e = ends_of g.Y.Object.ReadAt.bytes g.Y.Object.ReadAt.faults c.args.object.now c.run_range-answer.new.object c.args.sink.now c.run_range-answer.new.sink in
    written_ends g.K.Sink.got g.K.Sink.faults c.args.keyset.now c.args.job.now.aad.now _ c.args.start c.args.length c.args.object.now c.run_range-answer.new.object e _
    c.run_range-answer.result c.end_range.result (g.met.Y.Object.ReadAt.told c.args.object.now)
    (λ some rose. g.met.Y.System.object_sure _ _ c.run_range-answer.ensures.object some rose) (λ rose. rose)
    c.run_range-answer.ensures.answer c.end_range.ensures.ok c.end_range.ensures.refused

pub returns-clause-left : goal.returns-clause-left
returns-clause-left g c =
    let e = ends_of g.Y.Object.ReadAt.bytes g.Y.Object.ReadAt.faults c.args.object.now c.run_range-answer.new.object c.args.sink.now c.run_range-answer.new.sink in
    written_leaves g.K.Sink.got g.K.Sink.faults c.args.keyset.now c.args.job.now.aad.now _ c.args.start c.args.length c.args.object.now c.run_range-answer.new.object e
    c.run_range-answer.result c.end_range.result (g.met.Y.Object.ReadAt.told c.args.object.now)
    (λ some rose. g.met.Y.System.object_sure _ _ c.run_range-answer.ensures.object some rose)
    c.run_range-answer.ensures.answer c.end_range.ensures.ok c.end_range.ensures.refused
