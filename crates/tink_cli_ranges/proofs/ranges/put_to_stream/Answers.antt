use Rattle.tink_range.specs.ChunkReading.{ends_of}
use Rattle.tink_cli_ranges.proofs.RefusingLemmas.{unbegun_ends, written_ends}
use Rattle.tink_cli_ranges.proofs.ranges.put_to_stream.Goals as goal

pub returns-in-Ok-clause-cause : goal.returns-in-Ok-clause-cause
returns-in-Ok-clause-cause g c =
    let e = ends_of g.Y.Object.ReadAt.bytes g.Y.Object.ReadAt.faults c.args.object.now c.run_range-answer.new.object c.in-Ok.stream c.run_range-answer.new.sink in
    written_ends g.Y.Stream.Sink.got g.Y.Stream.Sink.faults c.args.keyset.now c.args.job.now.aad.now _ c.args.start c.args.length c.args.object.now c.run_range-answer.new.object e _
    c.run_range-answer.result c.end_range.result (g.met.Y.Object.ReadAt.told c.args.object.now)
    (λ some rose. g.met.Y.System.object_sure _ _ c.run_range-answer.ensures.object some rose) (λ rose. tt)
    c.run_range-answer.ensures.answer c.end_range.ensures.ok c.end_range.ensures.refused

pub returns-in-Err-clause-cause : goal.returns-in-Err-clause-cause
returns-in-Err-clause-cause g c =
    unbegun_ends c.args.keyset.now c.args.job.now.aad.now c.args.start c.args.length (g.Y.Object.ReadAt.bytes c.args.object.now) _ c.in-Err.trouble c.in-Err.ensures.refused
