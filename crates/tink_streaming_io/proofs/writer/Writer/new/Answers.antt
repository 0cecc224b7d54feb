use Rattle.tink_streaming_io.proofs.FreshFacts.{first_by, fresh_writer, room_by}
use Rattle.tink_streaming_io.proofs.writer.Writer.new.Goals as goal

pub returns-clause-fresh : goal.returns-clause-fresh
returns-clause-fresh g c =
    let m = c.from_parts.ensures in
    let over = c.overhead-overhead.ensures in
    fresh_writer c.from_parts.result _ c.args.params.w _ _ _ m.mode m.segments m.held m.memory m.sealer (first_by c.args.params.ciphertext_segment_size c.args.params.first_ciphertext_segment_offset _ _ over)
    (room_by c.args.params.ciphertext_segment_size _ _ over)
