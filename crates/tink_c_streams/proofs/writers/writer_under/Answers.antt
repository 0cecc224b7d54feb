use Rattle.std.proofs.Common.{List, ℕ, subst}
use Rattle.tink_streaming_segment.specs.Sealers.{segment_map}
use Rattle.tink_streaming_io.specs.Sealers.{held_text}
use Rattle.tink_streaming_keys.specs.NewStreams.{IsPrepared}
use Rattle.tink_streaming_keys.specs.StreamKinds.{key_in_set}
use Rattle.tink_c_streams.proofs.WriterFacts.{front_short, with_front_writes}
use Rattle.tink_c_streams.proofs.writers.writer_under.Goals as goal

pub with_front-requires : goal.with_front-requires
with_front-requires c =
    front_short (key_in_set c.args.key.now) c.args.associated_data.now _ _ _ _ _ _ _ _ _ c.requires c.in-Ok.ensures.answer

pub returns-in-Ok : goal.returns-in-Ok
returns-in-Ok c =
    let w = c.in-Ok.field-0.writer in
    let k = key_in_set c.args.key.now in
    let aad = c.args.associated_data.now in
    with_front_writes aad c.args.random.now k c.prepare_stream.new.draws c.in-Ok.field-0.front w c.with_front.result
    (subst (λ (draws : List ℕ). IsPrepared k aad draws c.prepare_stream.new.draws c.in-Ok.field-0.front (segment_map w.sealer) w.sealer.first w.sealer.room w.mode w.segments (held_text w)) c.in_ok-draws.ensures.ok c.in-Ok.ensures.answer)
    c.with_front.ensures.front c.with_front.ensures.writer c.with_front.ensures.refused
