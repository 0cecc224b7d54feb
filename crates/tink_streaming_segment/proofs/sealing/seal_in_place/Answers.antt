use Rattle.tink_streaming_segment.proofs.sealing.seal_in_place.Goals as goal

pub returns : goal.returns
returns g c =
    rw (c.in-Ok.ensures.ok, c.requires.nonce, c.deref.ensures.value, ← c.args.sealer.now.overhead_is) at c.encrypt_segment_in_place.ensures
