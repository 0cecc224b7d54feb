use Rattle.tink_proto.proofs.wire.reading.+varint_from.Given as goal

abbrev pub decreases-varint_from : goal.decreases-varint_from
decreases-varint_from l = l.k
