use Rattle.wire_format.proofs.WritingLaws.{body_after}
use Rattle.tink_proto.proofs.wire.writing.put_body.Goals as goal

pub returns-clause-bytes : goal.returns-clause-bytes
returns-clause-bytes c = body_after c.args.out.now.items _ _ _ c.args.number c.args.bytes.now c.in_ok-put_key.ensures c.in_ok-put_varint.ensures c.in_ok-extend_from_slice.ensures.items
