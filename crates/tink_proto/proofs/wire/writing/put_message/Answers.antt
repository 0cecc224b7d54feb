use Rattle.wire_format.proofs.WritingLaws.{nothing_after}
use Rattle.tink_proto.proofs.wire.writing.put_message.Goals as goal

pub returns-in-None-clause-bytes : goal.returns-in-None-clause-bytes
returns-in-None-clause-bytes g c = rw c.in-None.is (nothing_after c.args.out.now.items)
