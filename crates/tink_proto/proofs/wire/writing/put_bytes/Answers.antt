use Rattle.std.proofs.Common.{◌≡◌, length, arith}
use Rattle.std.proofs.lemmas.List.{nil_from_length}
use Rattle.wire_format.proofs.WritingLaws.{nothing_after}
use Rattle.tink_proto.proofs.wire.writing.put_bytes.Goals as goal

pub returns-in-empty-clause-bytes : goal.returns-in-empty-clause-bytes
returns-in-empty-clause-bytes c =
    let none : length c.args.bytes.now ≡ 0 = omega arith in
    rw (nil_from_length c.args.bytes.now none) (nothing_after c.args.out.now.items)
