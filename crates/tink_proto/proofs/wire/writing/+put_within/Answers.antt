use Rattle.std.proofs.Common.{◌<◌, arith}
use Rattle.wire_format.proofs.WritingLaws.{more_after}
use Rattle.tink_proto.proofs.wire.writing.+put_within.Goals as goal

pub returns : goal.returns
returns t c =
    let some : 0 < c.args.k = omega arith in
    more_after c.args.out.now.items _ _ c.args.k c.args.n some c.if-n-lt128.false c.in_ok-push-2.ensures.items c.in_ok-put_within.ensures
