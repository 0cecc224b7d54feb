use Rattle.std.proofs.Common.{◌≡◌, ◌-◌, ◌+◌, ◌/◌, ap, sym, ◌∙◌, arith}
use Rattle.tink_c_pieces.proofs.DueFacts.{none_due, one_due}
use Rattle.tink_c_pieces.proofs.due.chunks_due.Goals as goal

pub returns-then-more-spare : goal.returns-then-more-spare
returns-then-more-spare c =
    sym (none_due c.args.first c.args.room (c.args.held + c.args.more) c.requires.some (omega (arith, c.if-more-spare.true, c.requires.held)))

pub returns : goal.returns
returns c =
    let e : c.args.more - (c.args.first - c.args.held) - 1 ≡ c.args.held + c.args.more - c.args.first - 1 = omega (arith, c.requires.held) in
    ap (λ x. x / c.args.room + 1) e ∙ sym (one_due c.args.first c.args.room (c.args.held + c.args.more) c.requires.some (omega (arith, c.if-more-spare.false, c.requires.held)))
