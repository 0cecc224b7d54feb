use Rattle.std.proofs.Common.{arith}
use Rattle.tink_streaming_segment.specs.Openers.{segment_map}
use Rattle.tink_streaming_segment.proofs.HeadFacts.{head_opens, head_opened}
use Rattle.tink_streaming_segment.proofs.opening.open_front.Goals as goal

pub returns-clause-ok : goal.returns-clause-ok
returns-clause-ok g c is =
    head_opens (segment_map c.args.opener.now) c.args.number c.size_of-size.result _ c.min-n.result c.args.held.now c.open_held.new.opened.items c.size_of-size.ensures (omega arith) c.min-n.ensures (c.open_held.ensures.ok is)

pub returns-clause-refused : goal.returns-clause-refused
returns-clause-refused g c is t opens =
    c.open_held.ensures.refused is t (head_opened (segment_map c.args.opener.now) c.args.number c.size_of-size.result _ c.min-n.result c.args.held.now t c.size_of-size.ensures c.min-n.ensures opens)
