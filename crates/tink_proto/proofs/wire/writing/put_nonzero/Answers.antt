use Rattle.std.proofs.lemmas.Bool.{ne_eqb}
use Rattle.wire_format.specs.Grammar.Content.{Varint}
use Rattle.wire_format.proofs.WritingLaws.{nothing_after, one_after}
use Rattle.tink_proto.proofs.wire.writing.put_nonzero.Goals as goal

pub returns-then-n-eq0 : goal.returns-then-n-eq0
returns-then-n-eq0 c = rw c.if-n-eq0.true (nothing_after c.args.out.now.items)

pub returns : goal.returns
returns c = rw (ne_eqb c.args.n 0 c.if-n-eq0.false) (one_after c.args.out.now.items _ _ c.args.number (Varint c.args.n) c.in_ok-put_key.ensures c.in_ok-put_varint.ensures)
