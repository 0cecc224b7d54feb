use Rattle.std.proofs.Common.{ap, ◌∙◌, ◌++◌, List, ℕ}
use Rattle.wire_format.specs.Message.{decoded, encoded}
use Rattle.wire_format.proofs.ReadingLaws.{written_again}
use Rattle.tink_proto.proofs.wire.Message.encode.Goals as goal

pub returns-clause-again : goal.returns-clause-again
returns-clause-again g c =
    let written = c.from_vec.ensures ∙ c.in_ok-write_fields.ensures.bytes ∙ ap (λ (x : List ℕ). x ++ encoded g.Self.Message.table.write c.args.self.now) c.new-out.ensures.items in
    ap (decoded g.Self.Message.table.read) written ∙ written_again g.Self.Message.table c.args.self.now c.in_ok-write_fields.ensures.fits
