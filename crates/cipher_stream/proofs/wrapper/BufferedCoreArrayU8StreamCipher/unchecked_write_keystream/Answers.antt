use Rattle.std.proofs.Common.{◌∙◌, length, subst}
use Rattle.cipher_stream.specs.ByteStream.{to_come, bytes_from, HasMoved, LeavesFewer}
use Rattle.cipher_stream.proofs.Rests.{zeros_xored, leaves_room}
use Rattle.cipher_stream.proofs.wrapper.BufferedCoreArrayU8StreamCipher.unchecked_write_keystream.Goals as goal

pub returns-clause-value : goal.returns-clause-value
returns-clause-value g c =
    c.apply.ensures.value ∙ zeros_xored (to_come (bytes_from g.row.B (g.T.StreamCipherCore.keystream c.args.self.now.0) c.args.self.now.1)) c.fill.new.self (length c.args.buf.now) (c.fill.ensures.after (λ y h. h))

pub returns-clause-moved : goal.returns-clause-moved
returns-clause-moved g c =
    let B = g.row.B in
    let k = g.T.StreamCipherCore.keystream in
    subst (λ m. HasMoved (bytes_from B (k c.args.self.now.0) c.args.self.now.1) m (bytes_from B (k c.apply.new.self.0) c.apply.new.self.1)) c.fill.ensures.len c.apply.ensures.moved

pub returns-clause-leaves : goal.returns-clause-leaves
returns-clause-leaves g c =
    leaves_room _ _ _ _ _ _ c.requires (subst (λ m. LeavesFewer g.row.B g.T.StreamCipherCore.remaining c.args.self.now m c.apply.new.self) c.fill.ensures.len c.apply.ensures.leaves)
