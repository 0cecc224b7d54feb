use Rattle.cipher_stream.proofs.Rests.{leaves_room}
use Rattle.cipher_stream.specs.ByteStream.{HasMoved, bytes_from, LeavesFewer}
use Rattle.std.proofs.Common.{subst}
use Rattle.cipher_stream.proofs.wrapper.BufferedCoreArrayU8StreamCipher.unchecked_apply_keystream_slices.Goals as goal

pub returns-clause-moved : goal.returns-clause-moved
returns-clause-moved g c =
    let B = g.row.B in
    let k = g.T.StreamCipherCore.keystream in
    subst (λ m. HasMoved (bytes_from B (k c.args.self.now.0) c.args.self.now.1) m (bytes_from B (k c.apply.new.self.0) c.apply.new.self.1)) c.if-input-output.auto.output c.apply.ensures.moved

pub returns-clause-leaves : goal.returns-clause-leaves
returns-clause-leaves g c =
    leaves_room _ _ _ _ _ _ c.requires (subst (λ m. LeavesFewer g.row.B g.T.StreamCipherCore.remaining c.args.self.now m c.apply.new.self) c.if-input-output.auto.output c.apply.ensures.leaves)
