use Rattle.std.proofs.Common.{ap, ◌∙◌}
use Rattle.standards.specs.Gcm.{gcm}
use Rattle.gcm.proofs.Parts.{front_is}
use Rattle.gcm.proofs.sealing.seal.Goals as goal

pub returns : goal.returns
returns g c =
    c.seal_here.ensures
    ∙ ap (gcm (g.C.BlockCipherEncrypt.encrypts c.args.g.now.cipher) c.args.nonce.now c.args.aad.now) (front_is c.args.text.now c.copy_from_slice.new.self c.args.out.now c.copy_from_slice.ensures.after c.requires.room)
