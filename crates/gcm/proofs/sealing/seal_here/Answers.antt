use Rattle.std.proofs.Common.{◌-◌, length, arith}
use Rattle.gcm.proofs.GcmFacts.{sealed_in_place}
use Rattle.gcm.proofs.sealing.seal_here.Goals as goal

pub returns : goal.returns
returns g c =
    sealed_in_place (g.C.BlockCipherEncrypt.encrypts c.args.g.now.cipher) c.args.nonce.now c.args.aad.now c.args.bytes.now c.apply_text.new.bytes c.tag_of-tag.result c.copy_from_slice.new.self (length c.args.bytes.now - 16) (omega arith)
    c.apply_text.ensures c.tag_of-tag.ensures c.copy_from_slice.ensures.after
