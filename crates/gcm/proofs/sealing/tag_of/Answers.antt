use Rattle.std.proofs.Common.{ap, ap₂, replicate, ◌∙◌}
use Rattle.standards.specs.Gcm.{gcm_tag}
use Rattle.standards.specs.Lists.{xor_bytes}
use Rattle.gcm.proofs.Hashes.{ghash_of}
use Rattle.gcm.proofs.sealing.tag_of.Goals as goal

pub returns : goal.returns
unfolding gcm_tag
returns g c =
    let gcm = c.args.g.now in
    let E = g.C.BlockCipherEncrypt.encrypts gcm.cipher in
    c.xor_of.ensures
    ∙ ap₂ xor_bytes (c.hash_of-sum.ensures ∙ ghash_of (E (replicate 16 0)) c.args.aad.now c.args.ciphertext.now gcm.subkey gcm.subkey_of)
    (c.encrypt_block.ensures.value ∙ ap E c.first_block-mask.ensures)
