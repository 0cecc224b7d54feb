use Rattle.std.proofs.Common.{Err}
use Rattle.tink_aead.specs.ComposedKeys.{ctr_built, mac_built}
use Rattle.tink_aead.proofs.ComposedKeyFacts.{joined_err, joined_ok, of_version}
use Rattle.tink_aead.proofs.aes_ctr_hmac_aead_key_manager.composed_of.Goals as goal

pub returns-in-Ok : goal.returns-in-Ok
returns-in-Ok c =
    let key = c.args.key.now in
    of_version key c.new-in-Ok.result c.if-key-ne-AES_CTR_HMAC_AEAD_KEY_VERSION.false
    (joined_ok (ctr_built key.aes_ctr_key) key.hmac_key c.in_ok-cipher.cipher c.in-Ok.mac c.tag_size_of.result c.new-in-Ok.result c.in_ok-cipher.ensures c.in-Ok.ensures c.tag_size_of.ensures c.new-in-Ok.ensures)

pub returns-in-Err : goal.returns-in-Err
returns-in-Err c =
    let key = c.args.key.now in
    of_version key (Err c.in-Err.e) c.if-key-ne-AES_CTR_HMAC_AEAD_KEY_VERSION.false
    (joined_err (ctr_built key.aes_ctr_key) (mac_built key.hmac_key) c.in_ok-cipher.cipher c.in-Err.e c.in_ok-cipher.ensures c.in-Err.ensures)
