use Rattle.tink_aead.specs.Envelope.{data_key_aead}
use Rattle.tink_aead.proofs.EnvelopeSteps.{build_refuses, envelope_last, text_refused}
use Rattle.tink_aead.proofs.kms_envelope_aead.encrypt_by_key.Goals as goal

pub returns : goal.returns
returns g c =
    build_refuses g.M.Family.Aead.Aead.encrypts c.args.plaintext.now c.args.additional_data.now
    (data_key_aead g.M.KeyManager.url g.M.KeyManager.builds c.args.registry.now.managers c.args.kt.now.type_url) c.args.dek.now c.args.encrypted_dek.now c.args.draws.now c.in-Err.e c.in-Err.ensures

pub returns-in-Ok : goal.returns-in-Ok
returns-in-Ok g c =
    text_refused g.M.Family.Aead.Aead.encrypts c.args.plaintext.now c.args.additional_data.now
    (data_key_aead g.M.KeyManager.url g.M.KeyManager.builds c.args.registry.now.managers c.args.kt.now.type_url) c.args.dek.now c.args.encrypted_dek.now c.args.draws.now
    c.in-Ok.primitive c.in-Ok.ensures c.in-Err-encrypt.e c.encrypt.new.draws c.in-Err-encrypt.ensures.replies

pub returns-in-Ok-encrypt : goal.returns-in-Ok-encrypt
returns-in-Ok-encrypt g c =
    envelope_last g.M.Family.Aead.Aead.encrypts c.args.plaintext.now c.args.additional_data.now
    (data_key_aead g.M.KeyManager.url g.M.KeyManager.builds c.args.registry.now.managers c.args.kt.now.type_url) c.args.dek.now c.args.encrypted_dek.now c.args.draws.now
    c.in-Ok.primitive c.in-Ok.ensures c.in-Ok-encrypt.payload c.encrypt.new.draws c.envelope_of.result
    (g.met.M.Family.Aead.Aead.encrypts_told c.in-Ok.primitive c.args.plaintext.now c.args.additional_data.now c.args.draws.now) c.in-Ok-encrypt.ensures.replies c.envelope_of.ensures
