use Rattle.tink_aead.specs.Envelope.{data_key_aead}
use Rattle.tink_aead.proofs.EnvelopeSteps.{and_refused, built_answers}
use Rattle.tink_aead.proofs.kms_envelope_aead.decrypt_by_key.Goals as goal

pub returns-in-Err : goal.returns-in-Err
returns-in-Err g c =
    and_refused (data_key_aead g.M.KeyManager.url g.M.KeyManager.builds c.args.registry.now.managers c.args.kt.now.type_url c.args.dek.now)
    (λ p. g.M.Family.Aead.Aead.decrypts p c.args.payload.now c.args.additional_data.now) c.in-Err.e c.in-Err.ensures

pub returns-in-Ok : goal.returns-in-Ok
returns-in-Ok g c =
    built_answers (data_key_aead g.M.KeyManager.url g.M.KeyManager.builds c.args.registry.now.managers c.args.kt.now.type_url c.args.dek.now)
    (λ p. g.M.Family.Aead.Aead.decrypts p c.args.payload.now c.args.additional_data.now) c.in-Ok.primitive c.decrypt.result c.in-Ok.ensures c.decrypt.ensures.answer
