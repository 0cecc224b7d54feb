use Rattle.tink_aead.specs.Envelope.{data_key_aead}
use Rattle.tink_aead.proofs.EnvelopeSteps.{key_opened, key_refused, no_parts}
use Rattle.tink_aead.proofs.kms_envelope_aead.KmsEnvelopeAeadAead.decrypt.Goals as goal

pub returns-in-Err : goal.returns-in-Err
returns-in-Err g c =
    let e = c.args.self.now in
    record {
      answer = no_parts (g.A.Aead.decrypts e.remote) (data_key_aead g.M.KeyManager.url g.M.KeyManager.builds e.registry.now.managers e.dek_template.type_url) g.M.Family.Aead.Aead.decrypts c.args.ciphertext.now c.args.additional_data.now
          c.in-Err.e c.in-Err.ensures;
    }

pub returns-in-Err-decrypt : goal.returns-in-Err-decrypt
returns-in-Err-decrypt g c =
    let e = c.args.self.now in
    record {
      answer = key_refused (g.A.Aead.decrypts e.remote) (data_key_aead g.M.KeyManager.url g.M.KeyManager.builds e.registry.now.managers e.dek_template.type_url) g.M.Family.Aead.Aead.decrypts c.args.ciphertext.now c.args.additional_data.now
          c.in-Ok.encrypted_dek.now c.in-Ok.payload.now c.in-Ok.ensures c.in-Err-decrypt.e c.in-Err-decrypt.ensures.answer;
    }

pub returns-in-Ok-decrypt : goal.returns-in-Ok-decrypt
returns-in-Ok-decrypt g c =
    let e = c.args.self.now in
    record {
      answer = key_opened (g.A.Aead.decrypts e.remote) (data_key_aead g.M.KeyManager.url g.M.KeyManager.builds e.registry.now.managers e.dek_template.type_url) g.M.Family.Aead.Aead.decrypts c.args.ciphertext.now c.args.additional_data.now
          c.in-Ok.encrypted_dek.now c.in-Ok.payload.now c.in-Ok.ensures c.in-Ok-decrypt.dek c.decrypt_by_key.result c.in-Ok-decrypt.ensures.answer c.decrypt_by_key.ensures;
    }
