use Rattle.tink_aead.proofs.key_templates.aes128_gcm_key_template.Goals as goal

pub returns : goal.returns
returns c = c.gcm_key_template.ensures
