use Rattle.tink_prf.proofs.key_templates.aes_cmac_prf_key_template.Goals as goal

pub returns : goal.returns
returns c = c.new_template.ensures
