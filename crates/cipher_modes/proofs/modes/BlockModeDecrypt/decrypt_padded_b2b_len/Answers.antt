use Rattle.cipher_modes.proofs.modes.BlockModeDecrypt.decrypt_padded_b2b_len.Goals as goal

pub returns-clause-told : goal.returns-clause-told
returns-clause-told g c = λ _. c.decrypt_front.ensures.told
