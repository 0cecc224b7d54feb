use Rattle.cipher.proofs.tweaks.zero.BackendWrapperBlockCipherEncBackend.encrypt_block.Goals as goal

pub returns-clause-value : goal.returns-clause-value
returns-clause-value g c = c.encrypt_block_inout.ensures.value
