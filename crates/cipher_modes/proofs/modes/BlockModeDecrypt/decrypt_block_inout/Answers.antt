use Rattle.cipher_modes.proofs.LedOnLemmas.{OneBlock-state}
use Rattle.cipher_modes.proofs.modes.BlockModeDecrypt.decrypt_block_inout.Goals as goal

pub returns-clause-stepped : goal.returns-clause-stepped
returns-clause-stepped g c = OneBlock-state c.decrypt_with_backend.ensures.led
