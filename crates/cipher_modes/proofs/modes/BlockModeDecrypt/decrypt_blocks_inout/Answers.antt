use Rattle.std.proofs.Common.{arith}
use Rattle.cipher.proofs.Parts.{pick-nil}
use Rattle.cipher_modes.proofs.LedOnLemmas.{EachBlock-output, EachBlock-state}
use Rattle.cipher_modes.proofs.modes.BlockModeDecrypt.decrypt_blocks_inout.Goals as goal

pub returns-clause-value : goal.returns-clause-value
returns-clause-value g c = grind (arith, EachBlock-output c.decrypt_with_backend.ensures.led, pick-nil)

pub returns-clause-stepped : goal.returns-clause-stepped
returns-clause-stepped g c = grind (arith, EachBlock-state c.decrypt_with_backend.ensures.led, pick-nil)
