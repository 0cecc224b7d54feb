use Rattle.std.proofs.Common.{arith}
use Rattle.cipher.proofs.Parts.{pick-same}
use Rattle.cipher_modes.proofs.LedOnLemmas.{EachBlock-output, EachBlock-state}
use Rattle.cipher_modes.proofs.modes.BlockModeEncrypt.encrypt_blocks_b2b.Goals as goal

pub returns-clause-ran : goal.returns-clause-ran
returns-clause-ran g c = (grind (arith, EachBlock-output c.encrypt_with_backend.ensures.led, pick-same), grind (arith, EachBlock-state c.encrypt_with_backend.ensures.led, pick-same))
