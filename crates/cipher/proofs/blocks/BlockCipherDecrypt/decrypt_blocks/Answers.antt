use Rattle.std.proofs.Common.{arith}
use Rattle.cipher.proofs.Led.{EachBlock-led}
use Rattle.cipher.proofs.Parts.{pick-nil}
use Rattle.cipher.proofs.blocks.BlockCipherDecrypt.decrypt_blocks.Goals as goal

pub returns : goal.returns
returns g c = record { value = grind (arith, EachBlock-led c.decrypt_with_backend.ensures.led, pick-nil) }
