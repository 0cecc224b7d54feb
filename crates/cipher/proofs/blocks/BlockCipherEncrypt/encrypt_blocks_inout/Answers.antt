use Rattle.std.proofs.Common.{arith}
use Rattle.cipher.proofs.Led.{EachBlock-led}
use Rattle.cipher.proofs.blocks.BlockCipherEncrypt.encrypt_blocks_inout.Goals as goal

pub returns : goal.returns
returns g c = record { value = grind (arith, EachBlock-led c.encrypt_with_backend.ensures.led) }
