use Rattle.std.proofs.Common.{arith}
use Rattle.cipher.proofs.Led.{EachBlock-led}
use Rattle.cipher.proofs.Parts.{pick-same}
use Rattle.cipher.proofs.blocks.BlockCipherDecrypt.decrypt_blocks_b2b.Goals as goal

pub returns-clause-value : goal.returns-clause-value
returns-clause-value g c = grind (arith, EachBlock-led c.decrypt_with_backend.ensures.led, pick-same)
