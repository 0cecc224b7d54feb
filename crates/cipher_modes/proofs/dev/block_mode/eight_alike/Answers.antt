use Rattle.std.proofs.Common.{arith}
use Rattle.cipher.proofs.Alike.{blocks-same}
use Rattle.cipher_modes.proofs.dev.block_mode.eight_alike.Goals as goal

pub returns : goal.returns
returns g c = record { alike = (grind (arith, c.requires.same, blocks-same c.run_blocks.new.blocks), grind (arith, c.requires.same)) }
