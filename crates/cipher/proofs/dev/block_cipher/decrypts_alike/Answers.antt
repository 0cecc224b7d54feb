use Rattle.std.proofs.Common.{arith}
use Rattle.cipher.proofs.Alike.{blocks-same}
use Rattle.cipher.proofs.dev.block_cipher.decrypts_alike.Goals as goal

pub returns : goal.returns
returns g c = record { value = grind (arith, blocks-same c.decrypt_blocks.new.blocks) }
