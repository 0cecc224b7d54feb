use Rattle.std.proofs.Common.{arith}
use Rattle.aes_block.proofs.TableRules.{entry-INV_SUB_BYTES}
use Rattle.aes_block.proofs.decryption.inv_sub_byte.Goals as goal

pub returns : goal.returns
returns c = entry-INV_SUB_BYTES c.args.x (omega arith)
