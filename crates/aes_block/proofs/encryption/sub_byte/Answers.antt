use Rattle.std.proofs.Common.{arith}
use Rattle.aes_block.proofs.TableRules.{entry-SUB_BYTES}
use Rattle.aes_block.proofs.encryption.sub_byte.Goals as goal

pub returns : goal.returns
returns c = entry-SUB_BYTES c.args.x (omega arith)
