use Rattle.std.proofs.Common.{arith}
use Rattle.aes_block.proofs.Rounds.{joined_by_bytes}
use Rattle.aes_block.proofs.encryption.block_of_columns.Goals as goal

pub returns : goal.returns
returns c = joined_by_bytes c.args.v c.args.w c.args.x c.args.y (omega arith) (omega arith) (omega arith) (omega arith)
