use Rattle.std.proofs.Common.{arith}
use Rattle.aes_block.proofs.Rounds.{added_by_bytes}
use Rattle.aes_block.proofs.encryption.add_round_key.Goals as goal

pub returns : goal.returns
returns c = added_by_bytes c.args.s c.args.k (omega arith) (omega arith)
