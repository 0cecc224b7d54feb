use Rattle.std.proofs.Common.{arith}
use Rattle.aes_block.proofs.Rounds.{shifted_by_bytes}
use Rattle.aes_block.proofs.encryption.sub_and_shift.Goals as goal

pub returns : goal.returns
returns c =
    let e = shifted_by_bytes c.args.s (omega arith) in
    cc e
