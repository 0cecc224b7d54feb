use Rattle.std.proofs.Common.{◌∙◌}
use Rattle.aes_block.proofs.RoundKeys.{enciphered}
use Rattle.aes_block.proofs.schedule.EncryptionDirection.one.Goals as goal

pub returns : goal.returns
returns c = c.encipher.ensures ∙ enciphered c.schedule.inside.round_keys c.schedule.inside.rounds c.args.schedule.now _ c.schedule.invariant.schedule c.schedule.view_is
